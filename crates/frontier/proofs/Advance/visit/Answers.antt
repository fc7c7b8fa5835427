-- `frontier::Advance::visit` meets its contract: each operation has its law. Assumes nothing.
use Prim.Native.Nat.{ℕ}
use mathlib.Core.Path.{◌≡◌, refl, ◌∙◌}
use Rattle.model.specs.Trace.{at}
use Rattle.model.specs.Recording.{decode_all}
use Rattle.laws.specs.EventKinds.{marked}
use Rattle.laws.proofs.Trace.{record-event}
use Rattle.laws.proofs.Marks.{WithMark, marked_outer}
use Rattle.laws.proofs.WellFormed.{acquire_lt}
use Rattle.recording.proofs.Accepted.{sound}
use Rattle.recording.specs.declared.Op.TheVariants.{Acquire}
use Rattle.recording.proofs.Laws.{code_apart}
use Rattle.frontier.proofs.Leaves.{other_visited, uncounted_visited, acquire_visited, awaited_in}
use Rattle.frontier.proofs.Advance.visit.Goals as goal
use Rattle.frontier.proofs.Advance.visit.Goals.{Start}

-- The event with its operation and its mark.
unpacked : (c : goal.Start) (op m : ℕ) → op ≡ (at (decode_all c.args.trace.now.records.bytes.now) c.args.f).op
    → m ≡ marked (decode_all c.args.trace.now.records.bytes.now) c.args.f
    → WithMark (decode_all c.args.trace.now.records.bytes.now) c.args.f op m
unpacked c op m is mark =
    let (h, k) = record-event c.args.trace.now.records.bytes.now c.args.f (c.requires.0, c.requires.1) in
    record { event = h; op_is = is; mark_is = mark }

pub visit_acquire-requires : goal.visit_acquire-requires
visit_acquire-requires c =
    let b = c.args.trace.now.records.bytes.now in
    let u = unpacked (goal.at.visit_acquire-requires c).Start 2 _ c.in-Acquire.ensures c.matching.ensures in
    let outer = marked_outer u refl c.if-matching-f.true in (
      c.requires.0,
      c.requires.1,
      acquire_lt (decode_all b) (sound c.args.trace.now.records) c.args.f (rw outer tt),
    )

pub want_event-requires : goal.want_event-requires
want_event-requires c =
    let (h, k) = record-event c.args.trace.now.records.bytes.now c.args.f (c.requires.0, c.requires.1) in
    awaited_in c.args.trace.now.records.bytes.now c.args.f (h, c.requires.1) _ c.awaited.ensures

pub returns-then-matching-f : goal.returns-then-matching-f
returns-then-matching-f c =
    let u = unpacked (goal.at.returns-then-matching-f c).Start 2 _ c.in-Acquire.ensures c.matching.ensures in
    let a = c.args.self.now in
    let (want, latest) = acquire_visited u a.want a.latest refl c.if-matching-f.true (refl, refl) in
    c.visit_acquire.ensures ∙ rw (want, latest) refl

pub returns-else-matching-f : goal.returns-else-matching-f
returns-else-matching-f c =
    let u = unpacked (goal.at.returns-else-matching-f c).Start 2 _ c.in-Acquire.ensures c.matching.ensures in
    let a = c.args.self.now in
    let (want, latest) = uncounted_visited u a.want a.latest refl c.if-matching-f.false in
    λ i. record a { latest = latest i; want = want i }

pub returns-in_default : goal.returns-in_default
returns-in_default c =
    let u = unpacked (goal.at.returns-in_default c).Start _ _ c.operation.ensures refl in
    let a = c.args.self.now in
    let (want, latest) = other_visited u _ a.latest (code_apart _ Acquire c.in_default.not-Acquire)
    c.awaited.ensures refl in
    c.want_event.ensures ∙ (λ i. record a { latest = latest i; want = want i })
