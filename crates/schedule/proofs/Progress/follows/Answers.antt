-- `schedule::Progress::follows` meets its contract: each return cites the law of its case. Assumes nothing.
use Prim.Native.Nat.{ℕ, ◌*◌, ◌≤◌}
use mathlib.Core.Path.{◌≡◌, refl, sym, ◌∙◌}
use native.Mathlib.Omega.{arith}
use lib.ListN.{length}
use borrow.Author.Tests.{eq-eqb}
use Rattle.model.specs.Trace.{at}
use Rattle.model.specs.Recording.{decode_all}
use Rattle.laws.specs.EventKinds.{marked}
use Rattle.laws.proofs.Trace.{record-event}
use Rattle.laws.proofs.Marks.{marked_outer}
use Rattle.laws.proofs.WellFormed.{acquire_lt}
use Rattle.recording.proofs.Accepted.{sound}
use Rattle.recording.specs.declared.Op.TheVariants.{Read, Acquire}
use Rattle.recording.proofs.Laws.{code_apart}
use Rattle.schedule.proofs.Laws.{no_such_event, not-next}
use Rattle.schedule.proofs.Asking.{Asked, asked_read, asked_acquire}
use Rattle.schedule.proofs.Asking.{asked_uncounted, asked_other, awaited_in}
use Rattle.schedule.proofs.Progress.follows.Goals as goal
use Rattle.schedule.proofs.Progress.follows.Goals.{After-operation, After-matching, Else-len-at}

-- The number is that of an event: its record is there,
recorded : (c : goal.Else-len-at) → let a = c.args in
    (1 ≤ a.e) × (2 * a.e ≤ length a.trace.now.records.bytes.now)
recorded c = omega (arith, c.if-e-eq0.false, c.if-len-at.false, c.len.ensures)

-- and it is one of the trace.
inside : (c : goal.Else-len-at) → let a = c.args in
    (1 ≤ a.e) × (a.e ≤ length (decode_all a.trace.now.records.bytes.now))
inside c = record-event _ _ (recorded c)

-- The event comes next in its task; its operation and mark.
unpacked : (c : goal.After-operation) (op m : ℕ)
    → op ≡ (at (decode_all c.args.trace.now.records.bytes.now) c.args.e).op
    → m ≡ marked (decode_all c.args.trace.now.records.bytes.now) c.args.e
    → Asked (decode_all c.args.trace.now.records.bytes.now) c.args.self.now c.args.e op m
unpacked c op m is mark =
    let (h, k) = inside (goal.at.After-operation c).Else-len-at in record {
      sound = sound c.args.trace.now.records;
      inside = (h, k);
      next = sym c.is_next.ensures ∙ c.if-not-is_next.false;
      mark = record { event = h; op_is = is; mark_is = mark };
    }

-- An acquire, with its mark.
acquire : (c : goal.After-matching)
    → Asked (decode_all c.args.trace.now.records.bytes.now) c.args.self.now c.args.e 2 c.matching.result
acquire c = unpacked (goal.at.After-matching c).After-operation 2 _ c.in-Acquire.ensures c.matching.ensures

pub returns-then-e-eq0 : goal.returns-then-e-eq0
returns-then-e-eq0 c = λ before z. no_such_event _ before c.args.e (omega (arith, c.if-e-eq0.true))

pub returns-then-len-at : goal.returns-then-len-at
returns-then-len-at c = λ before z.
    no_such_event _ before c.args.e (omega (arith, c.if-len-at.true, c.len.ensures))

pub returns-then-not-is_next : goal.returns-then-not-is_next
returns-then-not-is_next c = λ before z.
    not-next _ before _ z c.args.e (inside (goal.at.returns-then-not-is_next c).Else-len-at)
    (sound c.args.trace.now.records)
    (sym c.is_next.ensures ∙ c.if-not-is_next.true)

pub returns-in-Read : goal.returns-in-Read
returns-in-Read c =
    let u = unpacked (goal.at.returns-in-Read c).After-operation 0 _ c.in-Read.ensures refl in
    asked_read u refl _ _ c.object.ensures c.awaited.ensures

pub is_ready-requires : goal.is_ready-requires
is_ready-requires c =
    awaited_in c.args.trace.now.records.bytes.now c.args.e c.awaited-in_default.ensures
    (recorded (goal.at.is_ready-requires c).Else-len-at).1

pub returns-in_default : goal.returns-in_default
returns-in_default c =
    let u = unpacked (goal.at.returns-in_default c).After-operation _ _ c.operation.ensures refl in
    asked_other u
    (code_apart _ Read c.in_default.not-Read) (code_apart _ Acquire c.in_default.not-Acquire)
    c.awaited-in_default.ensures c.is_ready.ensures

pub returns-then-matching-e : goal.returns-then-matching-e
returns-then-matching-e c =
    let u = acquire (goal.at.returns-then-matching-e c).After-matching in
    rw (eq-eqb _ _ c.if-matching-e.true) (asked_uncounted u refl c.if-matching-e.true)

pub is_unlocked-requires : goal.is_unlocked-requires
is_unlocked-requires c =
    let u = acquire (goal.at.is_unlocked-requires c).After-matching in
    let outer = marked_outer u.mark refl c.if-matching-e.false in
    let lock = acquire_lt _ u.sound c.args.e (rw outer tt) in (
      u.inside.0,
      (recorded (goal.at.is_unlocked-requires c).Else-len-at).1,
      lock,
      c.requires _ lock,
    )

pub returns-else-matching-e : goal.returns-else-matching-e
returns-else-matching-e c =
    let u = acquire (goal.at.returns-else-matching-e c).After-matching in
    asked_acquire u refl c.if-matching-e.false _ c.is_unlocked.ensures
