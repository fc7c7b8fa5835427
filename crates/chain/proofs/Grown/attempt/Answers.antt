-- `chain::Grown::attempt` meets its contract: the laws say so of each outcome. Assumes nothing.
use Prim.Native.Nat.{ℕ}
use mathlib.Core.Path.{sym, ap, ◌∙◌, ◌≡◌}
use mathlib.Core.Logic.{⊎_elim}
use Rattle.std.specs.Prelude.{Some}
use borrow.Author.Rules.{rules}
use Rattle.model.specs.Recording.{decode_all}
use Rattle.laws.proofs.Trace.{record-event}
use Rattle.recording.proofs.Accepted.{sound}
use Rattle.deadlock.specs.Judged.{of_events}
use Rattle.chain.proofs.Laws.{begun, grow_reaches, attempted_nowhere, attempted_judged}
use Rattle.chain.proofs.Grown.attempt.Goals as goal
use Rattle.chain.proofs.Grown.attempt.Goals.{After-extend}

pub extend-requires : goal.extend-requires
extend-requires c =
    let a = c.args in
    let (own, from) = begun a.self.now.last a.frontier.now c.task-own.ensures.1 c.keep.ensures
    c.get_or_insert_with.ensures.cases (λ p. search rules) in (
      ⊎_elim (λ (q : c.get_or_insert_with.result.now.1 ≡ a.frontier.now). rw q c.requires.2.settled)
          (λ q. let (d, low, less, same, before) = c.requires.3.again _ q in before.settled) from,
      c.requires.4,
      c.requires.5,
    )

pub returns-then-not-lock_in_mask : goal.returns-then-not-lock_in_mask
returns-then-not-lock_in_mask c =
    let a = c.args in λ d z.
    attempted_nowhere (decode_all a.trace.now.records.bytes.now) a.k (of_events a.events.now d) a.e a.self.now
    a.back.now z (sym c.lock_in_mask.ensures ∙ c.if-not-lock_in_mask.true)

pub returns : goal.returns
returns c =
    let a = c.args in
    let b = a.trace.now.records.bytes.now in
    let σ = decode_all b in
    let event = record-event b a.e (c.requires.4, c.requires.5) in
    let (own, from) = begun a.self.now.last a.frontier.now c.task-own.ensures.1 c.keep.ensures
    c.get_or_insert_with.ensures.cases (λ p. search rules) in
    let reached = grow_reaches σ (sound a.trace.now.records) a.e event a.frontier.now _
    a.self.now from _ _ c.extend.ensures _ c.requires.0 c.requires.2 c.requires.3 in λ d z.
    rw c.judge.ensures (attempted_judged σ a.k (of_events a.events.now d) a.e a.self.now _ c.extend.new.self
    (ap (λ (t : ℕ). Some (t, c.extend.new.self)) own) c.requires.0 event reached)
