-- `deadlock::pattern::Pattern::read` meets its contract: length, first number, and the rest. Assumes nothing.
use mathlib.Core.Path.{◌≡◌, sym, ◌∙◌}
use mathlib.Core.Bool.{true, ◌&&◌}
use mathlib.Core.Logic.{⊎_elim, inl, inr}
use native.Mathlib.Omega.{arith}
use lib.Dec.{T}
use Rattle.model.specs.Bytes.{numbers, is_whole}
use Rattle.model.specs.Pattern.{is_pattern}
use Rattle.model.specs.Trace.{is_event, is_acquire}
use Rattle.model.specs.Recording.{decode_all}
use Rattle.laws.proofs.Tests.{parts}
use Rattle.laws.proofs.Pattern.{lent_events}
use Rattle.laws.proofs.Trace.{is_event_iff, decode_all-length}
use Rattle.deadlock.proofs.Chains.{lends_odd, lends_size, lends_first, lends_rest}
use Rattle.deadlock.proofs.pattern.Pattern.read.Goals as goal
use Rattle.deadlock.proofs.pattern.Pattern.read.Goals.{
  Else-not-completes,
  then-not-begins-via-then-not-begins,
  then-not-begins-via-else-not-begins+then-not-completes,
}

pub returns-then-length-ne0-clause-lends : goal.returns-then-length-ne0-clause-lends
returns-then-length-ne0-clause-lends c =
    let σ = decode_all c.args.trace.now.records.bytes.now in
    let p = c.args.bytes.now in
    ⊎_elim (lends_odd σ p) (⊎_elim (λ (even, short). lends_size σ p even (inl short))
    (λ (even, least, long). lends_size σ p even (inr long))) c.then-length-ne0.either

pub completes-requires : goal.completes-requires
completes-requires c =
    let b = c.args.trace.now.records.bytes.now in
    let σ = decode_all b in
    let a = c.number-a.result in
    let t : T (is_event σ a && is_acquire σ a) = rw (← c.if-not-begins.ensures) tt in
    let event = (is_event_iff σ a).0 (search parts) in
    (event.0, omega (arith, decode_all-length b), search parts, omega (arith, c.if-length-lt4.false))

pub returns-then-not-begins-clause-lends : goal.returns-then-not-begins-clause-lends
returns-then-not-begins-clause-lends c =
    let σ = decode_all c.args.trace.now.records.bytes.now in
    let p = c.args.bytes.now in
    elim c.then-not-begins.branch [
      | then-not-begins-via-then-not-begins w ↦ lends_first σ p c.if-length-ne0.false c.if-length-lt4.false
          c.if-length-gt32.false c.number-a.ensures (sym c.begins.ensures ∙ w.if-not-begins.true)
      | then-not-begins-via-else-not-begins+then-not-completes w ↦ sym w.if-not-completes.true
          ∙ w.completes.ensures ∙ lends_rest σ p c.if-length-ne0.false c.if-length-lt4.false
          c.if-length-gt32.false c.number-a.ensures (sym c.begins.ensures ∙ w.if-not-begins.false)
    ]

-- The lent bytes are a pattern.
lent : (c : Else-not-completes)
    → (is_whole c.args.bytes.now
    && is_pattern (decode_all c.args.trace.now.records.bytes.now) (numbers c.args.bytes.now)) ≡ true
lent c =
    sym (lends_rest _ c.args.bytes.now c.if-length-ne0.false c.if-length-lt4.false c.if-length-gt32.false
    c.number-a.ensures (sym c.begins.ensures ∙ c.if-not-begins.false))
    ∙ sym c.completes.ensures ∙ c.if-not-completes.false

pub invariant_of-result : goal.invariant_of-result
invariant_of-result c = record { events = lent_events _ c.args.bytes.now (lent c) }

pub returns-clause-lends : goal.returns-clause-lends
returns-clause-lends c = sym (lent (goal.at.returns-clause-lends c).Else-not-completes)
