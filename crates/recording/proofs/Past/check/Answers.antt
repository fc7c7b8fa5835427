-- `recording::Past::check` meets its contract: before each event its state is that of the check, no earlier
-- event has a fault, and none is a start or a join. Assumes nothing.
use mathlib.Core.Path.{sym}
use native.Mathlib.Omega.{arith}
use Rattle.model.specs.Refused.{number}
use Rattle.laws.proofs.Numbers.{number_positive}
use Rattle.recording.proofs.Walk.{plain-next, asked_refused, asked_passed}
use Rattle.recording.proofs.Past.check.Goals as goal

pub loop-e-init : goal.loop-e-init
loop-e-init c = record {
  faultless = λ f a b. absurd (omega arith);
  unforked = λ f a b. absurd (omega arith);
  done = c.requires;
}

pub returns-in-Err : goal.returns-in-Err
returns-in-Err c =
    let k = c.loop-e in
    rw c.caused.ensures
    (asked_refused c.args.records.now.bytes.now k.e k.invariant.faultless (number c.in-Err.question) k.auto.e
    (omega (arith, c.loop-e-test.true)) (sym c.in-Err.ensures.1)
    (λ n. absurd (omega (arith, n, number_positive c.in-Err.question))))

pub loop-e-preserved : goal.loop-e-preserved
loop-e-preserved c =
    let passed = rw c.in-Ok-Passed.field-0-is at c.in-Ok-Passed.ensures in
    plain-next c.loop-e.invariant passed.0 passed.1 passed.2

pub returns : goal.returns
returns c =
    let k = c.loop-e in
    asked_passed c.args.records.now.bytes.now k.e k.invariant.faultless (omega (arith, c.loop-e-test.false))
