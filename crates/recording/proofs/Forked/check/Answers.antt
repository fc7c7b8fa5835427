-- `recording::Forked::check` meets its contract: before each event its state is that of the check, and no
-- earlier event has a fault. Assumes nothing.
use native.Mathlib.Omega.{arith}
use Rattle.model.specs.Refused.{number}
use Rattle.laws.proofs.Numbers.{number_positive}
use Rattle.recording.proofs.Walk.{asked_refused, asked_passed}
use Rattle.recording.proofs.Forked.check.Goals as goal

pub returns-in-Err : goal.returns-in-Err
returns-in-Err c =
    let k = c.loop-e in
    rw c.caused.ensures
    (asked_refused c.args.records.now.bytes.now k.e k.invariant.faultless (number c.in-Err.question)
    (omega (arith, k.auto.e, c.requires))
    (omega (arith, c.loop-e-test.true)) c.in-Err.ensures.fault
    (λ n. absurd (omega (arith, n, number_positive c.in-Err.question))))

pub returns : goal.returns
returns c =
    let k = c.loop-e in
    asked_passed c.args.records.now.bytes.now k.e k.invariant.faultless (omega (arith, c.loop-e-test.false))
