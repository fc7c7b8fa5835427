-- `deadlock::verdict` meets its contract: the recording's questions, then what is decided of the pattern.
-- Assumes nothing.
use mathlib.Core.Path.{sym}
use Rattle.model.specs.Refused.{refusal}
use Rattle.laws.proofs.Results.{passed_on, is_refused, is_passed}
use Rattle.deadlock.proofs.Answers.{verdict_unchecked, verdict_accepted}
use Rattle.deadlock.proofs.Verdicts.{decided-verdict}
use Rattle.deadlock.proofs.verdict.Goals as goal

pub returns-in_err-records : goal.returns-in_err-records
returns-in_err-records c =
    let q = c.in_err-records.ensures.outcome in
    rw (passed_on c.from_residual.result _ c.from_residual.ensures.1)
    (sym (rw (← q) at (verdict_unchecked c.args.recording.now c.args.pattern.now (is_refused _ _ q))))

pub returns-in_err-decide : goal.returns-in_err-decide
returns-in_err-decide c =
    let (q, none) = rw (c.new-trace.ensures, c.in_ok-records.ensures.events) at c.in_err-decide.ensures in
    let is = verdict_accepted c.args.recording.now c.args.pattern.now
    (is_passed _ c.in_ok-records.ensures.outcome) in
    rw (
      passed_on c.from_residual-in_err-decide.result (refusal c.in_err-decide.field-0.0 0)
          c.from_residual-in_err-decide.ensures.1,
      q,
    ) (rw none at is)

pub returns : goal.returns
returns c =
    let decided = decided-verdict _ _ _ _ c.in_ok-decide.ensures in
    let is = rw (c.new-trace.ensures, c.in_ok-records.ensures.events) at decided in
    rw is at (verdict_accepted c.args.recording.now c.args.pattern.now
    (is_passed _ c.in_ok-records.ensures.outcome))
