-- `deadlock::witness` meets its contract: the recording's questions, then the records decide.
-- Assumes nothing.
use mathlib.Core.Path.{sym, ◌∙◌}
use Rattle.laws.proofs.Results.{passed_on, is_refused, is_passed}
use Rattle.deadlock.proofs.Answers.{witness_unchecked, witness_accepted}
use Rattle.deadlock.proofs.witness.Goals as goal

pub returns-in_err-records : goal.returns-in_err-records
returns-in_err-records c =
    let a = c.args in
    let q = c.in_err-records.ensures.outcome in
    let (x, y) = witness_unchecked a.recording.now a.pattern.now a.out.now (is_refused _ _ q) in
    record {
      answer = rw (passed_on c.from_residual.result _ c.from_residual.ensures.1) (sym (rw (← q) at x));
      output = sym y;
    }

pub returns : goal.returns
returns c =
    let a = c.args in
    let (x, y) =
    witness_accepted a.recording.now a.pattern.now a.out.now (is_passed _ c.in_ok-records.ensures.outcome) in
    let events = rw (← c.new.ensures) at c.in_ok-records.ensures.events in
    record {
      answer = (rw events at c.witness_trace.ensures.answer) ∙ sym x;
      output = (rw events at c.witness_trace.ensures.output) ∙ sym y;
    }
