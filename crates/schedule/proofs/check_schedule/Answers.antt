-- `schedule::check_schedule` meets its contract: the recording's questions, then question 10, then the
-- schedule. Assumes nothing.
use mathlib.Core.Path.{sym}
use Rattle.model.specs.Refused.{refusal}
use Rattle.laws.proofs.Results.{passed_on, is_refused, is_passed}
use Rattle.schedule.proofs.Answers.{checked_unchecked, checked_unlent, checked_lent}
use Rattle.schedule.proofs.check_schedule.Goals as goal

pub returns-in_err-records : goal.returns-in_err-records
returns-in_err-records c =
    let a = c.args in
    let q = c.in_err-records.ensures.outcome in
    rw (passed_on c.from_residual.result _ c.from_residual.ensures.1)
    (sym (rw (← q) at (checked_unchecked a.recording.now a.pattern.now a.schedule.now (is_refused _ _ q))))

pub returns-in_err-pattern : goal.returns-in_err-pattern
returns-in_err-pattern c =
    let a = c.args in
    let none = c.in_err-pattern.ensures in
    let passed = passed_on c.from_residual-in_err-pattern.result (refusal c.in_err-pattern.field-0.0 0)
    c.from_residual-in_err-pattern.ensures.1 in
    let is = rw (c.new-trace.ensures, c.in_ok-records.ensures.events) at none.lends in
    rw (passed, none.gives) (sym (checked_unlent a.recording.now a.pattern.now a.schedule.now
    (is_passed _ c.in_ok-records.ensures.outcome) (sym is)))

pub returns : goal.returns
returns c =
    let a = c.args in
    let lent = c.in_ok-pattern.ensures in
    let is = rw (c.new-trace.ensures, c.in_ok-records.ensures.events) at lent.lends in
    let (trace, bytes) = lent.gives in
    rw (c.witnessed.ensures, trace, bytes, c.new-trace.ensures, c.in_ok-records.ensures.events)
    (sym (checked_lent a.recording.now a.pattern.now a.schedule.now
    (is_passed _ c.in_ok-records.ensures.outcome) (sym is)))
