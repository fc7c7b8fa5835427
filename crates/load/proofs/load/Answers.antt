-- `load::load` meets its contract: the recording's questions, then 14, then the count of events.
-- Assumes nothing.
use mathlib.Core.Path.{sym}
use borrow.Author.Tests.{lt-ltb, le-ltb}
use Rattle.model.specs.Trace.{locks}
use Rattle.laws.proofs.Results.{passed_on, is_refused, is_passed}
use Rattle.laws.proofs.Answers.{load_unchecked, load_unknown, load_answer}
use Rattle.load.proofs.load.Goals as goal

pub returns-in_err-records : goal.returns-in_err-records
returns-in_err-records c =
    let q = c.in_err-records.ensures.outcome in
    rw (passed_on c.from_residual.result _ c.from_residual.ensures.1)
    (sym (rw (← q) at (load_unchecked c.args.recording.now c.args.lock (is_refused _ _ q))))

pub returns-then-lock-ge64 : goal.returns-then-lock-ge64
returns-then-lock-ge64 c =
    rw c.into.ensures
    (sym (load_unknown c.args.recording.now c.args.lock
    (is_passed _ c.in_ok-records.ensures.outcome)
    (le-ltb c.args.lock locks c.if-lock-ge64.true)))

pub returns : goal.returns
returns c =
    let b = c.args.recording.now in
    let ok = is_passed _ c.in_ok-records.ensures.outcome in
    let events = c.in_ok-records.ensures.events in
    let n = rw events at c.len-n.ensures.1 in
    let h = rw events at c.count_held.ensures.1 in
    rw (c.percentage.ensures, n, h)
    (sym (load_answer b c.args.lock ok (lt-ltb c.args.lock locks c.if-lock-ge64.false)))
