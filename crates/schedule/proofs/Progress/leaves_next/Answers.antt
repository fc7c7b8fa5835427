-- `schedule::Progress::leaves_next` meets its contract: the events before number i of the pattern are next,
-- so the rest decides. Assumes nothing.
use native.Mathlib.Omega.{arith}
use Rattle.model.specs.Bytes.{numbers}
use Rattle.laws.proofs.Passing.{passing_stop, passing_end}
use Rattle.schedule.proofs.Progress.leaves_next.Goals as goal

pub returns-then-not-is_next : goal.returns-then-not-is_next
returns-then-not-is_next c =
    let l = c.loop-i in
    passing_stop _ (numbers c.args.pattern.now.bytes.now) l.i l.invariant
    (omega (arith, c.loop-i-test.true, c.len-i-end.ensures)) c.event.ensures.2 c.is_next.ensures
    c.if-not-is_next.true

pub returns : goal.returns
returns c =
    let l = c.loop-i in
    passing_end _ (numbers c.args.pattern.now.bytes.now) l.i l.invariant
    (omega (arith, c.loop-i-test.false, c.len-i-end.ensures))
