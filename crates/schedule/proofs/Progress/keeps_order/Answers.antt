-- `schedule::Progress::keeps_order` meets its contract: before each number the tables hold what is listed,
-- and the rest of the schedule decides. Assumes nothing.
use mathlib.Core.Path.{sym}
use Rattle.model.specs.Recording.{decode_all}
use Rattle.schedule.proofs.Walk.{Turn, follows_in, walking_start}
use Rattle.schedule.proofs.Walk.{walking_stop, walking_may, walking-next, walking_end}
use Rattle.schedule.proofs.Progress.keeps_order.Goals as goal
use Rattle.schedule.proofs.Progress.keeps_order.Goals.{After-follows}

-- The number and the answer for it.
asked : (c : goal.After-follows)
    → let a = c.args in
    let l = c.loop-i in
    Turn (decode_all a.trace.now.records.bytes.now) a.schedule.now l.i l.self c.number-e.result
    c.follows.result
asked c = record {
  walking = c.loop-i.invariant;
  here = c.loop-i-test.true;
  number = c.number-e.ensures;
  answers = c.follows.ensures;
}

pub loop-i-init : goal.loop-i-init
loop-i-init c = walking_start _ _ _ c.requires

pub returns-then-not-follows-clause-answer : goal.returns-then-not-follows-clause-answer
returns-then-not-follows-clause-answer c =
    let k = asked (goal.at.returns-then-not-follows-clause-answer c).After-follows in
    sym (walking_stop k c.if-not-follows.true)

pub note-requires : goal.note-requires
note-requires c =
    let k = asked (goal.at.note-requires c).After-follows in
    follows_in c.args.trace.now.records.bytes.now _ _ (walking_may k c.if-not-follows.false)

pub loop-i-preserved : goal.loop-i-preserved
loop-i-preserved c =
    walking-next (asked (goal.at.loop-i-preserved c).After-follows) c.if-not-follows.false _
    c.note.ensures

pub returns : goal.returns
returns c =
    let l = c.loop-i in
    let k = walking_end _ c.args.schedule.now l.i _ l.invariant c.loop-i-test.false in
    record { answer = sym k.keeps; kept = λ y. k }
