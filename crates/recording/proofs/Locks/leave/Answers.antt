-- `recording::Locks::leave` meets its contract: each return cites the law of its case. Assumes nothing.
use Rattle.model.specs.Recording.{decode_all}
use Rattle.recording.proofs.Locking.{Locked, leave_refused, leave_freed, leave-kept}
use Rattle.recording.proofs.Locks.leave.Goals as goal
use Rattle.recording.proofs.Locks.leave.Goals.{After-task}

-- The event's task and lock.
unpacked : (c : goal.After-task)
    → Locked (decode_all c.args.records.now.bytes.now) c.args.e c.task.result c.args.l
    c.args.self.now.holders c.args.self.now.depths
unpacked c = record {
  task_is = c.task.ensures;
  object_is = (c.requires.3, c.requires.4);
  held = c.requires.5;
}

pub returns-then-self-l-clause-fault : goal.returns-then-self-l-clause-fault
returns-then-self-l-clause-fault c =
    leave_refused (unpacked (goal.at.returns-then-self-l-clause-fault c).After-task) c.if-self-l.true

pub returns-then-self-l-eq1 : goal.returns-then-self-l-eq1
returns-then-self-l-eq1 c =
    let left = leave_freed (unpacked (goal.at.returns-then-self-l-eq1 c).After-task) c.if-self-l.false
    c.requires.2 c.if-self-l-eq1.true in
    record { fault = left.0; held = left.1 }

pub returns : goal.returns
returns c =
    let left = leave-kept (unpacked (goal.at.returns c).After-task) c.if-self-l.false c.requires.2
    c.if-self-l-eq1.false in
    record { fault = left.0; held = left.1 }
