-- `recording::Locks::enter` meets its contract: each return cites the law of its case. Assumes nothing.
use native.Mathlib.Omega.{arith}
use Rattle.model.specs.Recording.{decode_all}
use Rattle.recording.proofs.Locking.{Locked, depth-fits, enter_refused, enter_first, enter-again}
use Rattle.recording.proofs.Locks.enter.Goals as goal
use Rattle.recording.proofs.Locks.enter.Goals.{After-task-own}

-- The event's task and lock.
unpacked : (c : goal.After-task-own)
    → Locked (decode_all c.args.records.now.bytes.now) c.args.e c.task-own.result c.args.l
    c.args.self.now.holders c.args.self.now.depths
unpacked c = record {
  task_is = c.task-own.ensures;
  object_is = (c.requires.3, c.requires.4);
  held = c.requires.5;
}

pub returns-then-self-l-eq0 : goal.returns-then-self-l-eq0
returns-then-self-l-eq0 c =
    let entered = enter_first (unpacked (goal.at.returns-then-self-l-eq0 c).After-task-own) c.requires.2
    c.if-self-l-eq0.true in
    record { fault = entered.0; held = entered.1 }

pub returns-then-self-l-clause-fault : goal.returns-then-self-l-clause-fault
returns-then-self-l-clause-fault c =
    enter_refused (unpacked (goal.at.returns-then-self-l-clause-fault c).After-task-own) c.if-self-l-eq0.false
    c.if-self-l.true

pub overflow_add-self : goal.overflow_add-self
overflow_add-self c =
    let u = unpacked (goal.at.overflow_add-self c).After-task-own in
    omega (arith, depth-fits u c.requires.0, c.requires.1, c.args.records.now.short)

pub returns : goal.returns
returns c =
    let entered = enter-again (unpacked (goal.at.returns c).After-task-own) c.requires.2 c.if-self-l.false in
    record { fault = entered.0; held = entered.1 }
