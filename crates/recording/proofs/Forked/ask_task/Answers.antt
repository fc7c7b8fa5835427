-- `recording::Forked::ask_task` meets its contract: what names no lock is a start or a join, or has no
-- object. Assumes nothing.
use Prim.Native.Nat.{◌≤◌}
use mathlib.Core.Path.{refl}
use native.Mathlib.Omega.{arith}
use Rattle.laws.proofs.Faults.{fault-object}
use Rattle.laws.proofs.Operations.{starts_is, joins_is}
use Rattle.recording.specs.Asked.{code}
use Rattle.recording.proofs.Laws.{code_lt, code_release}
use Rattle.recording.proofs.Forked.ask_task.Goals as goal
use Rattle.recording.proofs.Forked.ask_task.Goals.{After-operation-op}

-- The event's record is an acquire's or a release's.
locking : (c : goal.After-operation-op) → 2 ≤ code c.operation-op.result
locking c = omega (arith, c.requires.2.locking, c.operation-op.ensures)

pub start-requires : goal.start-requires
start-requires c =
    let s = c.requires in
    (s.0, s.1, rw (starts_is _ _ c.in-Acquire.ensures s.2.beyond refl) tt, c.in-Some.ensures, s.3)

pub join-requires : goal.join-requires
join-requires c =
    let s = c.requires in
    let release = code_release c.operation-op.result (locking (goal.at.join-requires c).After-operation-op)
    c.in_default.not-Acquire in
    (s.0, s.1, rw (joins_is _ _ c.operation-op.ensures s.2.beyond release) tt, c.in-Some.ensures, s.3)

pub returns-in-None : goal.returns-in-None
returns-in-None c =
    fault-object _ _ c.operation-op.ensures (locking (goal.at.returns-in-None c).After-operation-op)
    (omega (arith, code_lt c.operation-op.result)) c.in-None.ensures
