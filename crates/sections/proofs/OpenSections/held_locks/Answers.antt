-- `sections::OpenSections::held_locks` meets its contract: the mask of the event's task is that of its held
-- locks. Assumes nothing.
use native.Mathlib.Omega.{arith}
use Rattle.laws.proofs.Locksets.{locksets-held}
use Rattle.sections.proofs.OpenSections.held_locks.Goals as goal

pub returns : goal.returns
returns c =
    let small = c.task.ensures in
    rw small.1 (locksets-held _ c.args.e _ c.requires.2 (omega (arith, small)))
