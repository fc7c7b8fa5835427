-- `recording::target` meets its contract: what stands for a task is above the locks. Assumes nothing.
use native.Mathlib.Omega.{arith}
use Rattle.model.specs.Tasks.{target}
use Rattle.recording.proofs.target.Goals as goal

pub returns : goal.returns
unfolding target
returns c = (omega (arith, c.if-o-ge80.false), rw c.object-o.ensures.1)
