-- `pruning::mark_blocks` meets its contract: the blocks of the events so far are marked. Assumes nothing.
use Prim.Native.Nat.{◌-◌}
use lib.ListN.{length}
use Rattle.model.specs.Recording.{decode_all}
use Rattle.pruning.proofs.Blocks.{Marking}
use Rattle.pruning.proofs.mark_blocks.Given as goal

abbrev pub invariant-loop-e : goal.invariant-loop-e
invariant-loop-e l = Marking (decode_all l.trace.records.bytes.now) l.blocks l.at

abbrev pub decreases-loop-e : goal.decreases-loop-e
decreases-loop-e l = length (decode_all l.trace.records.bytes.now) - l.at
