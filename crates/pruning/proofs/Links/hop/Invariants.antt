-- `pruning::Links::hop` meets its contract: no acquire of a block that was passed over is near. Assumes
-- nothing.
use Prim.Native.Nat.{◌-◌}
use lib.ListN.{length}
use Rattle.model.specs.Recording.{decode_all}
use Rattle.pruning.specs.Linked.{is_near}
use Rattle.pruning.proofs.Walks.{Walked}
use Rattle.pruning.proofs.Links.hop.Given as goal

abbrev pub invariant-loop-x : goal.invariant-loop-x
invariant-loop-x l =
    Walked (is_near (decode_all l.self.trace.now.records.bytes.now) l.self.blocks l.l)
    (length (decode_all l.self.trace.now.records.bytes.now)) l.e l.at

abbrev pub decreases-loop-x : goal.decreases-loop-x
decreases-loop-x l = length (decode_all l.self.trace.now.records.bytes.now) - l.at
