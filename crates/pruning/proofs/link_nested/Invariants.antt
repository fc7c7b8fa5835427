-- `pruning::link_nested` meets its contract: the links of the events from e on are in the table. Assumes
-- nothing.
use Prim.Native.Nat.{◌-◌}
use Rattle.model.specs.Recording.{decode_all}
use Rattle.pruning.proofs.Nested.{LinkedAfter}
use Rattle.pruning.proofs.link_nested.Given as goal

abbrev pub invariant-loop-e : goal.invariant-loop-e
invariant-loop-e l = LinkedAfter (decode_all l.trace.records.bytes.now) (l.e - 1) l.top l.next
