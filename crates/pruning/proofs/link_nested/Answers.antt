-- `pruning::link_nested` meets its contract: the links of the events from e on are in the table. Assumes
-- nothing.
use Prim.Native.Nat.{ℕ, ◌-◌}
use native.Mathlib.Omega.{arith}
use lib.ListN.{length-replicate}
use Rattle.model.specs.Recording.{decode_all}
use Rattle.laws.proofs.Trace.{decode_all-length}
use Rattle.pruning.proofs.Nested.{linked_last, linked_before}
use Rattle.pruning.proofs.link_nested.Goals as goal

pub loop-e-init : goal.loop-e-init
loop-e-init c =
    linked_last (decode_all c.args.trace.now.records.bytes.now) _ (length-replicate {A = ℕ} 4096 0) _
    (omega (arith, c.len-e.ensures))

pub loop-e-preserved : goal.loop-e-preserved
loop-e-preserved c =
    let k = c.loop-e in
    let b = c.args.trace.now.records.bytes.now in
    let size = decode_all-length b in
    linked_before (decode_all b) (k.e - 1) k.top k.next k.invariant (omega (arith, c.len-e.ensures)) _
    (omega arith) (omega (arith, c.len-e.ensures)) c.nested_or-top.ensures
