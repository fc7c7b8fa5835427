-- `pruning::Links::following` meets its contract: no event so far may follow. Assumes nothing.
use Prim.Native.Nat.{◌-◌}
use lib.ListN.{length}
use Rattle.model.specs.Recording.{decode_all}
use Rattle.std.specs.Prelude.{[]}
use Rattle.laws.specs.Chain.{signature, fits}
use Rattle.deadlock.specs.Judged.{of_events}
use Rattle.pruning.proofs.Walks.{Walked}
use Rattle.pruning.proofs.Links.following.Given as goal

abbrev pub invariant-loop-x : goal.invariant-loop-x
invariant-loop-x l =
    Walked (fits (signature (decode_all l.self.trace.now.records.bytes.now)) (of_events [] l.chain))
    (length (decode_all l.self.trace.now.records.bytes.now)) l.e l.at

abbrev pub decreases-loop-x : goal.decreases-loop-x
decreases-loop-x l = length (decode_all l.self.trace.now.records.bytes.now) - l.at
