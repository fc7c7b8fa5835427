-- `load::count_held` meets its contract: before each event the depth is the lock's, and the events passed
-- are counted. Assumes nothing.
use Prim.Native.Nat.{◌<◌}
use mathlib.Core.Path.{◌≡◌}
use Rattle.model.specs.Recording.{decode_all}
use Rattle.laws.specs.Walked.{LockDepth}
use Rattle.load.proofs.Laws.{held_before}
use Rattle.load.proofs.count_held.Given as goal

abbrev pub invariant-loop-e : goal.invariant-loop-e
invariant-loop-e l =
    (l.held < l.e) × LockDepth (decode_all l.records.bytes.now) l.e l.lock l.depth
    × (l.held ≡ held_before (decode_all l.records.bytes.now) l.lock l.e)
