-- The cycle of `listing::search::descend` and `listing::search::extend`: its measures, and the invariant of
-- the scan. Assumes nothing.
use Prim.Native.Nat.{suc, ◌+◌, ◌-◌, ◌*◌}
use lib.ListN.{length}
use Rattle.model.specs.Recording.{decode_all}
use Rattle.chain.specs.Attempted.{chain_of}
use Rattle.chain.proofs.Laws.{Remembered}
use Rattle.listing.proofs.Scans.{Scanning}
use Rattle.listing.proofs.search.Search.+descend_extend.Given as goal

-- Twice the events that may still follow, and one more where the path may be complete.
abbrev pub decreases-descend : goal.decreases-descend
decreases-descend l = 2 * l.k + 1

-- Twice the events that may still follow.
abbrev pub decreases-extend : goal.decreases-extend
decreases-extend l = 2 * l.left

-- What the events so far add was taken, and where a task's frontier is kept, it is that of one of them.
abbrev pub invariant-extend-loop-e : goal.invariant-extend-loop-e
invariant-extend-loop-e l = record {
  scanning : Scanning (decode_all l.self.links.now.trace.now.records.bytes.now) (l.left - 1)
      (chain_of l.path) l.chain l.at l.initial.out l.out l.initial.taken l.taken;
  kept : Remembered (decode_all l.self.links.now.trace.now.records.bytes.now) (chain_of l.path).events
      (suc l.at) l.grown;
}

-- The events after those.
abbrev pub decreases-extend-loop-e : goal.decreases-extend-loop-e
decreases-extend-loop-e l = length (decode_all l.self.links.now.trace.now.records.bytes.now) - l.at
