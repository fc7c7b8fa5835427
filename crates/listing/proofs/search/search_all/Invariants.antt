-- `listing::search::search_all` meets its contract: what the events so far begin has been taken. Assumes
-- nothing.
use Prim.Native.Nat.{◌-◌}
use lib.ListN.{length}
use Rattle.model.specs.Recording.{decode_all}
use Rattle.listing.proofs.Beginnings.{Searching}
use Rattle.listing.proofs.search.search_all.Given as goal

abbrev pub invariant-loop-a : goal.invariant-loop-a
invariant-loop-a l =
    Searching (decode_all l.links.trace.now.records.bytes.now) (l.size.events - 1) l.room l.at l.initial.out
    l.out l.found

abbrev pub decreases-loop-a : goal.decreases-loop-a
decreases-loop-a l = length (decode_all l.links.trace.now.records.bytes.now) - l.at
