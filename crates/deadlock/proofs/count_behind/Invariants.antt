-- `deadlock::count_behind` meets its contract: the events passed are counted. Assumes nothing.
use mathlib.Core.Path.{◌≡◌}
use lib.ListN.{length}
use Rattle.model.specs.Recording.{decode_all}
use Rattle.deadlock.specs.Judged.{behind_below}
use Rattle.deadlock.proofs.count_behind.Given as goal

abbrev pub invariant-loop-e : goal.invariant-loop-e
invariant-loop-e l =
    l.count ≡ length (behind_below (decode_all l.trace.records.bytes.now) l.frontier.front l.e)
