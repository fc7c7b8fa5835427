-- `pruning::Links::leads` meets its contract: the candidates so far are noted, and all of them where no link
-- leads on. Assumes nothing.
use Prim.Native.Nat.{◌+◌, ◌-◌, ◌≤◌}
use lib.ListN.{length}
use Rattle.model.specs.Recording.{decode_all}
use Rattle.laws.specs.Returning.{Led}
use Rattle.pruning.specs.Candidates.{candidates_of}
use Rattle.pruning.proofs.Links.leads.Given as goal

abbrev pub invariant-loop-e : goal.invariant-loop-e
invariant-loop-e l =
    (l.at ≤ length (decode_all l.self.trace.now.records.bytes.now))
    × Led (decode_all l.self.trace.now.records.bytes.now) (candidates_of l.candidates) (l.at + 1) l.lead

abbrev pub decreases-loop-e : goal.decreases-loop-e
decreases-loop-e l = length (decode_all l.self.trace.now.records.bytes.now) - l.at
