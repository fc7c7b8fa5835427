-- `frontier::Advance::run` meets its contract: each turn brings the frontier on, until no task has more to
-- reach. Assumes nothing.
use Prim.Native.Nat.{◌-◌}
use Rattle.model.specs.Recording.{decode_all}
use Rattle.frontier.proofs.Totals.{total}
use Rattle.frontier.proofs.Rounds.{Round}
use Rattle.frontier.proofs.Advance.run.Given as goal

abbrev pub invariant-loop-t : goal.invariant-loop-t
invariant-loop-t l =
    Round (decode_all l.trace.records.bytes.now) l.initial.self.want l.self.front l.self.want
    l.self.latest

abbrev pub decreases-loop-t : goal.decreases-loop-t
decreases-loop-t l = 65536 - total l.self.front
