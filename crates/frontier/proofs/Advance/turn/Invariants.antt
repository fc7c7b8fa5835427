-- `frontier::Advance::turn` meets its contract: the frontier is on its way from the wanted event to the old
-- one, or to the task's start. Assumes nothing.
use mathlib.Core.Path.{◌≡◌}
use lib.ListN.{get_or}
use Rattle.model.specs.Recording.{decode_all}
use Rattle.frontier.proofs.Turning.{Turning}
use Rattle.frontier.proofs.Advance.turn.Given as goal

abbrev pub invariant-loop-f : goal.invariant-loop-f
invariant-loop-f l = record {
  turning : Turning (decode_all l.trace.records.bytes.now) l.initial.self.front l.initial.self.want
      l.self.want l.self.latest l.t (get_or l.fn.self.front l.t 0) l.end l.f;
  front_is : l.self.front ≡ l.initial.self.front;
}

abbrev pub decreases-loop-f : goal.decreases-loop-f
decreases-loop-f l = l.f
