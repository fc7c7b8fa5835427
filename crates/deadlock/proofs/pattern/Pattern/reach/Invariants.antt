-- `deadlock::pattern::Pattern::reach` meets its contract: the frontier is that of the numbers so far. Assumes
-- nothing.
use lib.ListN.{take}
use Rattle.model.specs.Bytes.{numbers}
use Rattle.model.specs.Recording.{decode_all}
use Rattle.laws.specs.Frontier.{Before}
use Rattle.deadlock.proofs.pattern.Pattern.reach.Given as goal

abbrev pub invariant-loop-i : goal.invariant-loop-i
invariant-loop-i l =
    Before (decode_all l.self.trace.now.records.bytes.now) (take l.i (numbers l.self.bytes.now))
    l.frontier.front l.frontier.latest
