-- `chain::judge` meets its contract: the frontier avoids the events of the path, and e, or does not. Assumes
-- nothing.
use mathlib.Core.Path.{◌≡◌}
use lib.ListN.{get_or}
use borrow.Author.Rules.{rules}
use Rattle.laws.proofs.Passing.{listed-event}
use Rattle.chain.proofs.judge.Goals as goal

pub avoids-requires-clause-events : goal.avoids-requires-clause-events
avoids-requires-clause-events c = λ i e h k.
    let is : e ≡ get_or c.args.events.now i 0 = search rules in
    let (x, y, z) = listed-event c.args.trace.now.records.bytes.now c.args.events.now i c.requires.0 h is in
    (x, z)
