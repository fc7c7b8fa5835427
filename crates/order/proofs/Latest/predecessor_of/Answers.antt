-- `order::Latest::predecessor_of` meets its contract: it is the last event of the event's task.
-- Assumes nothing.
use Rattle.model.specs.Relations.{predecessor}
use Rattle.order.proofs.Latest.predecessor_of.Goals as goal

pub returns : goal.returns
unfolding predecessor
returns c = rw c.task.ensures.1 at (c.last_of.ensures _ c.args.e c.requires.2)
