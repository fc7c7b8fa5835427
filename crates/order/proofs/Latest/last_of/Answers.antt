-- `order::Latest::last_of` meets its contract: the latest event, or where there is none the start.
-- Assumes nothing.
use Rattle.order.proofs.Laws.{last_start, last_event}
use Rattle.order.proofs.Latest.last_of.Goals as goal

pub returns-then-self-t-eq0 : goal.returns-then-self-t-eq0
returns-then-self-t-eq0 c =
    λ σ e z. last_start z c.requires c.if-self-t-eq0.true

pub returns : goal.returns
returns c = λ σ e z. last_event z c.requires c.if-self-t-eq0.false
