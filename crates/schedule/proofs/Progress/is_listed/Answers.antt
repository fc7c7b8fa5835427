-- `schedule::Progress::is_listed` meets its contract: each return cites the law of its case. Assumes nothing.
use borrow.Author.Tests.{eq-eqb}
use Rattle.schedule.proofs.Asking.{listed-none, listed_some}
use Rattle.schedule.proofs.Progress.is_listed.Goals as goal

pub returns-then-e-ne0 : goal.returns-then-e-ne0
returns-then-e-ne0 c = listed_some _ _ c.args.e _ c.task.ensures.1 c.if-e-ne0.true

pub returns-else-e-ne0 : goal.returns-else-e-ne0
returns-else-e-ne0 c = rw (eq-eqb c.args.e 0 c.if-e-ne0.false) (listed-none _ _ c.args.e c.if-e-ne0.false)
