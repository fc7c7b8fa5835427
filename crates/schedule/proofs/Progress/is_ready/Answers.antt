-- `schedule::Progress::is_ready` meets its contract: each return cites the law of its case. Assumes nothing.
use mathlib.Core.Path.{◌∙◌}
use borrow.Author.Tests.{eq-eqb}
use Rattle.schedule.proofs.Asking.{ready-none, ready_some}
use Rattle.schedule.proofs.Progress.is_ready.Goals as goal

pub returns-then-x-eq0 : goal.returns-then-x-eq0
returns-then-x-eq0 c = rw (eq-eqb c.args.x 0 c.if-x-eq0.true) (ready-none _ _ c.args.x c.if-x-eq0.true)

pub returns-else-x-eq0 : goal.returns-else-x-eq0
returns-else-x-eq0 c = c.is_listed.ensures ∙ ready_some _ _ c.args.x c.if-x-eq0.false
