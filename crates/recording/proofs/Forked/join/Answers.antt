-- `recording::Forked::join` meets its contract: each return cites the law of its case. Assumes nothing.
use mathlib.Core.Path.{◌∙◌}
use Rattle.recording.proofs.Tasks.{join_own, join_other}
use Rattle.recording.proofs.Forked.join.Goals as goal

pub returns-then-u-t : goal.returns-then-u-t
returns-then-u-t c =
    join_own c.requires.3 c.requires.4 c.requires.2 (c.if-u-t.true ∙ c.task-t.ensures.1)

pub returns : goal.returns
returns c =
    join_other c.requires.3 c.requires.4 c.requires.2 (rw c.task-t.ensures.1 at c.if-u-t.false)
