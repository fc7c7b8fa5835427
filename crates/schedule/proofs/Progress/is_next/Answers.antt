-- `schedule::Progress::is_next` meets its contract: the two entries are the predecessor and the latest listed
-- event. Assumes nothing.
use mathlib.Core.Path.{◌∙◌}
use Rattle.schedule.proofs.Asking.{next_own, next_late, next_start, predecessor_in}
use Rattle.schedule.proofs.Progress.is_next.Goals as goal

pub returns-then-before-own : goal.returns-then-before-own
returns-then-before-own c =
    next_own _ _ c.args.e c.predecessor-before.ensures c.task.ensures.1 c.if-before-own.true

pub returns-then-own-ne0 : goal.returns-then-own-ne0
returns-then-own-ne0 c =
    next_late _ _ c.args.e c.predecessor-before.ensures c.task.ensures.1 c.if-before-own.false
    c.if-own-ne0.true

pub is_listed-requires : goal.is_listed-requires
is_listed-requires c =
    predecessor_in c.args.trace.now.records.bytes.now c.args.e c.predecessor-before.ensures c.requires.1

pub returns : goal.returns
returns c =
    c.is_listed.ensures
    ∙ next_start _ _ c.args.e c.predecessor-before.ensures c.task.ensures.1 c.if-before-own.false
    c.if-own-ne0.false
