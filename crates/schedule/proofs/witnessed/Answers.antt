-- `schedule::witnessed` meets its contract: the walk through the schedule decides whether it is
-- order-keeping, and the one through the pattern whether its events are then next. Assumes nothing.
use mathlib.Core.Path.{sym, ◌∙◌}
use Rattle.schedule.proofs.Noting.{listed_start}
use Rattle.schedule.proofs.Witness.{witness_refused, witness_decided}
use Rattle.schedule.proofs.witnessed.Goals as goal

pub keeps_order-requires : goal.keeps_order-requires
keeps_order-requires c = listed_start _

pub returns-then-not-keeps_order : goal.returns-then-not-keeps_order
returns-then-not-keeps_order c =
    let p = c.args.pattern.now in
    witness_refused p.trace.now.records.bytes.now c.args.schedule.now p.bytes.now c.if-schedule-ne0.false
    (sym c.keeps_order.ensures.answer ∙ c.if-not-keeps_order.true)

pub returns : goal.returns
returns c =
    let p = c.args.pattern.now in
    c.leaves_next.ensures
    ∙ witness_decided p.trace.now.records.bytes.now c.args.schedule.now p.bytes.now c.if-schedule-ne0.false
    p.trace.now.records.accepted (c.keeps_order.ensures.kept c.if-not-keeps_order.false) p.events
