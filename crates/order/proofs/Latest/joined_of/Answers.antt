-- `order::Latest::joined_of` meets its contract: only a join waits for the last event of a task.
-- Assumes nothing.
use mathlib.Core.Path.{refl, sym}
use native.Mathlib.Omega.{arith}
use Rattle.laws.proofs.Operations.{is_join_lock}
use Rattle.laws.proofs.Relations.{joined-none}
use Rattle.order.proofs.Laws.{names_task, join_awaits}
use Rattle.order.proofs.Latest.joined_of.Goals as goal

pub returns-then-o-lt64 : goal.returns-then-o-lt64
returns-then-o-lt64 c =
    let o = c.object-o.ensures in
    sym (joined-none _ c.args.e (is_join_lock _ c.args.e refl (omega (arith, o, c.if-o-lt64.true))))

pub last_of-requires : goal.last_of-requires
last_of-requires c =
    let r = c.requires.3 in
    let known = names_task c.args.records.now c.requires.2 c.args.e refl c.object-o.ensures (omega (arith, r))
    (omega (arith, r)) in
    omega (arith, c.if-o-lt64.false)

pub returns : goal.returns
returns c =
    join_awaits _ c.args.e refl c.object-o.ensures c.requires.3 (omega (arith, c.if-o-lt64.false))
    (c.last_of.ensures _ c.args.e c.requires.4)
