-- `order::Latest::note` meets its contract: each return is the case of an operation. Assumes nothing.
use Prim.Native.Nat.{◌<◌}
use mathlib.Core.Path.{refl}
use native.Mathlib.Omega.{arith}
use Rattle.laws.proofs.Operations.{is_start-none, is_start_lock}
use Rattle.recording.specs.declared.Op.TheVariants.{Write, Acquire}
use Rattle.recording.proofs.Laws.{code_apart}
use Rattle.order.proofs.Laws.{names_task, write_noted, start_noted, event_alone}
use Rattle.order.proofs.Latest.note.Goals as goal
use Rattle.order.proofs.Latest.note.Goals.{In-Acquire}

-- The object of an acquire record is a lock, or it stands for a task.
small : (c : goal.In-Acquire) → c.object-o.result < 80
small c =
    names_task c.args.records.now c.requires.3 c.args.e c.in-Acquire.ensures c.object-o.ensures (omega arith)
    (omega arith)

pub bounds-self-o-in-Acquire : goal.bounds-self-o-in-Acquire
bounds-self-o-in-Acquire c =
    omega (arith, small (goal.at.bounds-self-o-in-Acquire c).In-Acquire, c.if-o-ge64.true)

pub returns-in-Write : goal.returns-in-Write
returns-in-Write c =
    write_noted c.requires.4 c.in-Write.ensures c.object-o.ensures
    c.task.ensures refl

pub returns-in-Acquire : goal.returns-in-Acquire
returns-in-Acquire c =
    start_noted c.requires.4 c.in-Acquire.ensures c.object-o.ensures
    c.task.ensures refl c.if-o-ge64.true (small (goal.at.returns-in-Acquire c).In-Acquire)

pub returns-else-o-ge64 : goal.returns-else-o-ge64
returns-else-o-ge64 c =
    let k = c.operation-op.result in
    event_alone c.requires.4 c.operation-op.ensures c.object-o.ensures
    c.task.ensures (code_apart k Write c.in_default.not-Write)
    (is_start_lock _ c.args.e c.operation-op.ensures (omega (arith, c.object-o.ensures, c.if-o-ge64.false)))

pub returns-in_default-other : goal.returns-in_default-other
returns-in_default-other c =
    let k = c.operation-op.result in
    event_alone c.requires.4 c.operation-op.ensures c.object-o.ensures
    c.task.ensures (code_apart k Write c.in_default.not-Write)
    (is_start-none _ c.args.e c.operation-op.ensures (code_apart k Acquire c.in_default-other.not-Acquire))
