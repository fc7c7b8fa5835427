-- `sections::OpenSections::note_depth` meets its contract: only an inner acquire or release changes a depth.
-- Assumes nothing.
use mathlib.Core.Path.{refl}
use native.Mathlib.Omega.{arith}
use Rattle.recording.specs.declared.Op.TheVariants as Op
use Rattle.recording.proofs.Laws.{code_apart}
use Rattle.sections.proofs.Fields.{acquire_left}
use Rattle.sections.proofs.KindOf.{task_depths, access_depths, depth_fits, leave_deep, inner_acquire}
use Rattle.sections.proofs.KindOf.{inner_release}
use Rattle.sections.proofs.Locks.{of_accepted, coming, depth_noted}
use Rattle.sections.proofs.OpenSections.note_depth.Goals as goal

pub returns-then-l-ge64 : goal.returns-then-l-ge64
returns-then-l-ge64 c =
    let u = of_accepted c.args.records.now c.requires in
    let o = c.object-l.ensures in
    depth_noted u o c.requires.5 refl (task_depths (coming u o c.requires.5 refl) c.if-l-ge64.true) refl

pub overflow_add-self : goal.overflow_add-self
overflow_add-self c =
    let u = of_accepted c.args.records.now c.requires in
    omega (arith, c.requires.2, depth_fits (coming u c.object-l.ensures c.requires.5 refl) c.if-l-ge64.false)

pub returns-in-Acquire : goal.returns-in-Acquire
returns-in-Acquire c =
    let u = of_accepted c.args.records.now c.requires in
    let o = c.object-l.ensures in
    depth_noted u o c.requires.5 refl
    (inner_acquire (coming u o c.requires.5 c.in-Acquire.ensures) c.if-l-ge64.false refl
    c.requires.4.code_is)
    (acquire_left _ _ _)

pub overflow_sub-self : goal.overflow_sub-self
overflow_sub-self c =
    let u = of_accepted c.args.records.now c.requires in
    leave_deep (coming u c.object-l.ensures c.requires.5 c.in-Release.ensures) c.if-l-ge64.false refl

pub returns-in-Release : goal.returns-in-Release
returns-in-Release c =
    let u = of_accepted c.args.records.now c.requires in
    let o = c.object-l.ensures in
    depth_noted u o c.requires.5 refl
    (inner_release (coming u o c.requires.5 c.in-Release.ensures) c.if-l-ge64.false refl
    c.requires.4.code_is)
    (acquire_left _ _ _)

pub returns-in_default : goal.returns-in_default
returns-in_default c =
    let u = of_accepted c.args.records.now c.requires in
    let o = c.object-l.ensures in
    let k = c.operation.result in
    let q = c.operation.ensures in
    let a = code_apart k Op.Acquire c.in_default.not-Acquire in
    let b = code_apart k Op.Release c.in_default.not-Release in
    depth_noted u o c.requires.5 refl
    (access_depths (coming u o c.requires.5 q) (omega (arith, c.requires.4.op_lt))) refl
