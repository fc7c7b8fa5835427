-- `load::depth_after` meets its contract: only an acquire or release of the lock changes its depth.
-- Assumes nothing.
use Prim.Native.Nat.{◌+◌, ◌-◌, ◌<◌}
use native.Mathlib.Omega.{arith}
use Rattle.model.specs.Recording.{decode_all}
use Rattle.laws.specs.Walked.{LockDepth}
use Rattle.recording.proofs.Accepted.{sound}
use Rattle.recording.specs.declared.Op.TheVariants.{Acquire, Release}
use Rattle.recording.proofs.Laws.{code_apart, code_lt}
use Rattle.load.proofs.Laws.{Coming, depth_below, access-depth, other-depth, enter-depth, leave-depth}
use Rattle.load.proofs.depth_after.Goals as goal
use Rattle.load.proofs.depth_after.Goals.{Start, In-Release}

-- The event that comes.
coming : (c : goal.Start) → let a = c.args in Coming (decode_all a.records.now.bytes.now) a.e a.lock a.depth
coming c =
    let records = c.args.records.now in
    record { sound = sound records; depth_is = c.requires.2 }

-- What a release does.
back : (c : goal.In-Release) → let a = c.args in
    (0 < a.depth) × LockDepth (decode_all a.records.now.bytes.now) (a.e + 1) a.lock (a.depth - 1)
back c =
    leave-depth (coming (goal.at.In-Release c).Start) c.object.ensures.1
    c.if-object-lock.false c.requires.3 c.in-Release.ensures

pub returns-then-object-lock : goal.returns-then-object-lock
returns-then-object-lock c =
    other-depth (coming (goal.at.returns-then-object-lock c).Start) c.object.ensures.1
    c.if-object-lock.true

pub overflow_add-result : goal.overflow_add-result
overflow_add-result c =
    omega (arith, depth_below (coming (goal.at.overflow_add-result c).Start) c.requires.0, c.requires)

pub returns-in-Acquire : goal.returns-in-Acquire
returns-in-Acquire c =
    enter-depth (coming (goal.at.returns-in-Acquire c).Start) c.object.ensures.1
    c.if-object-lock.false c.requires.3 c.in-Acquire.ensures

pub overflow_sub-result : goal.overflow_sub-result
overflow_sub-result c = omega (arith, (back (goal.at.overflow_sub-result c).In-Release).0)

pub returns-in-Release : goal.returns-in-Release
returns-in-Release c = (back (goal.at.returns-in-Release c).In-Release).1

pub returns-in_default : goal.returns-in_default
returns-in_default c =
    let k = c.operation.result in
    let a = code_apart k Acquire c.in_default.not-Acquire in
    let b = code_apart k Release c.in_default.not-Release in
    access-depth (coming (goal.at.returns-in_default c).Start)
    (omega (arith, c.operation.ensures, code_lt k, a, b))
