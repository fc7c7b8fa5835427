-- `pruning::mark_blocks` meets its contract: the blocks of the events so far are marked. Assumes nothing.
use Prim.Native.Nat.{ℕ, ◌/◌, ◌*◌, ◌≤◌, ◌<◌}
use mathlib.Core.Logic.{◌≢◌}
use native.Mathlib.Omega.{arith}
use lib.ListN.{length, length-replicate}
use Rattle.model.specs.Recording.{decode_all}
use Rattle.laws.proofs.Trace.{decode_all-length}
use Rattle.pruning.specs.Linked.{Link}
use Rattle.pruning.proofs.Nested.{linked_earliest}
use Rattle.pruning.proofs.Blocks.{marking-start, marking-next}
use Rattle.pruning.proofs.mark_blocks.Goals as goal
use Rattle.pruning.proofs.mark_blocks.Goals.{In-Some}

-- The next nested acquire is an event, in one of the blocks.
next : (c : In-Some) → let b = c.args.trace.now.records.bytes.now in
    (c.in-Some.e ≢ 0) × Link (decode_all b) c.loop-e.at c.in-Some.e
    × (1 ≤ c.in-Some.e) × (2 * c.in-Some.e ≤ length b) × (c.in-Some.e / 64 < 64)
next c =
    let b = c.args.trace.now.records.bytes.now in
    let l = c.loop-e in
    let (d, y) = linked_earliest (decode_all b) c.args.next.now c.requires l.at l.invariant.high _
    c.in-Some.ensures in
    let e = y.passes d in
    let size = decode_all-length b in
    (d, y, omega (arith, e.0), omega (arith, e.1), omega (arith, e.1, c.args.trace.now.records.short))

pub loop-e-init : goal.loop-e-init
loop-e-init c =
    marking-start (decode_all c.args.trace.now.records.bytes.now) _ (length-replicate {A = ℕ} 64 0)

pub linked-requires : goal.linked-requires
linked-requires c =
    let size = decode_all-length c.args.trace.now.records.bytes.now in
    omega (arith, c.loop-e.invariant.high, c.requires.long, c.args.trace.now.records.short)

pub held-requires : goal.held-requires
held-requires c = let (d, y, low, high, block) = next (goal.at.held-requires c).In-Some in (low, high)

pub bounds-blocks-e : goal.bounds-blocks-e
bounds-blocks-e c =
    let (d, y, low, high, block) = next (goal.at.bounds-blocks-e c).In-Some in
    omega (arith, block, c.loop-e.invariant.long)

pub bounds-blocks-e-in-Some : goal.bounds-blocks-e-in-Some
bounds-blocks-e-in-Some c =
    let (d, y, low, high, block) = next (goal.at.bounds-blocks-e-in-Some c).In-Some in
    omega (arith, block, c.loop-e.invariant.long)

pub loop-e-preserved : goal.loop-e-preserved
loop-e-preserved c =
    let l = c.loop-e in
    let (d, y, low, high, block) = next (goal.at.loop-e-preserved c).In-Some in
    marking-next (decode_all c.args.trace.now.records.bytes.now) l.blocks l.at l.invariant c.in-Some.e d y
    block _ c.held.ensures
