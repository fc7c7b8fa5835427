-- `load::count_held` meets its contract: before each event the depth is the lock's, and the events passed
-- are counted. Assumes nothing.
use Prim.Native.Nat.{◌-◌}
use mathlib.Core.Path.{◌≡◌, ◌∙◌, refl}
use native.Mathlib.Omega.{arith}
use lib.ListN.{length}
use Rattle.model.specs.Recording.{decode_all}
use Rattle.model.specs.Calls.Load.{held_events}
use Rattle.laws.proofs.LockDepth.{lock_depth-start}
use Rattle.load.proofs.Laws.{counted, uncounted}
use Rattle.load.proofs.count_held.Goals as goal
use Rattle.load.proofs.count_held.Goals.{then-depth-ne0, else-depth-ne0}

pub loop-e-init : goal.loop-e-init
loop-e-init c = (omega arith, lock_depth-start (decode_all c.args.records.now.bytes.now) c.args.lock, refl)

pub loop-e-preserved : goal.loop-e-preserved
loop-e-preserved c =
    let σ = decode_all c.args.records.now.bytes.now in
    let k = c.loop-e in
    let h = c.depth_after-depth.ensures in (
      elim c.if-depth-ne0.branch [ then-depth-ne0 w ↦ omega arith | else-depth-ne0 w ↦ omega arith ],
      h,
      elim c.if-depth-ne0.branch [
        | then-depth-ne0 w ↦
            w.held-is ∙ counted σ k.e c.args.lock _ k.auto.e h k.held k.invariant.2 w.if-depth-ne0.true
        | else-depth-ne0 w ↦
            w.held-is ∙ uncounted σ k.e c.args.lock _ k.auto.e h k.held k.invariant.2 w.if-depth-ne0.false
      ],
    )

pub returns : goal.returns
unfolding held_events
returns c =
    let k = c.loop-e in
    let last : k.e - 1 ≡ length (decode_all c.args.records.now.bytes.now) =
    omega (arith, c.len-e-end.ensures) in
    (omega arith, rw last at k.invariant.2)
