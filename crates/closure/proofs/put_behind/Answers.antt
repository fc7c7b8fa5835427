-- `closure::put_behind` meets its contract: the events passed are in it where they are behind the frontier.
-- Assumes nothing.
use Prim.Native.Nat.{◌-◌}
use mathlib.Core.Path.{◌≡◌, refl}
use native.Mathlib.Omega.{arith}
use lib.ListN.{length}
use Rattle.model.specs.Recording.{decode_all}
use Rattle.laws.proofs.Trace.{decode_all-length}
use Rattle.closure.proofs.Sets.{row-none}
use Rattle.closure.proofs.put_behind.Goals as goal

pub loop-e-init : goal.loop-e-init
loop-e-init c = λ i. rw c.requires (row-none _ i _ refl)

pub returns : goal.returns
returns c =
    let records = c.args.trace.now.records.bytes.now in
    let last : c.loop-e.e - 1 ≡ length (decode_all records) = omega (arith, decode_all-length records) in
    λ i. rw last at (c.loop-e.invariant i)
