-- `recording::in_mask` meets its contract: the lowest bit of the shifted mask. Assumes nothing.
use Prim.Native.Nat.{ℕ, ◌/◌, ◌^◌}
use mathlib.Core.Path.{ap}
use lib.Bits.{and_mask}
use lib.Dec.{eqb}
use Rattle.model.specs.Lists.{has_bit}
use Rattle.recording.proofs.in_mask.Goals as goal

pub returns : goal.returns
unfolding has_bit
returns c = ap (λ (n : ℕ). eqb n 1) (and_mask (c.args.mask / 2 ^ c.args.l) 1)
