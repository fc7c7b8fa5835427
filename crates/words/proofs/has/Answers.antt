-- `words::has` meets its contract: the lowest bit of the shifted word is the event's. Assumes nothing.
use Prim.Native.Nat.{ℕ, ◌-◌, ◌/◌, ◌%◌, ◌^◌}
use mathlib.Core.Path.{ap}
use lib.Bits.{and_mask}
use lib.Dec.{eqb}
use lib.ListN.{get_or}
use Rattle.model.specs.Lists.{has_bit}
use Rattle.words.proofs.has.Goals as goal

pub returns : goal.returns
unfolding has_bit
returns c =
    let a = c.args in
    let word = get_or a.words.now ((a.e - 1) / 64) 0 in
    ap (λ (x : ℕ). eqb x 1) (and_mask (word / 2 ^ (63 - (a.e - 1) % 64)) 1)
