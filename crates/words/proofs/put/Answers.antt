-- `words::put` meets its contract: one bit is set, that of the event. Assumes nothing.
use Prim.Native.Nat.{◌-◌}
use native.Mathlib.Omega.{arith}
use Rattle.laws.proofs.BitRows.{row_bit-set}
use Rattle.words.proofs.put.Goals as goal

pub returns : goal.returns
returns c =
    λ i. row_bit-set 64 (omega arith) c.args.words.now (c.args.e - 1) i (omega arith)
