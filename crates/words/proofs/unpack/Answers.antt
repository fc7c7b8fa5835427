-- `words::unpack` meets its contract: the bytes passed have the bits of the words. Assumes nothing.
use native.Mathlib.Omega.{arith}
use Rattle.words.proofs.Laws.{unpacked_more}
use Rattle.words.proofs.unpack.Goals as goal

pub loop-k-preserved : goal.loop-k-preserved
loop-k-preserved c =
    let k = c.loop-k in
    rw (← c.to_be_bytes.ensures) at (unpacked_more c.args.words.now k.set k.k (omega arith) k.invariant)
