-- `words::unpack` meets its contract: the bytes passed have the bits of the words. Assumes nothing.
use Rattle.words.proofs.Laws.{Unpacked}
use Rattle.words.proofs.unpack.Given as goal

abbrev pub invariant-loop-k : goal.invariant-loop-k
invariant-loop-k l = Unpacked l.words l.set l.k
