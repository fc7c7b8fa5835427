-- `words::pack` meets its contract: the words made have the bits of their bytes, and no other word has one.
-- Assumes nothing.
use Prim.Native.Nat.{◌*◌}
use mathlib.Core.Path.{◌≡◌}
use lib.ListN.{drop}
use Rattle.std.specs.Slice.Iter.{chunks_rest, chunks_size}
use Rattle.words.proofs.Laws.{Packed}
use Rattle.words.proofs.pack.Given as goal

abbrev pub invariant-loop-k : goal.invariant-loop-k
invariant-loop-k l =
    let chunks = l.k-iterator.iter in
    (chunks_size chunks ≡ 8) × (drop (8 * l.k-iterator.count) l.set ≡ chunks_rest chunks)
    × Packed l.set l.words l.k-iterator.count
