-- `words::word_of` meets its contract: the number of the bytes and of zeros after them. Assumes nothing.
use native.Mathlib.Omega.{arith}
use Rattle.words.proofs.Laws.{row_word}
use Rattle.words.proofs.word_of.Goals as goal

pub returns : goal.returns
returns c =
    let l = c.loop-k in
    row_word c.from_be_bytes.result c.args.bytes.now l.byte-items c.loop-k-test.array_long
    (λ k. (c.type_inv.bytes k).fits) (λ k h. l.invariant k (omega (arith, c.loop-k-test.false)))
    c.from_be_bytes.ensures
