-- `words::pack` meets its contract: the words made have the bits of their bytes, and no other word has one.
-- Assumes nothing.
use mathlib.Core.Path.{◌≡◌, ap, ◌∙◌}
use native.Mathlib.Omega.{arith}
use lib.ListN.{length}
use borrow.Author.Rules.{rules}
use Rattle.std.specs.Slice.Iter.{chunks_rest}
use Rattle.words.proofs.Laws.{Next, next_below, rest_left, packed_start, packed_more, packed_end, row_clear}
use Rattle.words.proofs.pack.Goals as goal
use Rattle.words.proofs.pack.Goals.{In-Some}

pub loop-k-init : goal.loop-k-init
loop-k-init c =
    let at : c.into_iter-k-iterator.result.count ≡ 0 = search rules in
    let clear = row_clear 64 c.fill.new.self (λ k l. search rules) in
    (search rules, search rules, rw at (packed_start c.args.set.now c.fill.new.self clear))

-- The next bytes are the ones after those of the words made.
next : (c : goal.In-Some)
    → Next c.args.set.now c.in-Some.bytes.now (chunks_rest c.next.new.self.iter) c.loop-k.k-iterator.count
next c =
    let (parts, size, some) = c.in-Some.ensures.steps.0.1 in
    let (eight, left, _) = c.loop-k.invariant in
    record { parts = left ∙ parts; size = rw (eight, ← left) at size; some = rw (← left) at some }

pub loop-k-preserved : goal.loop-k-preserved
loop-k-preserved c =
    let k = c.loop-k in
    let u = next (goal.at.loop-k-preserved c).In-Some in
    let (chunks, here, after, _) = c.in-Some.ensures.steps in
    let (eight, left, packed) = k.invariant in (
      chunks.0 ∙ eight,
      rw after (rest_left u),
      rw (here, after)
          (packed_more u k.words c.word_of.result (omega (arith, next_below u)) c.word_of.ensures packed),
    )

pub returns : goal.returns
returns c =
    let k = c.loop-k in
    let (_, left, packed) = k.invariant in
    let none = ap length left ∙ c.in-None.ensures.steps.0.1.0 in
    packed_end c.args.set.now k.words k.k-iterator.count none packed
