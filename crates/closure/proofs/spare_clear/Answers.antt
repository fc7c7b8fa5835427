-- `closure::spare_clear` meets its contract: each of these bits is asked for. Assumes nothing.
use Rattle.std.proofs.Common.{◌∙◌, ℕ, ◌+◌, ◌-◌, ◌*◌, not, refl, rules, arith}
use Rattle.std.proofs.lemmas.Iterator.{YieldsList-from_range}
use Rattle.std.proofs.lemmas.Iterator.Search.{all_from_yields_List}
use borrow.Author.Tests.{tests}
use Rattle.laws.specs.BitRow.{row_bit}
use Rattle.closure.proofs.Sets.{all-range}
use Rattle.closure.proofs.spare_clear.Goals as goal

pub returns : goal.returns
returns c =
    let n = c.args.n in
    let words = c.args.words.now in
    let spare = 8 * c.args.bytes - n in
    all_from_yields_List (λ (e : ℕ). not (row_bit 64 words (e - 1))) _ _ _ c.all.ensures.ran
    (YieldsList-from_range (n + 1) (8 * c.args.bytes + 1) spare refl (omega arith))
    (λ x b q k. search (rules, tests))
    ∙ all-range (λ (e : ℕ). not (row_bit 64 words (e - 1))) (n + 1) spare
