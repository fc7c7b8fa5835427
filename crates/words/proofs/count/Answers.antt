-- `words::count` meets its contract: the ones of the words are those of their places. Assumes nothing.
use Rattle.std.proofs.Common.{◌≡◌, ◌∙◌, sum_by, count_ones, rules}
use Rattle.words.proofs.Laws.{ones_counted}
use Rattle.words.proofs.count.Goals as goal

pub returns : goal.returns
returns c =
    let ws = c.args.words.now in
    let ones : c.sum.result ≡ sum_by (λ w. count_ones w) ws = search rules in
    ones ∙ ones_counted ws (λ k. (c.type_inv.words k).fits)
