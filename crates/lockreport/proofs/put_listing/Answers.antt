-- `lockreport::put_listing` meets its contract: the last line has a number of at most twenty digits.
-- Assumes nothing.
use Rattle.std.proofs.Common.{arith, string_bytes}
use Rattle.std.proofs.lemmas.Result.{on_ok_weaker}
use Rattle.lockreport.proofs.Laws.{total_within}
use Rattle.lockreport.proofs.put_listing.Goals as goal

pub returns : goal.returns
returns c =
    let listed = c.in_ok-put_patterns.ensures in
    let before = string_bytes c.put_patterns.new.text in
    let p = c.put_total in
    let last = total_within before (string_bytes p.new.text) c.args.patterns c.ranges.patterns.fits in
    on_ok_weaker p.result (λ e. let few = last e in omega (arith, few, listed)) p.ensures
