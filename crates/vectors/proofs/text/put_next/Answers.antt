-- `vectors::text::put_next` meets its contract: a number of 64 bits has at most twenty digits.
-- Assumes nothing.
use Rattle.std.proofs.Common.{string_bytes}
use Rattle.std.proofs.lemmas.Result.{on_ok_weaker}
use Rattle.vectors.proofs.Laws.{spaced_within}
use Rattle.vectors.proofs.text.put_next.Goals as goal

pub returns : goal.returns
returns c =
    let before = string_bytes c.args.text.now in
    let p = c.write in
    on_ok_weaker p.result (spaced_within before (string_bytes p.new.self) c.args.number c.ranges.number.fits)
    p.ensures.bytes
