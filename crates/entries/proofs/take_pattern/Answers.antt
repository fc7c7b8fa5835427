-- `entries::take_pattern` meets its contract: an entry that does not fit the room exceeds it, and one that
-- fits is counted, and written behind those before it. Assumes nothing.
use mathlib.Core.Path.{refl}
use native.Mathlib.Omega.{arith}
use Rattle.entries.proofs.Laws.{adds_full, adds_one}
use Rattle.entries.proofs.take_pattern.Goals as goal

pub returns-then-found-bytes : goal.returns-then-found-bytes
returns-then-found-bytes c =
    let a = c.args in
    adds_full a.out.now a.pattern.now a.found (omega (arith, c.if-found-bytes.true, c.bytes-bytes.ensures)) _

pub returns : goal.returns
returns c =
    let a = c.args in
    let w = c.write_rest in
    adds_one a.out.now a.pattern.now a.found _ refl (omega (arith, c.bytes-bytes.ensures)) refl w.new.out
    w.auto.out w.ensures
