-- `recording::object` meets its contract: the low 10 bits of a record are the object. Assumes nothing.
use Prim.Native.Nat.{◌+◌, ◌*◌, ◌-◌, ◌%◌, ◌<◌}
use mathlib.Core.Path.{◌≡◌, refl, ◌∙◌}
use native.Mathlib.Omega.{arith}
use lib.Bits.{bit_and, bit_or, and_mask}
use lib.ListN.{get_or}
use Rattle.std.proofs.lemmas.Grind.{or_after_shift}
use Rattle.laws.proofs.Trace.{record-object}
use Rattle.recording.proofs.object.Goals as goal

pub returns : goal.returns
returns c =
    let a = c.args in
    let p = c.requires in
    let hi = get_or a.records.now (2 * (a.e - 1)) 0 in
    let lo = get_or a.records.now (2 * (a.e - 1) + 1) 0 in
    let small : lo < 256 = omega (arith, c.type_inv.records (2 * (a.e - 1) + 1)) in
    let is : bit_or (bit_and hi 3 * 256 % 65536) lo ≡ hi % 4 * 256 + lo =
    rw (and_mask hi 2) (or_after_shift (hi % 4) 256 65536 lo refl small (omega arith)) in
    (omega (arith, is), is ∙ record-object a.records.now a.e p.0 p.1)
