-- Rows of bits, in elements of w bits: the first in the top bit of the first element, as in a lent event set
-- (w is 8) and in its words (w is 64). Places are counted from 0. Assumes nothing.
use Prim.Native.Nat.{ℕ, ◌-◌, ◌*◌, ◌/◌, ◌%◌, ◌^◌, ◌<◌}
use mathlib.Core.Path.{◌≡◌, sym, ap, ◌∙◌}
use mathlib.Core.Logic.{⊎_elim, ◌≢◌}
use mathlib.Core.Bool.{◌||◌, or-false}
use mathlib.Core.List.{List}
use native.Mathlib.Omega.{arith}
use native.Mathlib.Nat.{mod-lt, div-add-mod'}
use lib.Bits.{bit_or}
use lib.Dec.{eqb}
use lib.ListN.{length, get_or, set}
use lib.Seq.{get_or-set_same, get_or-set_other}
use borrow.Author.Tests.{eq-eqb, ne_eqb}
use Rattle.laws.specs.BitRow.{row_bit}
use Rattle.laws.proofs.Tests.{equal?}
use Rattle.laws.proofs.Bits.{has_bit-shift}

module _ (w : ℕ) (pos : 0 < w) where
  -- Places in one element have the same bit of it only where they are the same.
  row_bit_place : (i j : ℕ) → i / w ≡ j / w → eqb (w - 1 - i % w) (w - 1 - j % w) ≡ eqb i j
  row_bit_place i j e = ⊎_elim same other (equal? i j)
    where
      same : i ≡ j → eqb (w - 1 - i % w) (w - 1 - j % w) ≡ eqb i j
      same q = rw (eq-eqb i j q) (eq-eqb (w - 1 - i % w) (w - 1 - j % w) (ap (λ (n : ℕ). w - 1 - n % w) q))

      rests : w - 1 - i % w ≡ w - 1 - j % w → i % w ≡ j % w
      rests z = omega (arith, mod-lt i pos, mod-lt j pos)

      equal : i % w ≡ j % w → i ≡ j
      equal z = sym (div-add-mod' i w) ∙ rw (e, z) (div-add-mod' j w)

      other : i ≢ j → eqb (w - 1 - i % w) (w - 1 - j % w) ≡ eqb i j
      other d = rw (ne_eqb i j d) (ne_eqb (w - 1 - i % w) (w - 1 - j % w) (λ z. d (equal (rests z))))

  -- Setting one bit of a row, as code does it.
  pub row_bit-set : (b : List ℕ) (i j : ℕ) → i / w < length b
      → row_bit w (set b (i / w) (bit_or (get_or b (i / w) 0) (1 * 2 ^ (w - 1 - i % w) % 2 ^ w))) j
      ≡ (row_bit w b j || eqb i j)
  row_bit-set b i j h = ⊎_elim same other (equal? (j / w) (i / w))
    where
      new : ℕ
      new = bit_or (get_or b (i / w) 0) (1 * 2 ^ (w - 1 - i % w) % 2 ^ w)

      same : j / w ≡ i / w → row_bit w (set b (i / w) new) j ≡ (row_bit w b j || eqb i j)
      same q =
          rw (q, get_or-set_same b (i / w) new 0 h, ← (row_bit_place i j (sym q)))
          (has_bit-shift w (get_or b (i / w) 0) (w - 1 - i % w) (w - 1 - j % w) (omega (arith, mod-lt i pos)))

      other : j / w ≢ i / w → row_bit w (set b (i / w) new) j ≡ (row_bit w b j || eqb i j)
      other d =
          rw (
            get_or-set_other b (i / w) (j / w) new 0 d,
            ne_eqb i j (λ z. d (ap (λ (n : ℕ). n / w) (sym z))),
            or-false,
          )
