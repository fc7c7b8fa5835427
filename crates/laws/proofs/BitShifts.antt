-- The bits of a number shifted down, and of the low part of one: how a field is taken out of a number.
-- Assumes nothing.
use Prim.Native.Nat.{ℕ, ◌+◌, ◌-◌, ◌/◌, ◌%◌, ◌^◌, ◌≤◌, ◌<◌}
use mathlib.Core.Path.{◌≡◌, ap, ◌∙◌}
use mathlib.Core.Logic.{⊎_elim}
use mathlib.Core.Bool.{◌&&◌}
use native.Mathlib.Omega.{arith}
use native.Mathlib.Nat.{mod-lt}
use lib.Dec.{eqb, ltb}
use lib.Pow.{pow_pos, shr-shr, field, mod-mod-pow}
use borrow.Author.Tests.{lt-ltb, le-ltb}
use Rattle.model.specs.Lists.{has_bit}
use Rattle.laws.proofs.Tests.{at-most?}
use Rattle.laws.proofs.Bits.{has_bit_beyond}

-- Shifted down by s places, a bit stands s places lower.
pub has_bit_shr : (m s l : ℕ) → has_bit (m / 2 ^ s) l ≡ has_bit m (s + l)
unfolding has_bit
has_bit_shr m s l = rw (shr-shr)

low_digit : (m d l : ℕ) → m % 2 ^ (d + 1 + l) / 2 ^ l % 2 ≡ m / 2 ^ l % 2
low_digit m d l = ap (λ (x : ℕ). x % 2) (field m (d + 1) l) ∙ mod-mod-pow (m / 2 ^ l) d 1

-- The low n places have the bits below n, and no other.
pub has_bit_low : (m n l : ℕ) → has_bit (m % 2 ^ n) l ≡ (ltb l n && has_bit m l)
unfolding has_bit
has_bit_low m n l = ⊎_elim above below (at-most? n l)
  where
    above : n ≤ l → has_bit (m % 2 ^ n) l ≡ (ltb l n && has_bit m l)
    above h = rw (le-ltb l n h) (has_bit_beyond (m % 2 ^ n) n l (mod-lt m (pow_pos n)) h)

    below : l < n → has_bit (m % 2 ^ n) l ≡ (ltb l n && has_bit m l)
    below h =
        let all : n ≡ n - l - 1 + 1 + l = omega arith in
        rw (lt-ltb l n h) (ap (λ (x : ℕ). eqb (m % 2 ^ x / 2 ^ l % 2) 1) all
        ∙ ap (λ (x : ℕ). eqb x 1) (low_digit m (n - l - 1) l))
