-- How many bits are set: the language's count of ones is the number of places at which `has_bit` finds one.
-- The bits themselves are in Bits. Assumes nothing.
use Prim.Native.Nat.{ℕ, zero, suc, ◌+◌, ◌*◌, ◌/◌, ◌%◌, ◌^◌, ◌<◌}
use mathlib.Core.Path.{◌≡◌, refl, sym, ap, ◌∙◌}
use mathlib.Core.Bool.{cond}
use native.Mathlib.Omega.{arith}
use native.Mathlib.Nat.{mod-lt, mod-eq_of_lt, add_comm}
use native.Mathlib.Numerals.{one-add}
use lib.Count.{ones, ones_in, ones_cat}
use lib.Dec.{eqb}
use lib.Pow.{pow_pos, mod-pow-add}
use Rattle.model.specs.Lists.{has_bit}

-- How many of the places below n are set.
unfoldable pub places : ℕ → ℕ → ℕ
places zero m = 0
places (suc n) m = places n m + cond (has_bit m n) 1 0

ones_digit : (d : ℕ) → d < 2 → ones d ≡ cond (eqb d 1) 1 0
unfolding ones ones_in
ones_digit zero h = refl
ones_digit (suc zero) h = refl
ones_digit (suc (suc d)) h = absurd (omega arith)

ones_mod : (n m : ℕ) → ones (m % 2 ^ n) ≡ places n m
unfolding places has_bit ones
ones_mod zero m = let e : m % 1 ≡ 0 = omega arith in ap ones e
ones_mod (suc n) m =
    let d = m / 2 ^ n % 2 in
    let split : m % 2 ^ suc n ≡ d * 2 ^ n + m % 2 ^ n =
    ap (λ (k : ℕ). m % 2 ^ k) (sym (one-add n)) ∙ mod-pow-add m 1 n in
    ap ones split ∙ ones_cat n d (m % 2 ^ n) (mod-lt m (pow_pos n)) ∙ add_comm (ones d) (ones (m % 2 ^ n))
    ∙ ap (λ (x : ℕ). x + ones d) (ones_mod n m)
    ∙ ap (λ (x : ℕ). places n m + x) (ones_digit d (omega arith))

-- A mask of n places has as many ones as places that are set.
pub ones-places : (n m : ℕ) → m < 2 ^ n → ones m ≡ places n m
ones-places n m h = ap ones (sym (mod-eq_of_lt h)) ∙ ones_mod n m
