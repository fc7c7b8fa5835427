-- Request 8 holds: the rest of the division decides between the quotient and the next number, and of two
-- neighbours at the half only one is even. Assumes nothing.
use Prim.Native.Nat.{ℕ, ◌+◌, ◌*◌, ◌/◌, ◌%◌, ◌≤◌, ◌<◌}
use mathlib.Core.Path.{◌≡◌}
use mathlib.Core.Logic.{◌≢◌, ⊎_elim}
use native.Mathlib.Nat.{mod-lt, div-add-mod', add-mul, one-mul, mul-le-mul_right}
use native.Mathlib.Omega.{arith}
use lib.Dec.{ltb}
use lib.ListN.{length}
use borrow.Author.Tests.{eq-eqb, ne_eqb}
use Rattle.model.specs.Recording.{trace}
use Rattle.model.specs.Calls.Load.{held_events, percent}
use Rattle.laws.proofs.Tests.{decided, equal?, at-most?, tests}
use Rattle.laws.proofs.Answers.{load_accepted}
use Rattle.theory.specs.Rounding.{Rounded, Request8}

-- A product with the next number.
next_mul : (q n : ℕ) → (q + 1) * n ≡ q * n + n
next_mul q n = rw (add-mul q 1 n, one-mul n)

module _ {h n : ℕ} (q r : ℕ) (split : q * n + r ≡ 100 * h) (rest : r < n) where
  -- The quotient is rounded where the rest is at most the half, and it is even at the half;
  quotient_rounded : 2 * r ≤ n → (2 * r ≡ n → q % 2 ≡ 0) → Rounded h n q
  quotient_rounded a even = record { nearest = omega arith; even = λ e. even (omega arith) }

  -- the next number where the rest is at least the half, and the quotient is odd at the half.
  next_rounded : n ≤ 2 * r → (2 * r ≡ n → q % 2 ≢ 0) → Rounded h n (q + 1)
  next_rounded a odd = record {
    nearest = omega (arith, next_mul q n);
    even = λ e. let o = odd (omega (arith, next_mul q n)) in omega arith;
  }

module _ (h n : ℕ) (some : n ≢ 0) where
  -- The per cent is rounded, wherever the rest lies;
  percent_rounded : Rounded h n (percent h n)
  unfolding percent
  percent_rounded =
      let q = 100 * h / n in
      let r = 100 * h % n in
      let split : q * n + r ≡ 100 * h = div-add-mod' (100 * h) n in
      let rest : r < n = mod-lt (100 * h) (omega arith) in
      let lower = quotient_rounded {h = h} q r split rest in
      let upper = next_rounded {h = h} q r split rest in
      rw (ne_eqb n 0 some)
      (decided (ltb (2 * r) n) (λ y. rw y (lower (omega tests) (λ e. absurd (omega tests))))
      (λ y. rw y (decided (ltb n (2 * r)) (λ z. rw z (upper (omega tests) (λ e. absurd (omega tests))))
      (λ z. rw z (⊎_elim (λ (even : q % 2 ≡ 0). rw even (lower (omega tests) (λ e. even)))
      (λ (odd : q % 2 ≢ 0). let one : q % 2 ≡ 1 = omega arith in rw one (upper (omega tests) (λ e. odd)))
      (equal? (q % 2) 0))))))

  -- of two numbers that are rounded neither is larger, for they would be neighbours, both at the half;
  rounded_le : (x y : ℕ) → Rounded h n x → Rounded h n y → y ≤ x
  rounded_le x y a b = ⊎_elim (λ c. c) (λ c. absurd (apart c)) (at-most? y x)
    where
      apart : x < y → ⊥
      apart c =
          let one : (x + 1) * n ≤ y * n = mul-le-mul_right n (omega arith) in
          let even = a.even (omega (arith, next_mul x n)) in
          let even' = b.even (omega (arith, next_mul x n)) in
          let two : (x + 1 + 1) * n ≤ y * n = mul-le-mul_right n (omega arith) in
          omega (arith, next_mul x n, next_mul (x + 1) n)

  -- so no other number is.
  rounded_once : (x : ℕ) → Rounded h n x → x ≡ percent h n
  rounded_once x a =
      let b = percent_rounded in
      omega (arith, rounded_le x (percent h n) a b, rounded_le (percent h n) x b a)

-- Request 8.
pub request8 : Request8
unfolding percent
request8 b l e =
    let h = held_events (trace b) l in
    let n = length (trace b) in
    let answer = load_accepted b l e in
    record {
      rounded = λ some. rw answer (percent_rounded h n some);
      only = λ some x a. rw answer (rounded_once h n some x a);
      empty = λ none. rw (answer, eq-eqb n 0 none);
    }
