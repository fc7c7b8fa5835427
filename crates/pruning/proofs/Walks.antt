-- A walk from a number to the first after it that passes a test, over those that pass a weaker one. Assumes
-- nothing.
use Prim.Native.Nat.{ℕ, ◌≤◌, ◌<◌}
use mathlib.Core.Path.{◌≡◌}
use mathlib.Core.Logic.{⊎_elim, ◌≢◌}
use mathlib.Core.Bool.{Bool, true, false}
use native.Mathlib.Omega.{arith}
use Rattle.laws.specs.Walk.{First}
use Rattle.laws.proofs.Tests.{at-most?}

-- The walk from e has come to a place: none up to there passes.
pub record Walked (p : ℕ → Bool) (n e at : ℕ) : Type 0 where
  pub low : e ≤ at
  pub high : at ≤ n
  pub failed : (f : ℕ) → e < f → f ≤ at → p f ≡ false

-- At first none is passed over.
pub walked-start : (p : ℕ → Bool) (n e : ℕ) → e ≤ n → Walked p n e e
walked-start p n e h = record { low = omega arith; high = h; failed = λ f i j. absurd (omega arith) }

module _ (p q : ℕ → Bool) (weaker : (f : ℕ) → q f ≡ false → p f ≡ false) {n e at : ℕ}
    (z : Walked p n e at) where
  -- Where none passes the weaker test any more, there is none.
  pub walked-none : First q n at 0 → First p n e 0
  walked-none y = record {
    ends = λ i f h k. ⊎_elim (λ (l : f ≤ at). z.failed f h l) (λ (l : at < f). weaker f (y.ends i f l k))
        (at-most? f at);
    passes = λ i. absurd (omega arith);
    between = λ f h k. absurd (omega arith);
  }

  module _ {x : ℕ} (d : x ≢ 0) (y : First q n at x) where
    -- None before the next one that does passes.
    before : (f : ℕ) → e < f → f < x → p f ≡ false
    before f h k =
        ⊎_elim (λ (l : f ≤ at). z.failed f h l) (λ (l : at < f). weaker f (y.between f l k)) (at-most? f at)

    -- It is the first where it passes.
    pub walked_found : p x ≡ true → First p n e x
    walked_found t = record {
      ends = λ i. absurd (d i);
      passes = λ i. (omega (arith, z.low, (y.passes i).0), (y.passes i).1, rw t tt);
      between = before;
    }

    module _ (end : ℕ) (miss : (f : ℕ) → x ≤ f → f ≤ end → p f ≡ false) where
      missed : (f : ℕ) → e < f → f ≤ end → p f ≡ false
      missed f h k =
          ⊎_elim (λ (l : x ≤ f). miss f l k) (λ (l : f < x). before f h l) (at-most? x f)

      -- Otherwise the walk goes on after it, or after more that do not pass,
      pub walked-next : x ≤ end → end ≤ n → Walked p n e end
      walked-next h k = record { low = omega (arith, z.low, (y.passes d).0); high = k; failed = missed }

      -- or ends where no number is left.
      pub walked_last : n ≤ end → First p n e 0
      walked_last h = record {
        ends = λ i f g k. missed f g (omega arith);
        passes = λ i. absurd (omega arith);
        between = λ f g k. absurd (omega arith);
      }

-- What does not pass is passed over alone.
pub alone : (p : ℕ → Bool) (x : ℕ) → p x ≡ false → (f : ℕ) → x ≤ f → f ≤ x → p f ≡ false
alone p x n f h k = let s : f ≡ x = omega arith in rw s n
