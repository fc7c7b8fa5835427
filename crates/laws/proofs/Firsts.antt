-- A walk from each number to the first after it that passes a test: what is yielded on the way. Assumes
-- nothing.
use Prim.Native.Nat.{ℕ, suc, ◌-◌, ◌≤◌, ◌<◌}
use mathlib.Core.Path.{◌≡◌, refl}
use mathlib.Core.Logic.{◌≢◌}
use mathlib.Core.Bool.{Bool, false}
use mathlib.Core.List.{List, [], ◌++◌, append-nil}
use native.Mathlib.Omega.{arith}
use Rattle.model.specs.Lists.{from, each}
use Rattle.laws.specs.Walk.{First}
use Rattle.laws.proofs.Lists.{from_iff, from_split}
use Rattle.laws.proofs.Filters.{each_append, each_none, each_next}

-- What the numbers above a yield to m, where those after b yield nothing.
each_passed {ℓ} : {A : Type ℓ} (g : ℕ → List A) (a b m : ℕ) → a ≤ b → b ≤ m
    → ((f : ℕ) → b < f → f ≤ m → g f ≡ []) → each g (from (suc a) (m - a)) ≡ each g (from (suc a) (b - a))
each_passed g a b m h k n =
    rw (
      from_split (suc a) (b - a) (m - a) (suc b) (omega arith) (omega arith),
      each_append,
      each_none g (from (suc b) (m - a - (b - a))) (λ f i.
          let range = (from_iff (suc b) (m - a - (b - a)) f).0 i in n f (omega arith) (omega arith)),
      append-nil (each g (from (suc a) (b - a))),
    )

module _ {ℓ} {A : Type ℓ} (p : ℕ → Bool) (g : ℕ → List A) (n a b : ℕ) (h : a ≤ b)
    (none : (f : ℕ) → b < f → f ≤ n → p f ≡ false → g f ≡ []) where
  -- Where those that do not pass yield nothing, what the first number after b that does yields is all that
  -- comes to what the numbers to b yield;
  pub each_first : (x : ℕ) → First p n b x → x ≢ 0
      → each g (from (suc a) (x - a)) ≡ each g (from (suc a) (b - a)) ++ g x
  each_first x z d =
      let (low, high, t) = z.passes d in
      let last : x - a ≡ suc x - suc a = omega arith in
      let more : x - suc a ≡ x - 1 - a = omega arith in
      rw (
        last,
        each_next g (suc a) x (suc x) (omega arith) (omega arith) (λ f i j. absurd (omega arith)),
        more,
        each_passed g a b (x - 1) h (omega arith) (λ f i j.
            none f i (omega arith) (z.between f i (omega arith))),
      )

  -- and where there is none, they yield all.
  pub each_last : First p n b 0 → b ≤ n → each g (from (suc a) (n - a)) ≡ each g (from (suc a) (b - a))
  each_last z k = each_passed g a b n h k (λ f i j. none f i j (z.ends refl f i j))
