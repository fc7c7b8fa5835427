-- Blocks of 64 events with the locks that are held at their acquires, and the walk that passes over blocks.
-- Assumes nothing.
use Prim.Native.Nat.{ℕ, ◌+◌, ◌*◌, ◌/◌, ◌≤◌, ◌<◌}
use mathlib.Core.Path.{◌≡◌, ◌∙◌}
use mathlib.Core.Logic.{⊎_elim, ◌≢◌}
use mathlib.Core.Bool.{true, false, and-false}
use mathlib.Core.List.{List}
use native.Mathlib.Omega.{arith}
use lib.Dec.{T, T_not, not_T}
use lib.Bits.{bit_or}
use lib.ListN.{length, get_or, set, length-set}
use Rattle.model.specs.Lists.{has_bit}
use Rattle.model.specs.Trace.{Trace, object, is_acquire}
use Rattle.model.specs.Relations.{held}
use Rattle.laws.specs.Chain.{Chain, signature, fits}
use Rattle.laws.specs.Returning.{Covers}
use Rattle.laws.proofs.Tests.{is_false, decided, equal?, at-most?}
use Rattle.laws.proofs.Trace.{acquire-event}
use Rattle.pruning.specs.Linked.{is_nested, Link, Marked, is_near}
use Rattle.pruning.proofs.Nested.{nested_acquire, nested-fits}
use Rattle.pruning.proofs.Spreads.{covers_kept, covers_put}

-- ---- marking

-- The blocks of the events up to a place are marked.
pub record Marking (σ : Trace) (blocks : List ℕ) (at : ℕ) : Type 0 where
  pub long : length blocks ≡ 64
  pub high : at ≤ length σ
  pub marks : (f : ℕ) → f ≤ at → T (is_nested σ f) → Covers (held σ f) (get_or blocks (f / 64) 0)

module _ (σ : Trace) where
  -- At first there is none.
  pub marking-start : (blocks : List ℕ) → length blocks ≡ 64 → Marking σ blocks 0
  marking-start blocks long = record {
    long = long;
    high = omega arith;
    marks = λ f h t. absurd (omega (arith, (acquire-event σ f (nested_acquire σ f t)).0));
  }

  module _ (blocks : List ℕ) (at : ℕ) (z : Marking σ blocks at) where
    -- The block of the next one is marked.
    pub marking-next : (e : ℕ) → e ≢ 0 → Link σ at e → e / 64 < 64 → (m : ℕ) → m ≡ held σ e
        → Marking σ (set blocks (e / 64) (bit_or (get_or blocks (e / 64) 0) m)) e
    marking-next e d y b m q = record {
      long = length-set blocks (e / 64) _ ∙ z.long;
      high = (y.passes d).1;
      marks = λ f h t. ⊎_elim
          (λ (s : f ≡ e). rw s (λ i u. covers_put blocks (e / 64) m (omega (arith, z.long)) i (rw q u)))
          (λ (s : f ≢ e). λ i u. covers_kept blocks (e / 64) m (omega (arith, z.long)) (f / 64) i
          (z.marks f (earlier f h s t) t i u))
          (equal? f e);
    }
      where
        earlier : (f : ℕ) → f ≤ e → f ≢ e → T (is_nested σ f) → f ≤ at
        earlier f h s t =
            ⊎_elim (λ (l : f ≤ at). l)
            (λ (l : at < f). absurd (T_not (is_nested σ f) (rw (y.between f l (omega arith)) tt) t))
            (at-most? f at)

  -- ---- passing over

  module _ (blocks : List ℕ) (l : ℕ) where
    -- An event that is not nested is not near.
    pub nested_near : (f : ℕ) → is_nested σ f ≡ false → is_near σ blocks l f ≡ false
    nested_near f n = rw n

    -- In another block none is.
    pub near_missed : (x : ℕ) → has_bit (get_or blocks (x / 64) 0) l ≡ false → (end : ℕ)
        → end ≡ x / 64 * 64 + 63 → (f : ℕ) → x ≤ f → f ≤ end → is_near σ blocks l f ≡ false
    near_missed x n end is f h k =
        let same : f / 64 ≡ x / 64 = omega arith in
        rw (same, n, and-false (is_nested σ f))

  -- An event that is not near does not follow a chain that ends with an acquire of lock l.
  pub near_fits : (blocks : List ℕ) → Marked σ blocks → (c : Chain) (l f : ℕ) → l ≡ object σ c.last
      → is_near σ blocks l f ≡ false → fits (signature σ) c f ≡ false
  near_fits blocks z c l f q n = decided (is_nested σ f) nested (nested-fits σ c f)
    where
      nested : is_nested σ f ≡ true → fits (signature σ) c f ≡ false
      nested y =
          let t : T (is_nested σ f) = rw y tt in
          let high = (acquire-event σ f (nested_acquire σ f t)).1 in
          let unmarked : has_bit (get_or blocks (f / 64) 0) l ≡ false = rw y at n in
          let free : has_bit (held σ f) l ≡ false = is_false (has_bit (held σ f) l) (not_T (has_bit (held σ f)
          l) (λ u.
          T_not (has_bit (get_or blocks (f / 64) 0) l) (rw unmarked tt) (z.marks f high t l u))) in
          decided (is_acquire σ f) (λ a. rw (a, ← q, free)) (λ a. rw a)
