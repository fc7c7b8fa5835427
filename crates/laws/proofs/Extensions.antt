-- The search for deadlocks by the chains that it extends: what one event more adds to it, which chains lead
-- nowhere, and that the chains of all first events give the listing. Assumes nothing.
use Prim.Native.Nat.{ℕ, zero, suc, ◌-◌, ◌≤◌}
use mathlib.Core.Path.{◌≡◌, refl, sym, ◌∙◌}
use mathlib.Core.Bool.{true, false, cond}
use mathlib.Core.List.{[], ◌∷◌, ◌++◌}
use lib.ListN.{length}
use Rattle.model.specs.Lists.{from, each}
use Rattle.model.specs.Trace.{Trace, object, is_acquire}
use Rattle.model.specs.Relations.{held}
use Rattle.model.specs.Pattern.{largest_pattern, is_deadlock}
use Rattle.model.specs.Listing.{deadlocks}
use Rattle.laws.specs.Chain.{Chain, signature, start, add, fits, closes}
use Rattle.laws.specs.Walk.{extensions, branch, beginning}
use Rattle.laws.proofs.Tests.{decided}
use Rattle.laws.proofs.Filters.{each_none}
use Rattle.laws.proofs.Bits.{has_bit-none}
use Rattle.laws.proofs.Search.{found_patterns}
use Rattle.laws.proofs.Listing.{deadlocks_search}

module _ (σ : Trace) where
  -- ---- one event more

  -- With no event more, nothing.
  pub extensions-zero : (c : Chain) → extensions σ 0 c ≡ []
  unfolding extensions
  extensions-zero c = refl

  -- Otherwise what each later event adds.
  pub extensions-suc : (k : ℕ) (c : Chain)
      → extensions σ (suc k) c ≡ each (branch σ k c) (from (suc c.first) (length σ - c.first))
  unfolding extensions branch
  extensions-suc k c = refl

  module _ (k : ℕ) (c : Chain) (e : ℕ) where
    -- An event that does not fit adds nothing.
    pub branch_unfit : fits (signature σ) c e ≡ false → branch σ k c e ≡ []
    unfolding branch
    branch_unfit f = rw f

    -- Nor does one with which the chain is no deadlock.
    pub branch-not : is_deadlock σ (c.events ++ e ∷ []) ≡ false → branch σ k c e ≡ []
    unfolding branch
    branch-not d = decided (fits (signature σ) c e) (λ f. rw (f, d)) (λ f. rw f)

    -- Nor one with which it neither closes nor goes on.
    pub branch_nowhere : closes (signature σ) (add (signature σ) c e) ≡ false
        → extensions σ k (add (signature σ) c e) ≡ [] → branch σ k c e ≡ []
    unfolding branch
    branch_nowhere z x =
        decided (fits (signature σ) c e)
        (λ f. decided (is_deadlock σ (c.events ++ e ∷ [])) (λ d. rw (f, d, z, x)) (λ d. rw (f, d)))
        (λ f. rw f)

    -- One that fits and makes a deadlock with the chain adds the longer chain where this closes, and
    -- otherwise what extends it.
    pub branch_deadlock : fits (signature σ) c e ≡ true → is_deadlock σ (c.events ++ e ∷ []) ≡ true
        → branch σ k c e ≡ cond (closes (signature σ) (add (signature σ) c e)) ((c.events ++ e ∷ []) ∷ [])
        (extensions σ k (add (signature σ) c e))
    unfolding branch
    branch_deadlock f d = rw (f, d)

  -- ---- events that hold no lock

  -- A chain that begins with one does not close.
  pub extensions-unheld : (k : ℕ) (c : Chain) → held σ c.first ≡ 0 → extensions σ k c ≡ []
  extensions-unheld zero c h = extensions-zero c
  extensions-unheld (suc k) c h =
      extensions-suc k c ∙ each_none (branch σ k c) (from (suc c.first) (length σ - c.first)) (λ e m.
      branch_nowhere k c e (rw (h, has_bit-none (object σ e)))
      (extensions-unheld k (add (signature σ) c e) h))

  -- ---- first events

  -- An event that does not acquire begins nothing.
  pub beginning-none : (k a : ℕ) → is_acquire σ a ≡ false → beginning σ k a ≡ []
  unfolding beginning
  beginning-none k a h = rw h

  -- Nor does one that holds no lock.
  pub beginning-unheld : (k a : ℕ) → held σ a ≡ 0 → beginning σ k a ≡ []
  unfolding beginning
  beginning-unheld k a h =
      decided (is_acquire σ a) (λ e. rw e (extensions-unheld k (start (signature σ) a) h)) (λ e. rw e)

  -- An acquire begins what extends its chain.
  pub beginning_acquire : (k a : ℕ) → is_acquire σ a ≡ true
      → beginning σ k a ≡ extensions σ k (start (signature σ) a)
  unfolding beginning
  beginning_acquire k a h = rw h

  -- The listing is what the events begin, one after the other.
  pub deadlocks-beginning : (k : ℕ) → suc k ≤ largest_pattern
      → deadlocks σ (suc k) ≡ each (beginning σ k) (from 1 (length σ))
  unfolding beginning extensions found_patterns
  deadlocks-beginning k l = sym (deadlocks_search σ (suc k) l)
