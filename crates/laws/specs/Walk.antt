-- The depth_first search for deadlocks: chains that begin with the smallest event, extended by one later
-- event after the other. That it finds the listing is in proofs/Walk, Search and Listing.
use Rattle.std.specs.Prelude.{ℕ, zero, suc, ◌-◌, ◌≤◌, ◌<◌, ◌≡◌, ◌≢◌, Bool, false, cond, not, List, [], ◌∷◌, T}
use Rattle.std.specs.Prelude.{eqb, length}
use Rattle.model.specs.Lists.{from, each}
use Rattle.model.specs.Trace.{Trace, is_acquire}
use Rattle.model.specs.Pattern.{is_deadlock}
use Rattle.laws.specs.Chain.{Signature, Chain, signature, start, add, fits, closes}

-- The number x is the first after e, and at most n, that passes the test, or 0.
pub record First (p : ℕ → Bool) (n e x : ℕ) : Type 0 where
  pub ends : x ≡ 0 → (f : ℕ) → e < f → f ≤ n → p f ≡ false
  pub passes : x ≢ 0 → (e < x) × (x ≤ n) × T (p x)
  pub between : (f : ℕ) → e < f → f < x → p f ≡ false

-- The numbers to n that come before x, where 0 stands for the end.
abbrev pub up_to : ℕ → ℕ → ℕ
up_to n x = cond (eqb x 0) (suc n) x

-- ---- any test of beginnings

module _ (sig : ℕ → Signature) (n : ℕ) (bad : List ℕ → Bool) where
  -- What a chain yields, if its extensions yield `longer`: nothing where it is bad, itself alone where it
  -- is complete.
  abbrev pub yields : Chain → List (List ℕ) → List (List ℕ)
  yields c longer = cond (bad c.events) [] (cond (closes sig c) (c.events ∷ []) longer)

  -- The complete chains that extend c by at most k later events.
  abbrev pub extend : ℕ → Chain → List (List ℕ)
  extend zero c = []
  extend (suc k) c =
      each (λ e. let found = yields (add sig c e) (extend k (add sig c e)) in cond (fits sig c e) found [])
      (from (suc c.first) (n - c.first))

  -- The complete chains of at most k events.
  abbrev pub walk : ℕ → List (List ℕ)
  walk zero = []
  walk (suc k) = each (λ a. let found = extend k (start sig a) in cond (sig a).acquires found []) (from 1 n)

-- ---- deadlocks

-- The deadlocks that extend the chain c by at most k later events.
unfoldable pub extensions : Trace → ℕ → Chain → List (List ℕ)
extensions σ k c = extend (signature σ) (length σ) (λ p. not (is_deadlock σ p)) k c

-- The deadlocks that extend the chain c by event e and at most k more.
unfoldable pub branch : Trace → ℕ → Chain → ℕ → List (List ℕ)
branch σ k c e =
    let longer = add (signature σ) c e in
    cond (fits (signature σ) c e)
    (yields (signature σ) (length σ) (λ p. not (is_deadlock σ p)) longer (extensions σ k longer)) []

-- The deadlocks that begin with event a and have at most k more.
unfoldable pub beginning : Trace → ℕ → ℕ → List (List ℕ)
beginning σ k a = cond (is_acquire σ a) (extensions σ k (start (signature σ) a)) []
