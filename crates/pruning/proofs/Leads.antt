-- The held locks noted with each lock, candidate by candidate and along the links between acquires. Assumes
-- nothing.
use Prim.Native.Nat.{ℕ, ◌+◌, ◌≤◌, ◌<◌}
use mathlib.Core.Path.{◌≡◌, refl, ◌∙◌}
use mathlib.Core.Logic.{⊎_elim, ◌≢◌}
use mathlib.Core.Bool.{false}
use mathlib.Core.List.{List}
use native.Mathlib.Omega.{arith}
use lib.Bits.{bit_or}
use lib.ListN.{length, get_or, set, length-set}
use Rattle.model.specs.Trace.{Trace, locks, object}
use Rattle.model.specs.Relations.{held}
use Rattle.laws.specs.Returning.{Covers, Candidates, IsCandidate, Led, Leading}
use Rattle.laws.proofs.Tests.{equal?, at-most?}
use Rattle.pruning.specs.Linked.{is_nested, Link}
use Rattle.pruning.proofs.Nested.{acquire_free}
use Rattle.pruning.proofs.Spreads.{covers-none, covers_kept, covers_put}

-- ---- noting an acquire

module _ (σ : Trace) (c : Candidates) where
  -- Before any candidate, any table will do.
  pub led-start : (lead : List ℕ) → length lead ≡ locks → Led σ c (c.after + 1) lead
  led-start lead long = record { long = long; leads = λ e k y. absurd (omega (arith, y.later)) }

  module _ (lead : List ℕ) (e : ℕ) (z : Led σ c e lead) where
    -- Event e is no candidate, or its held locks are already there.
    pub led-next : (IsCandidate σ c e → Covers (held σ e) (get_or lead (object σ e) 0)) → Led σ c (e + 1) lead
    led-next g = record { long = z.long; leads = leads }
      where
        leads : (f : ℕ) → f < e + 1 → IsCandidate σ c f → Covers (held σ f) (get_or lead (object σ f) 0)
        leads f k y =
            ⊎_elim (λ (q : f ≡ e). rw q (g (rw q at y))) (λ (q : f ≢ e). z.leads f (omega arith) y)
            (equal? f e)

    -- More locks in an entry.
    pub led_more : (l m : ℕ) → l < locks → Led σ c e (set lead l (bit_or (get_or lead l 0) m))
    led_more l m b = record {
      long = length-set lead l _ ∙ z.long;
      leads = λ f k y i s. covers_kept lead l m (omega (arith, z.long)) (object σ f) i (z.leads f k y i s);
    }

  -- The held locks of e noted with its lock.
  pub led_noted : (lead : List ℕ) (e : ℕ) → Led σ c e lead → (l m : ℕ) → l < locks → l ≡ object σ e
      → m ≡ held σ e → Led σ c (e + 1) (set lead l (bit_or (get_or lead l 0) m))
  led_noted lead e z l m b q r =
      led-next (set lead l (bit_or (get_or lead l 0) m)) e (led_more lead e z l m b) (λ y. new)
    where
      new : Covers (held σ e) (get_or (set lead l (bit_or (get_or lead l 0) m)) (object σ e) 0)
      new i s = rw (← q) (covers_put lead l m (omega (arith, z.long)) i (rw (← r) at s))

-- ---- along the links

module _ (σ : Trace) (c : Candidates) (lead : List ℕ) (at : ℕ) (z : Led σ c (at + 1) lead) where
  -- Acquires that are not nested hold no lock, so nothing is to be noted of them.
  upto : (stop : ℕ) → ((f : ℕ) → at < f → f < stop → is_nested σ f ≡ false) → Led σ c stop lead
  upto stop g = record { long = z.long; leads = leads }
    where
      leads : (f : ℕ) → f < stop → IsCandidate σ c f → Covers (held σ f) (get_or lead (object σ f) 0)
      leads f l y =
          ⊎_elim
          (λ (o : f ≤ at). z.leads f (omega arith) y)
          (λ (o : at < f). covers-none (held σ f) _ (acquire_free σ f y.acquires (g f o l))) (at-most? f at)

  -- The next one along a link is at hand,
  pub led_link : (e : ℕ) → Link σ at e → Led σ c e lead
  led_link e y = upto e y.between

  -- and at the end all is noted.
  pub led_end : Link σ at 0 → Leading σ c lead
  led_end y = upto (length σ + 1) (λ f h l. y.ends refl f h (omega arith))
