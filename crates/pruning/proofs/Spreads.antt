-- Masks that cover others, the widening of one lock by lock, and the table of widened masks. Assumes nothing.
use Prim.Native.Nat.{ℕ, suc, ◌+◌, ◌-◌, ◌≤◌, ◌<◌}
use mathlib.Core.Path.{◌≡◌, ◌∙◌}
use mathlib.Core.Logic.{⊎_elim, ◌≢◌}
use mathlib.Core.List.{List}
use native.Mathlib.Omega.{arith}
use lib.Dec.{T}
use lib.Bits.{bit_or}
use lib.ListN.{length, get_or, set, length-set}
use lib.Seq.{get_or-set_same, get_or-set_other}
use Rattle.model.specs.Lists.{has_bit}
use Rattle.model.specs.Trace.{locks}
use Rattle.model.specs.Pattern.{largest_pattern}
use Rattle.laws.specs.Returning.{Covers, Spread}
use Rattle.laws.proofs.Bits.{has_bit-none, has_bit-or}
use Rattle.laws.proofs.Tests.{or_l, or_r, equal?}

-- ---- covered masks

-- The locks of a mask are in its union with another,
pub covers-left : (a b : ℕ) → Covers a (bit_or a b)
covers-left a b l t = rw (has_bit-or a b l) (or_l (has_bit a l) _ t)

-- and so are those of the other.
pub covers_right : (a b : ℕ) → Covers b (bit_or a b)
covers_right a b l t = rw (has_bit-or a b l) (or_r (has_bit a l) _ t)

-- No locks are among any.
pub covers-none : (a b : ℕ) → a ≡ 0 → Covers a b
covers-none a b z l t = absurd (rw (z, has_bit-none l) at t)

-- A table keeps its locks where more are put into an entry,
pub covers_kept : (table : List ℕ) (l m : ℕ) → l < length table → (o : ℕ)
    → Covers (get_or table o 0) (get_or (set table l (bit_or (get_or table l 0) m)) o 0)
covers_kept table l m h o i s =
    ⊎_elim
    (λ (q : o ≡ l). rw (q, get_or-set_same table l (bit_or (get_or table l 0) m) 0 h)
    (covers-left (get_or table l 0) m i (rw q at s)))
    (λ (q : o ≢ l). rw (get_or-set_other table l o (bit_or (get_or table l 0) m) 0 q) s) (equal? o l)

-- and has these there.
pub covers_put : (table : List ℕ) (l m : ℕ) → l < length table
    → Covers m (get_or (set table l (bit_or (get_or table l 0) m)) l 0)
covers_put table l m h i s =
    rw (get_or-set_same table l (bit_or (get_or table l 0) m) 0 h) (covers_right (get_or table l 0) m i s)

-- ---- widened masks

-- The locks that lead to those of the mask below m are in the widened one.
abbrev pub Widened : List ℕ → ℕ → ℕ → ℕ → Type 0
Widened lead mask m wide =
    Covers mask wide × ((k : ℕ) → k < m → T (has_bit mask k) → Covers (get_or lead k 0) wide)

-- One lock more.
pub widened-next : (lead : List ℕ) (mask m wide r : ℕ) → Widened lead mask m wide
    → Covers wide r × (T (has_bit mask m) → Covers (get_or lead m 0) r) → Widened lead mask (m + 1) r
widened-next lead mask m wide r z w = (
  λ l t. w.0 l (z.0 l t),
  λ k h t l s.
      ⊎_elim (λ (q : k ≡ m). w.1 (rw q at t) l (rw q at s))
      (λ (q : k ≢ m). w.0 l (z.1 k (omega arith) t l s)) (equal? k m),
)

-- ---- the table of widened masks

-- A table of one entry has nothing to lead to.
pub spread-start : (lead back : List ℕ) → length back ≡ largest_pattern → Spread lead 1 back
spread-start lead back long =
    record { long = long; grows = λ i h. absurd (omega arith); leads = λ i h. absurd (omega arith) }

-- A table spreads where each entry is the one before it, widened.
spread_widened : (lead back : List ℕ) (count : ℕ) → length back ≡ largest_pattern
    → ((i : ℕ) → suc i < count → Widened lead (get_or back i 0) locks (get_or back (suc i) 0))
    → Spread lead count back
spread_widened lead back count long w =
    record { long = long; grows = λ i h. (w i h).0; leads = λ i h. (w i h).1 }

-- The entry before i, widened, is entry i.
pub spread-next : (lead back : List ℕ) (i r : ℕ) → Spread lead i back → 1 ≤ i → i < largest_pattern
    → Widened lead (get_or back (i - 1) 0) locks r → Spread lead (i + 1) (set back i r)
spread-next lead back i r z h b w =
    spread_widened lead (set back i r) (i + 1) (length-set back i r ∙ z.long) step
  where
    old : (j : ℕ) → j < i → get_or (set back i r) j 0 ≡ get_or back j 0
    old j k = get_or-set_other back i j r 0 (λ q. omega arith)

    step : (j : ℕ) → suc j < i + 1
        → Widened lead (get_or (set back i r) j 0) locks (get_or (set back i r) (suc j) 0)
    step j k =
        ⊎_elim
        (λ (q : suc j ≡ i).
        let e : j ≡ i - 1 = omega arith in
        rw (old j (omega arith), q, get_or-set_same back i r 0 (omega (arith, z.long)), e) w)
        (λ (q : suc j ≢ i). rw (old j (omega arith), old (suc j) (omega arith))
        (z.grows j (omega arith), z.leads j (omega arith)))
        (equal? (suc j) i)
