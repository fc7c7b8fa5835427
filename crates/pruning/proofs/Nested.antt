-- Nested acquires, and the links to the first of them after an event, from the last event down.
-- Assumes nothing.
use Prim.Native.Nat.{ℕ, ◌-◌, ◌≤◌, ◌<◌}
use mathlib.Core.Path.{◌≡◌, refl, ◌∙◌}
use mathlib.Core.Logic.{⊎_elim, ◌≢◌}
use mathlib.Core.Bool.{true, false, cond, not, and-false}
use mathlib.Core.List.{List}
use Rattle.std.specs.Prelude.{Option}
use native.Mathlib.Omega.{arith}
use lib.Dec.{T, eqb}
use lib.ListN.{length, get_or, set, length-set}
use lib.Seq.{get_or-set_same, get_or-set_other}
use borrow.Author.Tests.{eq-eqb, ne_eqb, eqb-true}
use Rattle.model.specs.Trace.{Trace, object, is_acquire}
use Rattle.model.specs.Relations.{held}
use Rattle.laws.specs.Sizes.{table_length}
use Rattle.laws.specs.Chain.{Chain, signature, fits}
use Rattle.laws.proofs.Bits.{has_bit-none}
use Rattle.laws.proofs.Tests.{and_l, and_i, is_false, decided, cond_elim, equal?}
use Rattle.pruning.specs.Linked.{is_nested, event_of, Link, Linked, Earliest}

-- ---- nested acquires

module _ (σ : Trace) (e later : ℕ) where
  -- An event at which nothing is held is passed over,
  pub nested_free : {h : ℕ} → h ≡ held σ e → h ≡ 0 → later ≡ cond (is_nested σ e) e later
  nested_free q z = rw (← q, z, and-false (is_acquire σ e))

  -- and so is one that is no acquire;
  pub nested_other : is_acquire σ e ≡ false → later ≡ cond (is_nested σ e) e later
  nested_other n = rw n

  -- any other is nested.
  pub nested-held : {h : ℕ} → h ≡ held σ e → h ≢ 0 → is_acquire σ e ≡ true → e ≡ cond (is_nested σ e) e later
  nested-held q d y = rw (← q, y, ne_eqb _ 0 d)

-- A nested event is an acquire.
pub nested_acquire : (σ : Trace) (e : ℕ) → T (is_nested σ e) → T (is_acquire σ e)
nested_acquire σ e t = and_l (is_acquire σ e) _ t

-- An acquire that is not nested holds nothing.
pub acquire_free : (σ : Trace) (e : ℕ) → T (is_acquire σ e) → is_nested σ e ≡ false → held σ e ≡ 0
acquire_free σ e t n = eqb-true (held σ e) 0 (decided (eqb (held σ e) 0) (λ y. y) (λ y. absurd (other y)))
  where
    other : eqb (held σ e) 0 ≡ false → ⊥
    other y =
        let both : T (is_nested σ e) = and_i (is_acquire σ e) _ t (rw y tt) in
        rw n at both

-- ---- links

-- The links of the events after e are in the table, and `top` is the link of e.
pub record LinkedAfter (σ : Trace) (e top : ℕ) (next : List ℕ) : Type 0 where
  pub long : length next ≡ table_length
  pub first : Link σ e top
  pub link : (f : ℕ) → e < f → f ≤ length σ → Link σ f (get_or next f 0)

-- The last event's link is 0.
pub linked_last : (σ : Trace) (next : List ℕ) → length next ≡ table_length → (n : ℕ) → length σ ≡ n
    → LinkedAfter σ n 0 next
linked_last σ next long n q = record { long = long; first = none; link = λ f h k. absurd (omega arith) }
  where
    none : Link σ n 0
    none = record {
      ends = λ z f h k. absurd (omega arith);
      passes = λ d. absurd (d refl);
      between = λ f h k. absurd (omega arith);
    }

module _ (σ : Trace) (e : ℕ) (h : 0 < e) (k : e ≤ length σ) where
  -- A nested event is the link of the one before it.
  link_nested : T (is_nested σ e) → Link σ (e - 1) e
  link_nested t = record {
    ends = λ z f i j. absurd (omega arith);
    passes = λ d. (omega arith, k, t);
    between = λ f i j. absurd (omega arith);
  }

  -- Another has the same link as the one before it.
  link_passed : (top : ℕ) → T (not (is_nested σ e)) → Link σ e top → Link σ (e - 1) top
  link_passed top n z = record {
    ends = λ q f i j. passed f i (λ l. z.ends q f l j);
    passes = λ d. let r = z.passes d in (omega (arith, r.0), r.1, r.2);
    between = λ f i j. passed f i (λ l. z.between f l j);
  }
    where
      passed : (f : ℕ) → e - 1 < f → (e < f → is_nested σ f ≡ false) → is_nested σ f ≡ false
      passed f i g =
          ⊎_elim (λ (q : f ≡ e). rw q (is_false (is_nested σ e) n)) (λ (d : f ≢ e). g (omega arith))
          (equal? f e)

  -- The link of the event before e is e, where that is nested, or else the link of e.
  pub link_before : (top : ℕ) → Link σ e top → Link σ (e - 1) (cond (is_nested σ e) e top)
  link_before top z =
      cond_elim (Link σ (e - 1)) (is_nested σ e) e top link_nested (λ n. link_passed top n z)

module _ (σ : Trace) (e top : ℕ) (next : List ℕ) (z : LinkedAfter σ e top next) (k : e < table_length) where
  -- The link of e stored at its place, and the links behind it kept.
  stored : (f : ℕ) → e ≤ f → f ≤ length σ → Link σ f (get_or (set next e top) f 0)
  stored f h j = ⊎_elim here there (equal? f e)
    where
      here : f ≡ e → Link σ f (get_or (set next e top) f 0)
      here q = rw (q, get_or-set_same next e top 0 (omega (arith, z.long))) z.first

      there : f ≢ e → Link σ f (get_or (set next e top) f 0)
      there d = rw (get_or-set_other next e f top 0 d) (z.link f (omega arith) j)

  -- One link more is in the table.
  pub linked_before : (x : ℕ) → 0 < e → e ≤ length σ → x ≡ cond (is_nested σ e) e top
      → LinkedAfter σ (e - 1) x (set next e top)
  linked_before x h l q = record {
    long = length-set next e top ∙ z.long;
    first = rw q (link_before σ e h l top z.first);
    link = λ f i j. stored f (omega arith) j;
  }

  -- With the link of number 0 the table has them all.
  pub linked-all : e ≡ 0 → Linked σ (set next e top)
  linked-all q = record {
    long = length-set next e top ∙ z.long;
    link = λ f h. stored f (omega arith) h;
  }

-- What a place of the table is linked to is the first nested acquire after it, if any.
pub linked_earliest : (σ : Trace) (next : List ℕ) → Linked σ next → (e : ℕ) → e ≤ length σ → (r : Option ℕ)
    → r ≡ event_of (get_or next e 0) → Earliest (is_nested σ) (length σ) e r
linked_earliest σ next z e h r q = rw q (⊎_elim none some (equal? (get_or next e 0) 0))
  where
    none : get_or next e 0 ≡ 0 → Earliest (is_nested σ) (length σ) e (event_of (get_or next e 0))
    none i = rw (eq-eqb (get_or next e 0) 0 i) (rw i at (z.link e h))

    some : get_or next e 0 ≢ 0 → Earliest (is_nested σ) (length σ) e (event_of (get_or next e 0))
    some d = rw (ne_eqb (get_or next e 0) 0 d) (d, z.link e h)

-- ---- events that may follow

-- An event that is not nested does not follow a chain.
pub nested-fits : (σ : Trace) (c : Chain) (f : ℕ) → is_nested σ f ≡ false → fits (signature σ) c f ≡ false
nested-fits σ c f n =
    decided (is_acquire σ f)
    (λ a. rw (a, acquire_free σ f (rw a tt) n, has_bit-none (object σ c.last)))
    (λ a. rw a)
