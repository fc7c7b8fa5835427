-- When an event fits a chain, by what code reads of it, and when numbers complete one. Assumes nothing.
use Prim.Native.Nat.{ℕ, ◌+◌, ◌*◌, ◌%◌, ◌≤◌, ◌<◌}
use mathlib.Core.Path.{◌≡◌, refl, sym, ap, ◌∙◌}
use mathlib.Core.Logic.{◌⊎◌, ⊎_elim, ◌≢◌}
use mathlib.Core.Bool.{Bool, true, false, not, ◌&&◌, and-false, true≢false}
use mathlib.Core.List.{List, ◌∷◌}
use native.Mathlib.Omega.{arith}
use native.Mathlib.Numerals.{add-one}
use lib.Bits.{bit_and}
use lib.Dec.{T, not_T, ltb}
use lib.ListN.{length, get_or, drop, drop_of_length-le, length-drop}
use lib.Seq.{drop-cons}
use borrow.Author.Tests.{eq-eqb, ne_eqb, lt-ltb, le-ltb}
use Rattle.model.specs.Lists.{has_bit}
use Rattle.model.specs.Bytes.{numbers, is_whole}
use Rattle.model.specs.Pattern.{is_pattern}
use Rattle.model.specs.Trace.{Trace, locks, at, task, object, is_event, is_acquire}
use Rattle.model.specs.Recording.{decode_all}
use Rattle.model.specs.Relations.{held}
use Rattle.laws.specs.Chain.{Chain, signature, start, add, fits, closes, completing}
use Rattle.laws.proofs.Tests.{parts, decided, is_true, is_false, tests}
use Rattle.laws.proofs.Bytes.{numbers-length}
use Rattle.laws.proofs.Pattern.{is_pattern_iff}
use Rattle.laws.proofs.Trace.{is_event_iff, decode_all-length}
use Rattle.laws.proofs.Operations.{is_acquire-none, is_acquire-task}
use Rattle.laws.proofs.WellFormed.{WellFormed, acquire_outer}
use Rattle.laws.proofs.Search.{completing_cons, completing_end, pattern-completing}
use Rattle.deadlock.specs.Judged.{joins}

-- ---- one event

-- By its operation and its object an event is told to be an outer acquire.
module _ (σ : Trace) (ok : WellFormed σ) (e : ℕ) {op : ℕ} (is_op : op ≡ (at σ e).op) where
  -- Another operation is none,
  pub acquires-not : op ≢ 2 → false ≡ is_acquire σ e
  acquires-not d = sym (is_acquire-none σ e is_op d)

  module _ {o : ℕ} (q : o ≡ object σ e) where
    -- a start is none,
    pub acquires-task : locks ≤ o → false ≡ is_acquire σ e
    acquires-task l = sym (is_acquire-task σ e is_op (rw q at l))

    -- and an acquire of a lock is one where that is not held.
    pub acquires_own : op ≡ 2 → o < locks → {h : ℕ} → h ≡ held σ e → not (has_bit h o) ≡ is_acquire σ e
    acquires_own a l p =
        rw (p, q, acquire_outer σ ok e op is_op, a, lt-ltb (object σ e) locks (rw q at l))

module _ (σ : Trace) (c : Chain) (e : ℕ) {h : ℕ} (is_held_lem : h ≡ held σ e) where
  -- The last event's lock must be held.
  pub fits_lock : has_bit h (object σ c.last) ≡ false → false ≡ fits (signature σ) c e
  fits_lock n = rw (← is_held_lem, n, and-false)

  module _ {t : ℕ} (is-task : t ≡ task σ e) where
    -- The task must be new.
    pub fits-task : has_bit c.tasks t ≡ true → false ≡ fits (signature σ) c e
    fits-task y = rw (← is-task, y, and-false)

    -- No guard may be held.
    pub fits_guards : bit_and c.guards h ≢ 0 → false ≡ fits (signature σ) c e
    fits_guards d = rw (← is_held_lem, ne_eqb (bit_and c.guards h) 0 d, and-false)

    -- The rest is that the event is an acquire.
    pub fits_acquire : has_bit h (object σ c.last) ≡ true → has_bit c.tasks t ≡ false → bit_and c.guards h ≡ 0
        → is_acquire σ e ≡ fits (signature σ) c e
    fits_acquire y n z =
        decided (is_acquire σ e) (λ a. rw (a, ← is_held_lem, ← is-task, y, n, z)) (λ a. rw a)

-- ---- the next event of a chain

module _ (σ : Trace) (c : Chain) (e : ℕ) where
  -- A number that is not larger than the first event's does not join.
  pub joins_early : e ≤ c.first → false ≡ joins σ c e
  unfolding joins
  joins_early h = rw (le-ltb c.first e h, and-false (is_event σ e))

  -- Nor does one past the last event.
  pub joins_past : is_event σ e ≡ false → false ≡ joins σ c e
  unfolding joins
  joins_past n = rw n

  -- Any other joins where it fits.
  pub joins_fit : is_event σ e ≡ true → c.first < e → fits (signature σ) c e ≡ joins σ c e
  unfolding joins
  joins_fit y h = rw (y, lt-ltb c.first e h)

-- What joins is an acquire, and its record is there.
pub joins-event : (b : List ℕ) (c : Chain) (e : ℕ) → joins (decode_all b) c e ≡ true
    → (1 ≤ e) × (2 * e ≤ length b) × T (is_acquire (decode_all b) e)
unfolding joins
joins-event b c e y =
    let t : T (joins (decode_all b) c e) = rw y tt in
    let event = (is_event_iff (decode_all b) e).0 (search parts) in
    let size = decode_all-length b in
    (event.0, omega arith, search parts)

-- ---- the numbers of a pattern, one after the other

module _ (σ : Trace) (ns : List ℕ) (c : Chain) (i : ℕ) (inside : i < length ns) where
  -- What is left to ask of the numbers from place i on.
  pub completing_next : completing σ c (drop i ns)
      ≡ (joins σ c (get_or ns i 0) && completing σ (add (signature σ) c (get_or ns i 0)) (drop (i + 1) ns))
  unfolding joins
  completing_next =
      ap (completing σ c) (drop-cons ns i 0 inside ∙ ap (λ (n : ℕ). get_or ns i 0 ∷ drop n ns)
      (sym (add-one i)))
      ∙ completing_cons σ c (get_or ns i 0) (drop (i + 1) ns)
      ∙ joined (is_event σ (get_or ns i 0)) (ltb c.first (get_or ns i 0))
      (fits (signature σ) c (get_or ns i 0)) _
    where
      joined : (x y z w : Bool) → (x && (y && (z && w))) ≡ (x && y && z && w)
      joined true true z w = refl
      joined true false z w = refl
      joined false y z w = refl

-- Where no number is left, the last event's lock decides.
pub completing_last : (σ : Trace) (ns : List ℕ) (c : Chain) (i : ℕ) → length ns ≤ i
    → completing σ c (drop i ns) ≡ closes (signature σ) c
completing_last σ ns c i h = rw (drop_of_length-le ns h) (completing_end σ c)

-- ---- question 10

module _ (σ : Trace) (p : List ℕ) where
  -- An odd length is no pattern's.
  pub lends_odd : length p % 2 ≢ 0 → false ≡ (is_whole p && is_pattern σ (numbers p))
  lends_odd d = rw (ne_eqb (length p % 2) 0 d)

  -- Nor are fewer than two numbers or more than sixteen.
  pub lends_size : length p % 2 ≡ 0 → (length p < 4) ⊎ (32 < length p) → false ≡
      (is_whole p && is_pattern σ (numbers p))
  lends_size whole h =
      rw (is_false (is_pattern σ (numbers p)) (not_T (is_pattern σ (numbers p)) other))
      (sym (and-false (is_whole p)))
    where
      other : T (is_pattern σ (numbers p)) → ⊥
      other t =
          let z = (is_pattern_iff σ (numbers p)).0 t in
          ⊎_elim (λ a. omega (tests, z.least, numbers-length p))
          (λ a. omega (tests, z.most, numbers-length p)) h

  module _ (whole : length p % 2 ≡ 0) (least : 4 ≤ length p) (most : length p ≤ 32)
      {a : ℕ} (first : a ≡ get_or (numbers p) 0 0) where
    -- The first number, and what the others must complete.
    lends_is : (is_whole p && is_pattern σ (numbers p))
        ≡ (is_event σ a && (is_acquire σ a && completing σ (start (signature σ) a) (drop 1 (numbers p))))
    lends_is =
        let count = numbers-length p in
        let rest = length-drop 1 (numbers p) in
        rw (eq-eqb (length p % 2) 0 whole, first)
        (ap (is_pattern σ) (drop-cons (numbers p) 0 0 (omega arith))
        ∙ pattern-completing σ (get_or (numbers p) 0 0) (drop 1 (numbers p)) (omega arith) (omega arith))

    -- A first number that is no acquire.
    pub lends_first : (is_event σ a && is_acquire σ a) ≡ false
        → false ≡ (is_whole p && is_pattern σ (numbers p))
    lends_first n = sym (lends_is ∙ drops (is_event σ a) (is_acquire σ a) _ n)
      where
        drops : (x y z : Bool) → (x && y) ≡ false → (x && (y && z)) ≡ false
        drops true true z h = absurd (true≢false h)
        drops true false z h = refl
        drops false y z h = refl

    -- An acquire leaves it to the others.
    pub lends_rest : (is_event σ a && is_acquire σ a) ≡ true
        → completing σ (start (signature σ) a) (drop 1 (numbers p)) ≡ (is_whole p && is_pattern σ (numbers p))
    lends_rest y =
        let t : T (is_event σ a && is_acquire σ a) = rw y tt in
        let e = is_true (is_event σ a) (search parts) in
        let q = is_true (is_acquire σ a) (search parts) in
        sym (lends_is ∙ rw (e, q))
