-- The holder and the depth of a lock, and how one event changes them; what they are is in specs/Walked, and
-- tables of them are in Kept. Well-formedness is not used. Assumes nothing.
use Prim.Native.Nat.{ℕ, zero, suc, ◌-◌, ◌≤◌, ◌<◌}
use mathlib.Core.Path.{◌≡◌, refl, sym, ◌∙◌}
use mathlib.Core.Logic.{⊎_elim, ◌≢◌}
use mathlib.Core.Bool.{true, false, cond, ◌||◌}
use native.Mathlib.Omega.{arith}
use lib.Dec.{T, eqb, eqb→eq, eqb_refl, eqb-zero-suc, eqb-suc-zero, eqb-suc-suc, ltb, ltb→lt, lt→ltb}
use borrow.Author.Tests.{eq-eqb, ne_eqb, eqb-true, eqb-false, lt-ltb}
use Rattle.model.specs.Lists.{any, from}
use Rattle.model.specs.Trace.{Trace, tasks, task, object, enters, leaves, depth, own_depth}
use Rattle.model.specs.Relations.{holds}
use Rattle.model.specs.WellFormed.{is_free}
use Rattle.laws.specs.Walked.{Holder}
use Rattle.laws.proofs.Tests.{decided, equal?, T-ext, or_r, or_elim, is_true}
use Rattle.laws.proofs.Lists.{any_iff, from_iff}
use Rattle.laws.proofs.Depth.{depth-start, depth_enter, depth_leave, depth_other}
use Rattle.laws.proofs.Depth.{depth_le}
use Rattle.laws.proofs.Holds.{is_free_iff}

module _ (σ : Trace) where
  -- ---- one lock

  -- A lock that has a holder is at a depth above 0.
  pub holder_deep : {e l h d : ℕ} → Holder σ e l h d → h ≢ 0 → 0 < d
  holder_deep {h = h} {d = d} z n = let m = eqb-false d 0 (sym z.none ∙ ne_eqb h 0 n) in omega arith

  -- A task holds the lock where it is the holder.
  pub holder-holds : {e l h d : ℕ} → Holder σ e l h d → (t : ℕ) → t < tasks → holds σ e t l ≡ eqb h (suc t)
  unfolding holds
  holder-holds {h = h} {d = d} z t b =
      rw (z.at t b) (decided (eqb h (suc t))
      (λ y. rw y (lt-ltb 0 d (holder_deep z (omega (arith, eqb-true h (suc t) y)))))
      (λ n. rw n))

  -- Some task does where the depth is above 0.
  pub holder-any : {e l h d : ℕ} → Holder σ e l h d → any (λ t. holds σ e t l) (from 0 tasks) ≡ ltb 0 d
  holder-any {e} {l} {h} {d} z = T-ext _ _ there (λ p. back h z (ltb→lt 0 d p))
    where
      there : T (any (λ t. holds σ e t l) (from 0 tasks)) → T (ltb 0 d)
      there p =
          let (t, m, k) = (any_iff (λ t. holds σ e t l) (from 0 tasks)).0 p in
          let same : h ≡ suc t = eqb→eq h (suc t) (rw (holder-holds z t ((from_iff 0 tasks t).0 m).1) at k) in
          lt→ltb 0 d (holder_deep z (omega arith))

      back : (h : ℕ) → Holder σ e l h d → 0 < d → T (any (λ t. holds σ e t l) (from 0 tasks))
      back zero z p = absurd (omega (arith, eqb-true d 0 (sym z.none)))
      back (suc t) z p =
          let b : t < tasks = omega (arith, z.bound) in
          (any_iff (λ t. holds σ e t l) (from 0 tasks)).1
          (t, (from_iff 0 tasks t).1 (omega arith, b), rw (holder-holds z t b) (eqb_refl (suc t)))

  -- The lock of an acquire is free where it has no holder but the event's own task.
  pub holder_free : {e h d : ℕ} → Holder σ e (object σ e) h d
      → is_free σ e ≡ (eqb h 0 || eqb h (suc (task σ e)))
  holder_free {e} {h} {d} z = T-ext _ _ (there h z) back
    where
      there : (h : ℕ) → Holder σ e (object σ e) h d → T (is_free σ e) → T (eqb h 0 || eqb h (suc (task σ e)))
      there zero z p = tt
      there (suc t) z p =
          let b : t < tasks = omega (arith, z.bound) in
          let own : holds σ e t (object σ e) ≡ true = holder-holds z t b ∙ eq-eqb (suc t) (suc t) refl in
          or_r (eqb (suc t) 0) _
          (⊎_elim (λ (q : t ≡ task σ e). rw q (eqb_refl (suc (task σ e))))
          (λ n. absurd (rw own at ((is_free_iff σ e).0 p t b n))) (equal? t (task σ e)))

      back : T (eqb h 0 || eqb h (suc (task σ e))) → T (is_free σ e)
      back p = (is_free_iff σ e).1 (λ t b n. rw (holder-holds z t b, apart t n) tt)
        where
          apart : (t : ℕ) → t ≢ task σ e → eqb h (suc t) ≡ false
          apart t d =
              or_elim (eqb h 0) (eqb h (suc (task σ e)))
              (λ y. ne_eqb h (suc t) (omega (arith, eqb→eq h 0 y)))
              (λ y. ne_eqb h (suc t) (omega (arith, eqb→eq h (suc (task σ e)) y))) p

  -- ---- one event more

  -- Before event 1 it has none.
  pub holder-start : (l : ℕ) → Holder σ 1 l 0 0
  holder-start l =
      record { bound = omega arith; at = λ t b. rw (depth-start σ t l, eqb-zero-suc t); none = refl }

  -- An event that changes no depth leaves it.
  pub holder_keep : {e l h d : ℕ} → ((t : ℕ) → depth σ (suc e) t l ≡ depth σ e t l) → Holder σ e l h d
      → Holder σ (suc e) l h d
  holder_keep k z = record { bound = z.bound; at = λ t b. k t ∙ z.at t b; none = z.none }

  own_is : {e l h d : ℕ} (t : ℕ) → t < tasks → T (eqb h 0 || eqb h (suc t)) → Holder σ e l h d
      → depth σ e t l ≡ d
  own_is {e} {l} {h} {d} t b f z =
      or_elim (eqb h 0) (eqb h (suc t))
      (λ y. let q = eqb→eq h 0 y in
      let r = eqb-true d 0 (sym z.none ∙ is_true (eqb h 0) y) in
      z.at t b ∙ rw (q, eqb-zero-suc t) (sym r))
      (λ y. z.at t b ∙ rw (is_true (eqb h (suc t)) y)) f

  other_is : {e l h d : ℕ} (u t : ℕ) → t < tasks → T (eqb h 0 || eqb h (suc u)) → u ≢ t → Holder σ e l h d
      → depth σ e t l ≡ 0
  other_is {e} {l} {h} {d} u t b f n z =
      let differs : h ≢ suc t = or_elim (eqb h 0) (eqb h (suc u))
      (λ y. omega (arith, eqb→eq h 0 y)) (λ y. omega (arith, eqb→eq h (suc u) y)) f in
      z.at t b ∙ rw (ne_eqb h (suc t) differs)

  -- The event's own depth is the lock's, where the lock has no other holder.
  pub holder_own : {e h d : ℕ} → task σ e < tasks → T (eqb h 0 || eqb h (suc (task σ e)))
      → Holder σ e (object σ e) h d → own_depth σ e ≡ d
  unfolding own_depth
  holder_own {e} b f z = own_is (task σ e) b f z

  -- An acquire makes its task the holder, one deeper.
  pub holder_enter : {e l h d : ℕ} → T (enters σ e) → object σ e ≡ l → task σ e < tasks
      → T (eqb h 0 || eqb h (suc (task σ e))) → Holder σ e l h d → Holder σ (suc e) l (suc (task σ e)) (suc d)
  holder_enter {e} {l} {h} {d} a q b f z = record {
    bound = omega arith;
    at = λ t k. ⊎_elim (same t k) (other t k) (equal? (task σ e) t);
    none = rw (eqb-suc-zero (task σ e), eqb-suc-zero d);
  }
    where
      same : (t : ℕ) → t < tasks → task σ e ≡ t
          → depth σ (suc e) t l ≡ cond (eqb (suc (task σ e)) (suc t)) (suc d) 0
      same t k p =
          let own = own_is t k (rw p at f) z in
          depth_enter σ e t l a p q ∙ rw (own, eqb-suc-suc (task σ e) t, eq-eqb (task σ e) t p)

      other : (t : ℕ) → t < tasks → task σ e ≢ t
          → depth σ (suc e) t l ≡ cond (eqb (suc (task σ e)) (suc t)) (suc d) 0
      other t k n =
          depth_other σ e t l n ∙ other_is (task σ e) t k f n z
          ∙ rw (eqb-suc-suc (task σ e) t, ne_eqb (task σ e) t n)

  left : {e l d : ℕ} → T (leaves σ e) → object σ e ≡ l → Holder σ e l (suc (task σ e)) d
      → (t : ℕ) → t < tasks → depth σ (suc e) t l ≡ cond (eqb (suc (task σ e)) (suc t)) (d - 1) 0
  left {e} {l} {d} a q z t k = ⊎_elim same other (equal? (task σ e) t)
    where
      same : task σ e ≡ t → depth σ (suc e) t l ≡ cond (eqb (suc (task σ e)) (suc t)) (d - 1) 0
      same p =
          depth_leave σ e t l a p q
          ∙ rw (z.at t k, eqb-suc-suc (task σ e) t, eq-eqb (task σ e) t p)

      other : task σ e ≢ t → depth σ (suc e) t l ≡ cond (eqb (suc (task σ e)) (suc t)) (d - 1) 0
      other n =
          depth_other σ e t l n ∙ rw (z.at t k, eqb-suc-suc (task σ e) t, ne_eqb (task σ e) t n)

  -- A release from depth 1 leaves no holder,
  pub holder_freed : {e l : ℕ} → T (leaves σ e) → object σ e ≡ l → Holder σ e l (suc (task σ e)) 1
      → Holder σ (suc e) l 0 0
  holder_freed {e} {l} a q z = record {
    bound = omega arith;
    at = λ t k. left a q z t k
        ∙ rw (eqb-zero-suc t) (decided (eqb (suc (task σ e)) (suc t)) (λ y. rw y) (λ n. rw n));
    none = refl;
  }

  -- and one from above leaves the holder, one less deep.
  pub holder_lowered : {e l d : ℕ} → T (leaves σ e) → object σ e ≡ l → 1 < d → Holder σ e l (suc (task σ e)) d
      → Holder σ (suc e) l (suc (task σ e)) (d - 1)
  holder_lowered {e} {l} {d} a q b z = record {
    bound = z.bound;
    at = left a q z;
    none = rw (eqb-suc-zero (task σ e)) (sym (ne_eqb (d - 1) 0 (omega arith)));
  }

  -- A depth is at most the number of earlier events.
  pub holder-fits : {e l h d : ℕ} → Holder σ e l h d → d ≤ e - 1
  holder-fits {e} {l} {h} {d} z = go h z.bound z.at z.none
    where
      go : (h : ℕ) → h ≤ tasks → ((t : ℕ) → t < tasks → depth σ e t l ≡ cond (eqb h (suc t)) d 0)
          → eqb h 0 ≡ eqb d 0 → d ≤ e - 1
      go zero b f q = let r = eqb-true d 0 (sym q) in omega arith
      go (suc t) b f q =
          let r : depth σ e t l ≡ d = f t (omega arith) ∙ rw (eq-eqb (suc t) (suc t) refl) in
          omega (arith, depth_le σ e t l)
