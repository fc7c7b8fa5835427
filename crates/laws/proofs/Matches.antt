-- How one event of a well-formed trace changes the matches as far as the events show them; these are defined
-- in specs/Walked. Assumes nothing.
use Prim.Native.Nat.{ℕ, suc, ◌+◌, ◌-◌, ◌≤◌, ◌<◌}
use mathlib.Core.Path.{◌≡◌, sym, ap, ◌∙◌}
use mathlib.Core.Logic.{◌≢◌}
use mathlib.Core.Bool.{false, cond, ◌&&◌}
use native.Mathlib.Omega.{arith}
use native.Mathlib.Nat.{suc-sub-suc}
use lib.Dec.{T, eqb}
use lib.ListN.{length}
use borrow.Author.Tests.{ne_eqb, eqb-true}
use Rattle.model.specs.Lists.{last_before, first_from}
use Rattle.model.specs.Trace.{Trace, object, is_acquire, is_release}
use Rattle.model.specs.Relations.{release_of, acquire_of, matching}
use Rattle.laws.specs.EventKinds.{is_uncounted, marked}
use Rattle.laws.specs.Walked.{matching_before, marked_before}
use Rattle.laws.proofs.Tests.{parts, decided, is_true}
use Rattle.laws.proofs.Searches.{first_from_more}
use Rattle.laws.proofs.Relations.{releases}
use Rattle.laws.proofs.WellFormed.{WellFormed}
use Rattle.laws.proofs.OpenAcquires.{opened_acquire, opened_match, opened_released, opened_unreleased}
use Rattle.laws.proofs.OpenAcquires.{other_released}
use Rattle.laws.proofs.EventKinds.{acquire_uncounted, release_uncounted, release_acquire}

module _ (σ : Trace) where
  -- One event more shows a match where there was none.
  pub matching_more : (e f : ℕ) → f < e
      → matching_before σ (suc e) f
      ≡ cond (is_acquire σ f)
      (cond (eqb (first_from (suc f) (e - suc f) (releases σ f)) 0) (cond (releases σ f e) e 0)
      (first_from (suc f) (e - suc f) (releases σ f)))
      (cond (is_release σ f) (acquire_of σ f) 0)
  unfolding matching_before
  matching_more e f h =
      let count : suc e - suc f ≡ suc (e - suc f) = omega arith in
      let last : suc f + (e - suc f) ≡ e = omega arith in
      rw (count, first_from_more (suc f) (e - suc f) (releases σ f) (omega arith), last)

  -- An event that releases nothing, or what was released before, leaves a match.
  pub matching_keep : (e f : ℕ) → f < e
      → (T (is_acquire σ f) → T (releases σ f e) → first_from (suc f) (e - suc f) (releases σ f) ≢ 0)
      → matching_before σ (suc e) f ≡ matching_before σ e f
  unfolding matching_before
  matching_keep e f h k =
      matching_more e f h ∙ decided (is_acquire σ f) (λ y. rw y (acquired (rw y tt))) (λ y. rw y)
    where
      acquired : T (is_acquire σ f)
          → cond (eqb (first_from (suc f) (e - suc f) (releases σ f)) 0) (cond (releases σ f e) e 0)
          (first_from (suc f) (e - suc f) (releases σ f))
          ≡ first_from (suc f) (e - suc f) (releases σ f)
      acquired a =
          decided (releases σ f e)
          (λ y. rw (ne_eqb (first_from (suc f) (e - suc f) (releases σ f)) 0 (k a (rw y tt))))
          (λ y. rw y (decided (eqb (first_from (suc f) (e - suc f) (releases σ f)) 0)
          (λ z. rw z (sym (eqb-true (first_from (suc f) (e - suc f) (releases σ f)) 0 z))) (λ z. rw z)))

  -- An event that is no outer release leaves what is shown of an earlier one,
  pub marked_keep : (e f : ℕ) → f < e → is_release σ e ≡ false
      → marked_before σ (suc e) f ≡ marked_before σ e f
  unfolding marked_before
  marked_keep e f h n =
      ap (λ (m : ℕ). cond (is_uncounted σ f) f m) (matching_keep e f h (λ a p. absurd (absent p)))
    where
      absent : T (releases σ f e) → ⊥
      absent p = let r : T (is_release σ e) = search parts in rw n at r

  -- and has itself no match yet, but its own number where it does not count.
  pub marked_new : (e : ℕ) → is_release σ e ≡ false → marked_before σ (suc e) e ≡ cond (is_uncounted σ e) e 0
  unfolding marked_before matching_before
  marked_new e n =
      let none : suc e - suc e ≡ 0 = omega arith in
      rw (n, none) (decided (is_acquire σ e) (λ y. rw y) (λ y. rw y))

  -- After the last event each match is shown.
  pub marked_end : (f : ℕ) → marked_before σ (suc (length σ)) f ≡ marked σ f
  unfolding marked_before matching_before matching release_of marked
  marked_end f = rw (← (suc-sub-suc (length σ) f))

  module _ (ok : WellFormed σ) (e : ℕ) (i : (1 ≤ e) × (e ≤ length σ)) (t : T (is_release σ e)) {a : ℕ}
      (q : a ≡ last_before e (λ f. is_acquire σ f && eqb (object σ e) (object σ f))) where
    opened : (a ≢ 0) × (a < e) × T (is_acquire σ a)
    opened = rw q (opened_acquire σ ok e i t)

    -- An outer release has the latest outer acquire of its lock as its match,
    pub marked_release : a ≡ marked_before σ (suc e) e
    unfolding marked_before matching_before
    marked_release =
        rw (release_uncounted σ e t, release_acquire σ e t, is_true (is_release σ e) t)
        (q ∙ opened_match σ ok e i t)

    -- that acquire has the release,
    pub marked_opened : marked_before σ (suc e) a ≡ e
    unfolding marked_before
    marked_opened =
        let none : first_from (suc a) (e - suc a) (releases σ a) ≡ 0 = rw q (opened_unreleased σ ok e i t) in
        let gives : T (releases σ a e) = rw q (opened_released σ ok e i t) in
        rw (
          acquire_uncounted σ a opened.2,
          matching_more e a opened.1,
          is_true (is_acquire σ a) opened.2,
          none,
          is_true (releases σ a e) gives,
        )

    -- and what is shown of other earlier events stays.
    pub marked_other : (f : ℕ) → f < e → f ≢ a → marked_before σ (suc e) f ≡ marked_before σ e f
    unfolding marked_before
    marked_other f h x =
        ap (λ (m : ℕ). cond (is_uncounted σ f) f m)
        (matching_keep e f h (other_released σ ok e i t f h (λ y. x (y ∙ sym q))))
