-- The marks among the matches, by which the records of acquires and releases that do not count are told from
-- outer ones. How matches are found event by event is in Matches. Assumes nothing.
use Prim.Native.Nat.{ℕ, ◌≤◌}
use mathlib.Core.Path.{◌≡◌, refl, sym, ◌∙◌}
use mathlib.Core.Logic.{⊎_elim, ◌≢◌}
use mathlib.Core.Bool.{true, false, cond, not, ◌&&◌}
use lib.Dec.{T, eqb}
use lib.ListN.{length}
use borrow.Author.Tests.{eq-eqb, ne_eqb}
use Rattle.model.specs.Trace.{Trace, at, has_acquire_op, has_release_op, is_acquire}
use Rattle.model.specs.Relations.{matching}
use Rattle.laws.specs.EventKinds.{is_uncounted, marked}
use Rattle.laws.proofs.Tests.{decided, equal?, cond_elim}
use Rattle.laws.proofs.Relations.{matching_apart, matching-none, matching_le}
use Rattle.laws.proofs.Operations.{is_acquire-none}
use Rattle.laws.proofs.EventKinds.{uncounted_acquire, uncounted_release, acquire_uncounted}

module _ (σ : Trace) where
  -- An outer acquire has its match in the table.
  pub marked_acquire : (e : ℕ) → T (is_acquire σ e) → marked σ e ≡ matching σ e
  unfolding marked
  marked_acquire e a = rw (acquire_uncounted σ e a)

  -- The record of an acquire that is no outer one does not count.
  acquire_else : (e op : ℕ) → op ≡ (at σ e).op → op ≡ 2 → is_acquire σ e ≡ false → is_uncounted σ e ≡ true
  unfolding is_uncounted has_acquire_op has_release_op
  acquire_else e op q a n = rw (← q, n, eq-eqb op 2 a)

  -- By the mark an outer acquire is told from other records of one.
  pub is_acquire-marked : (e op : ℕ) → op ≡ (at σ e).op → 1 ≤ e
      → is_acquire σ e ≡ (eqb op 2 && not (eqb (marked σ e) e))
  unfolding marked
  is_acquire-marked e op q h = decided (is_acquire σ e) outer other
    where
      outer : is_acquire σ e ≡ true → is_acquire σ e ≡ (eqb op 2 && not (eqb (marked σ e) e))
      outer y =
          let a : T (is_acquire σ e) = rw y tt in
          let apart : eqb (matching σ e) e ≡ false = ne_eqb (matching σ e) e (matching_apart σ e h) in
          ⊎_elim (λ (r : op ≡ 2). rw (marked_acquire e a, apart, y, eq-eqb op 2 r))
          (λ (d : op ≢ 2). absurd (rw (is_acquire-none σ e q d) at a)) (equal? op 2)

      other : is_acquire σ e ≡ false → is_acquire σ e ≡ (eqb op 2 && not (eqb (marked σ e) e))
      other n =
          ⊎_elim
          (λ (r : op ≡ 2). rw (n, acquire_else e op q r n, eq-eqb op 2 r, eq-eqb e e refl))
          (λ (d : op ≢ 2). rw (n, ne_eqb op 2 d)) (equal? op 2)

  -- What a table with marks answers as the match.
  pub marked_match : (e : ℕ) → 1 ≤ e → cond (eqb (marked σ e) e) 0 (marked σ e) ≡ matching σ e
  unfolding marked
  marked_match e h =
      decided (is_uncounted σ e)
      (λ y. rw (y, eq-eqb e e refl)
      (sym (matching-none σ e (uncounted_acquire σ e y) (uncounted_release σ e y))))
      (λ n. rw (n, ne_eqb (matching σ e) e (matching_apart σ e h)))

  -- What the table has lies in the trace.
  pub marked_le : (e : ℕ) → e ≤ length σ → marked σ e ≤ length σ
  unfolding marked
  marked_le e h =
      cond_elim (λ m. m ≤ length σ) (is_uncounted σ e) e (matching σ e) (λ _. h) (λ _. matching_le σ e h)

-- ---- an event as the code has read it

-- An event with its operation and its mark.
pub record WithMark (σ : Trace) (e op m : ℕ) : Type 0 where
  pub event : 1 ≤ e
  pub op_is : op ≡ (at σ e).op
  pub mark_is : m ≡ marked σ e

module _ {σ : Trace} {e op m : ℕ} (k : WithMark σ e op m) where
  -- The record of an acquire that is marked by its own number is no outer one,
  pub marked_uncounted : op ≡ 2 → m ≡ e → is_acquire σ e ≡ false
  marked_uncounted a y =
      is_acquire-marked σ e op k.op_is k.event ∙ rw (← k.mark_is, eq-eqb op 2 a, eq-eqb m e y)

  -- and any other is one.
  pub marked_outer : op ≡ 2 → m ≢ e → is_acquire σ e ≡ true
  marked_outer a d =
      is_acquire-marked σ e op k.op_is k.event ∙ rw (← k.mark_is, eq-eqb op 2 a, ne_eqb m e d)
