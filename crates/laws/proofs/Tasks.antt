-- Laws of starts and joins that hold of any trace. What well-formedness adds is in TaskOrder. Assumes
-- nothing.
use Prim.Native.Nat.{ℕ, ◌+◌, ◌≤◌, ◌<◌}
use mathlib.Core.Path.{◌≡◌}
use mathlib.Core.Logic.{◌⊎◌, inl, inr, ⊎_elim, ◌↔◌}
use mathlib.Core.Bool.{false, not, ◌&&◌, ◌||◌, and-false}
use native.Mathlib.Omega.{arith}
use lib.ListN.{length}
use lib.Dec.{T, T_not, eqb, eqb→eq}
use borrow.Author.Tests.{le-ltb}
use Rattle.model.specs.Trace.{Trace, locks, acquire_op, release_op, at, task, object, has_acquire_op}
use Rattle.model.specs.Trace.{has_release_op, names_lock}
use Rattle.model.specs.Trace.{enters, leaves, is_acquire, is_release, is_inner}
use Rattle.model.specs.Tasks.{is_start, is_join, target, starts, joins, belongs}
use Rattle.laws.proofs.Tests.{parts, is_true, is_false, and_l, and_r, and_i, or_l, or_r, or_elim}
use Rattle.laws.proofs.Tests.{eq→eqb, at-most?}
use Rattle.laws.proofs.Trace.{acquire_op-event, release_op-event, names_lock_iff, acquire-object}

module _ (σ : Trace) where
  -- Only events start tasks,
  pub start-event : (e : ℕ) → T (is_start σ e) → (0 < e) × (e ≤ length σ)
  unfolding is_start
  start-event e h = acquire_op-event σ e (and_l (has_acquire_op σ e) _ h)

  -- and only events join them.
  pub join-event : (e : ℕ) → T (is_join σ e) → (0 < e) × (e ≤ length σ)
  unfolding is_join
  join-event e h = release_op-event σ e (and_l (has_release_op σ e) _ h)

  -- The object of a start is no lock.
  pub start-object : (e : ℕ) → T (is_start σ e) → locks ≤ object σ e
  unfolding is_start
  start-object e h =
      ⊎_elim (λ k. k)
      (λ l. absurd (T_not (names_lock σ e) (and_r (has_acquire_op σ e) _ h) ((names_lock_iff σ e).1 l)))
      (at-most? locks (object σ e))

  -- Nor is that of a join.
  pub join-object : (e : ℕ) → T (is_join σ e) → locks ≤ object σ e
  unfolding is_join
  join-object e h =
      ⊎_elim (λ k. k)
      (λ l. absurd (T_not (names_lock σ e) (and_r (has_release_op σ e) _ h) ((names_lock_iff σ e).1 l)))
      (at-most? locks (object σ e))

  -- An acquire is no start.
  pub acquire-start : (e : ℕ) → T (is_acquire σ e) → T (is_start σ e) → ⊥
  acquire-start e h k = omega (arith, acquire-object σ e h, start-object e k)

  -- A start is no join: their records differ.
  pub start-join : (e : ℕ) → T (is_start σ e) → T (is_join σ e) → ⊥
  unfolding is_start is_join has_acquire_op has_release_op
  start-join e h k =
      let two = eqb→eq (at σ e).op 2 (and_l (eqb (at σ e).op 2) _ h) in
      let three = eqb→eq (at σ e).op 3 (and_l (eqb (at σ e).op 3) _ k) in
      omega arith

  -- An inner acquire or release joins no task: its object is a lock.
  pub inner-join : (e : ℕ) → T (is_inner σ e) → is_join σ e ≡ false
  unfolding is_inner enters leaves is_join
  inner-join e t =
      let l : T (names_lock σ e) =
      or_elim (enters σ e && not (is_acquire σ e)) (leaves σ e && not (is_release σ e))
      (λ u. search parts) (λ u. search parts) t in
      rw (is_true (names_lock σ e) l, and-false)

  -- Neither enters a lock or leaves one.
  pub task_unlocked : (e : ℕ) → T (is_start σ e || is_join σ e) → (enters σ e ≡ false) × (leaves σ e ≡ false)
  unfolding is_start is_join enters leaves
  task_unlocked e t =
      let beyond : T (not (names_lock σ e)) = or_elim (is_start σ e) (is_join σ e)
      (λ u. and_r (has_acquire_op σ e) _ u) (λ u. and_r (has_release_op σ e) _ u) t in
      rw (is_false (names_lock σ e) beyond) (and-false (has_acquire_op σ e), and-false (has_release_op σ e))

  -- A start of task t.
  pub starts_iff : (t e : ℕ) → T (starts σ t e) ↔ (T (is_start σ e) × (t ≡ target σ e))
  unfolding starts
  starts_iff t e = (
    λ h. (and_l (is_start σ e) _ h, eqb→eq t (target σ e) (and_r (is_start σ e) _ h)),
    λ r. and_i (is_start σ e) _ r.0 (eq→eqb t (target σ e) r.1),
  )

  -- A join of task t.
  pub joins_iff : (t e : ℕ) → T (joins σ t e) ↔ (T (is_join σ e) × (t ≡ target σ e))
  unfolding joins
  joins_iff t e = (
    λ h. (and_l (is_join σ e) _ h, eqb→eq t (target σ e) (and_r (is_join σ e) _ h)),
    λ r. and_i (is_join σ e) _ r.0 (eq→eqb t (target σ e) r.1),
  )

  -- By its record: an acquire's, with the object that stands for the task.
  pub starts_record : (t e : ℕ) → T (starts σ t e) ↔ (((at σ e).op ≡ acquire_op) × (object σ e ≡ locks + t))
  unfolding is_start has_acquire_op names_lock target
  starts_record t e = (
    λ h.
        let (start, q) = (starts_iff t e).0 h in
        let l = start-object e start in
        (eqb→eq (at σ e).op acquire_op (and_l (eqb (at σ e).op acquire_op) _ start), omega arith),
    λ (a, q). (starts_iff t e).1 (
      and_i (eqb (at σ e).op acquire_op) _ (eq→eqb (at σ e).op acquire_op a)
          (rw (le-ltb (object σ e) locks (omega arith)) tt),
      omega arith,
    ),
  )

  -- Or a release's.
  pub joins_record : (t e : ℕ) → T (joins σ t e) ↔ (((at σ e).op ≡ release_op) × (object σ e ≡ locks + t))
  unfolding is_join has_release_op names_lock target
  joins_record t e = (
    λ h.
        let (join, q) = (joins_iff t e).0 h in
        let l = join-object e join in
        (eqb→eq (at σ e).op release_op (and_l (eqb (at σ e).op release_op) _ join), omega arith),
    λ (a, q). (joins_iff t e).1 (
      and_i (eqb (at σ e).op release_op) _ (eq→eqb (at σ e).op release_op a)
          (rw (le-ltb (object σ e) locks (omega arith)) tt),
      omega arith,
    ),
  )

  -- An event of task t, or its start.
  pub belongs_iff : (t e : ℕ) → T (belongs σ t e) ↔ ((t ≡ task σ e) ⊎ T (starts σ t e))
  unfolding belongs
  belongs_iff t e = (
    or_elim (eqb t (task σ e)) (starts σ t e) (λ h. inl (eqb→eq t (task σ e) h)) inr,
    ⊎_elim (λ q. or_l (eqb t (task σ e)) _ (eq→eqb t (task σ e) q)) (λ h. or_r (eqb t (task σ e)) _ h),
  )
