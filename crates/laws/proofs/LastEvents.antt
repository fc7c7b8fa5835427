-- The last event of a task before another event: what the searches for it, for its start and for its joins
-- find. Assumes nothing.
use Prim.Native.Nat.{ℕ, suc, ◌-◌, ◌≤◌, ◌<◌}
use mathlib.Core.Path.{◌≡◌, sym}
use mathlib.Core.Logic.{inl, inr, ⊎_elim, ◌≢◌}
use native.Mathlib.Omega.{arith}
use lib.Dec.{T, eqb, eqb→eq}
use lib.ListN.{length}
use borrow.Author.Tests.{eq-eqb, ne_eqb}
use Rattle.model.specs.Trace.{Trace, task}
use Rattle.model.specs.Tasks.{starts, joins, belongs}
use Rattle.model.specs.Relations.{latest_of, start_of, join_of, last_of}
use Rattle.laws.specs.Order.{start_in}
use Rattle.laws.proofs.Tests.{equal?, eq→eqb}
use Rattle.laws.proofs.Searches.{Latest, last_before_latest, latest_below}
use Rattle.laws.proofs.Tasks.{belongs_iff}

module _ (σ : Trace) where
  -- The latest event of a task before e.
  pub latest_of_latest : (e t : ℕ) → Latest e (λ f. eqb t (task σ f)) (latest_of σ e t)
  unfolding latest_of
  latest_of_latest e t = last_before_latest e _

  -- It is of the task.
  pub latest_of-task : (e t : ℕ) → latest_of σ e t ≢ 0 → task σ (latest_of σ e t) ≡ t
  latest_of-task e t d = sym (eqb→eq t _ ((latest_of_latest e t).passes d))

  -- It is no earlier than another one.
  pub latest_of_most : (e t f : ℕ) → f < e → task σ f ≡ t → f ≤ latest_of σ e t
  latest_of_most e t f l q = (latest_of_latest e t).latest f l (eq→eqb t (task σ f) (sym q))

  -- The start of a task before e.
  pub start_of_latest : (e t : ℕ) → Latest e (starts σ t) (start_of σ e t)
  unfolding start_of
  start_of_latest e t = last_before_latest e (starts σ t)

  -- The start of a task is an event, or 0.
  pub start_in_le : (t : ℕ) → start_in σ t ≤ length σ
  start_in_le t = omega (arith, latest_below (start_of_latest (suc (length σ)) t))

  -- The latest join of a task before e.
  pub join_of_latest : (e t : ℕ) → Latest e (joins σ t) (join_of σ e t)
  unfolding join_of
  join_of_latest e t = last_before_latest e (joins σ t)

  -- The last event of a task is the latest one where there is one,
  pub last_of_own : (e t : ℕ) → latest_of σ e t ≢ 0 → last_of σ e t ≡ latest_of σ e t
  unfolding last_of
  last_of_own e t d = rw (ne_eqb (latest_of σ e t) 0 d)

  -- and otherwise the start.
  pub last_of-start : (e t : ℕ) → latest_of σ e t ≡ 0 → last_of σ e t ≡ start_of σ e t
  unfolding last_of
  last_of-start e t q = rw (eq-eqb (latest_of σ e t) 0 q)

  -- It is earlier.
  pub last_of_below : (e t : ℕ) → last_of σ e t ≤ e - 1
  last_of_below e t =
      ⊎_elim (λ (q : latest_of σ e t ≡ 0). rw (last_of-start e t q) (latest_below (start_of_latest e t)))
      (λ (d : latest_of σ e t ≢ 0). rw (last_of_own e t d) (latest_below (latest_of_latest e t)))
      (equal? (latest_of σ e t) 0)

  -- It is an event of the task, or its start.
  pub last_of-belongs : (e t : ℕ) → last_of σ e t ≢ 0 → T (belongs σ t (last_of σ e t))
  last_of-belongs e t =
      ⊎_elim (λ (q : latest_of σ e t ≡ 0). rw (last_of-start e t q)
      (λ n. (belongs_iff σ t (start_of σ e t)).1 (inr ((start_of_latest e t).passes n))))
      (λ (d : latest_of σ e t ≢ 0). rw (last_of_own e t d)
      (λ n. (belongs_iff σ t (latest_of σ e t)).1 (inl (sym (latest_of-task e t d)))))
      (equal? (latest_of σ e t) 0)
