-- How the check goes on after one acquire or release, by the holder and the depth of its lock.
-- Assumes nothing.
use Prim.Native.Nat.{ℕ, suc, ◌+◌, ◌-◌, ◌≤◌, ◌<◌}
use mathlib.Core.Path.{◌≡◌}
use mathlib.Core.Logic.{◌≢◌}
use mathlib.Core.Bool.{cond, ◌||◌}
use mathlib.Core.List.{List}
use native.Mathlib.Numerals.{add-one}
use native.Mathlib.Omega.{arith}
use lib.Dec.{T, eqb}
use lib.ListN.{get_or, set}
use borrow.Author.Tests.{eq-eqb, ne_eqb}
use Rattle.model.specs.Trace.{Trace, tasks, locks, task, object, enters, leaves}
use Rattle.model.specs.Relations.{holds}
use Rattle.model.specs.WellFormed.{is_free}
use Rattle.laws.specs.Walked.{Kept, Holders}
use Rattle.laws.proofs.Kept.{kept-fits, kept-holds, kept_free, kept_first, kept_again, kept_freed}
use Rattle.laws.proofs.Kept.{kept_lowered, holders_holder, holders-depth}

-- Question 5 passes acquire e, and the tables that it leaves.
abbrev Entered : Trace → ℕ → List ℕ → List ℕ → Type 0
Entered σ e holders depths = (◌≡◌ {A = ℕ} 0 (cond (is_free σ e) 0 5)) × Holders σ (e + 1) holders depths

-- The same of question 6 and release e.
abbrev Left : Trace → ℕ → List ℕ → List ℕ → Type 0
Left σ e holders depths =
    (◌≡◌ {A = ℕ} 0 (cond (holds σ e (task σ e) (object σ e)) 0 6)) × Holders σ (e + 1) holders depths

-- An acquire or release with its task and its lock as they were unpacked.
pub record Locked (σ : Trace) (e t o : ℕ) (holders depths : List ℕ) : Type 0 where
  pub task_is : (t < tasks) × (t ≡ task σ e)
  pub object_is : (o < locks) × (o ≡ object σ e)
  pub held : Holders σ e holders depths

module _ {σ : Trace} {e t o : ℕ} {holders depths : List ℕ} (u : Locked σ e t o holders depths) where
  small : task σ e < tasks
  small = omega (arith, u.task_is)

  lock_is : object σ e < locks
  lock_is = omega (arith, u.object_is)

  -- What the tables have for the event's lock.
  at_lock : Kept σ e (object σ e) (get_or holders o 0) (get_or depths o 0)
  at_lock = rw u.object_is.1 (u.held.at (object σ e) lock_is)

  -- What is kept for a depth is at most the event's number.
  pub depth-fits : 1 ≤ e → get_or depths o 0 ≤ e
  depth-fits h = kept-fits h at_lock

  own_lock : get_or holders o 0 ≡ t + 1 → Kept σ e (object σ e) (suc (task σ e)) (get_or depths o 0)
  own_lock n = rw (n, add-one t, u.task_is.1) at at_lock

  -- The tables with another holder of the event's lock,
  with_holder : (h : ℕ) → Kept σ (suc e) (object σ e) h (get_or depths o 0)
      → Holders σ (e + 1) (set holders o h) depths
  with_holder h z =
      rw (add-one e, u.object_is.1)
      (holders_holder u.held lock_is (rw u.object_is.1 at z))

  -- or, where its task holds it, another depth.
  with-depth : (x : ℕ) → get_or holders o 0 ≡ t + 1 → Kept σ (suc e) (object σ e) (suc (task σ e)) x
      → Holders σ (e + 1) holders (set depths o x)
  with-depth x n z =
      let same : suc (task σ e) ≡ get_or holders (object σ e) 0 =
      rw (← u.task_is.1, ← u.object_is.1, n, add-one t) in
      rw (add-one e, u.object_is.1) (holders-depth u.held lock_is (rw same at z))

  -- ---- acquires

  free_is : is_free σ e ≡ (eqb (get_or holders o 0) 0 || eqb (get_or holders o 0) (t + 1))
  free_is = rw (u.task_is.1, add-one (task σ e)) (kept_free at_lock)

  -- An acquire of a lock that another task holds.
  pub enter_refused : get_or holders o 0 ≢ 0 → get_or holders o 0 ≢ t + 1
      → ◌≡◌ {A = ℕ} 5 (cond (is_free σ e) 0 5)
  enter_refused n m = rw (free_is, ne_eqb (get_or holders o 0) 0 n, ne_eqb (get_or holders o 0) (t + 1) m)

  module _ (a : T (enters σ e)) where
    -- An acquire of a lock that no task holds.
    pub enter_first : get_or holders o 0 ≡ 0 → Entered σ e (set holders o (t + 1)) depths
    enter_first n =
        let first = (kept_first small a (rw n at at_lock)).1 in (
          rw (free_is, eq-eqb (get_or holders o 0) 0 n),
          rw (add-one t, u.task_is.1) (with_holder (suc (task σ e)) first),
        )

    -- An acquire of a lock that its task holds.
    pub enter-again : get_or holders o 0 ≡ t + 1 → Entered σ e holders
        (set depths o (get_or depths o 0 + 1))
    enter-again n = (
      rw (free_is, ne_eqb (get_or holders o 0) 0 (omega arith), eq-eqb (get_or holders o 0) (t + 1) n),
      rw (add-one (get_or depths o 0))
          (with-depth (suc (get_or depths o 0)) n (kept_again small (own_lock n) a)),
    )

  -- ---- releases

  own : holds σ e (task σ e) (object σ e) ≡ eqb (get_or holders o 0) (t + 1)
  own = rw (u.task_is.1, add-one (task σ e)) (kept-holds at_lock (task σ e) small)

  -- A release by a task that does not hold the lock.
  pub leave_refused : get_or holders o 0 ≢ t + 1
      → ◌≡◌ {A = ℕ} 6 (cond (holds σ e (task σ e) (object σ e)) 0 6)
  leave_refused n = rw (own, ne_eqb (get_or holders o 0) (t + 1) n)

  module _ (n : get_or holders o 0 ≡ t + 1) where
    passed : (h d : List ℕ) → Holders σ (e + 1) h d → Left σ e h d
    passed h d z = (rw (own, eq-eqb (get_or holders o 0) (t + 1) n), z)

    module _ (a : T (leaves σ e)) where
      -- A release to depth 0.
      pub leave_freed : get_or depths o 0 ≡ 1 → Left σ e (set holders o 0) depths
      leave_freed m = passed _ _ (with_holder 0 (kept_freed small (own_lock n) a m))

      -- A release to a depth above 0.
      pub leave-kept : get_or depths o 0 ≢ 1 → Left σ e holders (set depths o (get_or depths o 0 - 1))
      leave-kept m = passed _ _ (with-depth (get_or depths o 0 - 1) n (kept_lowered small (own_lock n) a m))
