-- The depth of a lock after one event more of accepted records, and the count of the events after which it is
-- above 0. Assumes nothing.
use Prim.Native.Nat.{ℕ, ◌+◌, ◌-◌, ◌≤◌, ◌<◌}
use mathlib.Core.Path.{◌≡◌, refl, sym, ◌∙◌}
use mathlib.Core.Logic.{◌≢◌}
use mathlib.Core.Bool.{cond}
use native.Mathlib.Numerals.{add-one}
use native.Mathlib.Omega.{arith}
use lib.Dec.{ltb}
use lib.ListN.{length}
use borrow.Author.Tests.{lt-ltb, le-ltb}
use Rattle.model.specs.Lists.{filter, from}
use Rattle.model.specs.Trace.{Trace, locks, at, object}
use Rattle.model.specs.Calls.Load.{is_held_after}
use Rattle.laws.specs.Walked.{LockDepth}
use Rattle.laws.proofs.Filters.{filter_counts}
use Rattle.laws.proofs.Operations.{enters_is, leaves_is, accesses_is}
use Rattle.laws.proofs.WellFormed.{WellFormed}
use Rattle.laws.proofs.LockDepth.{lock_depth_access, lock_depth_apart, lock_depth_enter, lock_depth_leave}
use Rattle.laws.proofs.LockDepth.{lock_depth-any, lock_depth-fits}

-- ---- one event

-- Event e of a well-formed trace, before which lock l is at depth d.
pub record Coming (σ : Trace) (e l d : ℕ) : Type 0 where
  pub sound : WellFormed σ
  pub depth_is : LockDepth σ e l d

module _ {σ : Trace} {e l d : ℕ} (u : Coming σ e l d) where
  -- A depth is below the event's number.
  pub depth_below : 1 ≤ e → d < e
  depth_below h = omega (arith, lock_depth-fits σ u.depth_is)

  -- A read or a write leaves the depth.
  pub access-depth : (at σ e).op < 2 → LockDepth σ (e + 1) l d
  access-depth a =
      let (no-enter, no-leave) = accesses_is σ e refl a in
      rw (add-one e) (lock_depth_access σ no-enter no-leave u.depth_is)

  module _ {o : ℕ} (q : o ≡ object σ e) where
    -- So does an event of another lock.
    pub other-depth : o ≢ l → LockDepth σ (e + 1) l d
    other-depth n = rw (add-one e) (lock_depth_apart σ (λ r. n (q ∙ r)) u.depth_is)

    module _ (r : o ≡ l) (b : l < locks) where
      lock : object σ e < locks
      lock = rw (sym r ∙ q) at b

      own : LockDepth σ e (object σ e) d
      own = rw (sym r ∙ q) at u.depth_is

      -- An acquire of the lock goes one deeper.
      pub enter-depth : 2 ≡ (at σ e).op → LockDepth σ (e + 1) l (d + 1)
      enter-depth a =
          let entered = enters_is σ e a lock refl in
          rw (add-one e, add-one d, sym r ∙ q) (lock_depth_enter σ u.sound entered own).1

      -- A release goes back by one, from a depth above 0.
      pub leave-depth : 3 ≡ (at σ e).op → (0 < d) × LockDepth σ (e + 1) l (d - 1)
      leave-depth a =
          let left = leaves_is σ e a lock refl in
          let (_, deep, after) = lock_depth_leave σ u.sound left own in
          (deep, rw (add-one e, sym r ∙ q) after)

-- ---- counting

-- Some task holds the lock after event e where its depth is then above 0.
pub held_after : (σ : Trace) (e l d : ℕ) → LockDepth σ (e + 1) l d → is_held_after σ l e ≡ ltb 0 d
unfolding is_held_after
held_after σ e l d z = lock_depth-any σ (rw (add-one e) at z)

-- How many events before e the lock is held after.
abbrev pub held_before : Trace → ℕ → ℕ → ℕ
held_before σ l e = length (filter (is_held_after σ l) (from 1 (e - 1)))

module _ (σ : Trace) (e l d : ℕ) (i : 1 ≤ e) (z : LockDepth σ (e + 1) l d) where
  step : held_before σ l (e + 1) ≡ held_before σ l e + cond (ltb 0 d) 1 0
  step =
      let q : e + 1 - 1 ≡ e = omega arith in
      rw (q, filter_counts (is_held_after σ l) e i, held_after σ e l d z)

  -- An event after which the depth is above 0 counts,
  pub counted : (n : ℕ) → n ≡ held_before σ l e → d ≢ 0 → n + 1 ≡ held_before σ l (e + 1)
  counted n q deep = omega (arith, rw (lt-ltb 0 d (omega arith)) at step)

  -- and another does not.
  pub uncounted : (n : ℕ) → n ≡ held_before σ l e → d ≡ 0 → n ≡ held_before σ l (e + 1)
  uncounted n q free = omega (arith, rw (le-ltb 0 d (omega arith)) at step)
