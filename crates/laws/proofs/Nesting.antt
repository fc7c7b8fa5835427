-- Nested sections: an outer acquire's lock is held until its match; and in a well-formed trace a lock has at
-- most one holder, and a depth is the task's acquires of the lock less its releases. Assumes nothing.
use Prim.Native.Nat.{ℕ, zero, suc, ◌+◌, ◌-◌, ◌≤◌, ◌<◌}
use mathlib.Core.Path.{◌≡◌, refl, sym, ap, ◌∙◌}
use mathlib.Core.Logic.{⊎_elim, ◌≢◌}
use mathlib.Core.Bool.{Bool, cond, ◌&&◌}
use native.Mathlib.Omega.{arith}
use lib.Dec.{T, T_not, not_T}
use lib.ListN.{length}
use borrow.Author.Tests.{eq-eqb}
use Rattle.model.specs.Lists.{filter, from}
use Rattle.model.specs.Trace.{Trace, tasks, task, object, enters, leaves, operates, depth, is_acquire}
use Rattle.model.specs.Relations.{matching, holds}
use Rattle.laws.proofs.Tests.{parts, and_i, equal?, at-most?, is_true, is_false}
use Rattle.laws.proofs.Searches.{Earliest}
use Rattle.laws.proofs.Filters.{filter_counts}
use Rattle.laws.proofs.Trace.{same_task_iff, same_object_iff, acquire-event}
use Rattle.laws.proofs.Relations.{releases, matching_earliest}
use Rattle.laws.proofs.Depth.{Section, Moved, stays, deeper, back, holds_iff, depth-start, depth_moved}
use Rattle.laws.proofs.Depth.{depth_opens, depth_falls, depth_enter, depth_leave, own-depth}
use Rattle.laws.proofs.Depth.{is_acquire_iff, is_release_iff}
use Rattle.laws.proofs.Trace.{enters-leaves}
use Rattle.laws.proofs.WellFormed.{WellFormed, acquire_free, leave-held}

-- The acquires of lock l by task t, from whatever depth.
abbrev pub entering : Trace → ℕ → ℕ → ℕ → Bool
entering σ t l f = operates σ t l f && enters σ f

-- Its releases, to whatever depth.
abbrev pub leaving : Trace → ℕ → ℕ → ℕ → Bool
leaving σ t l f = operates σ t l f && leaves σ f

module _ (σ : Trace) (e : ℕ) (a : T (is_acquire σ e)) where
  -- ---- the section of an outer acquire

  found : Earliest (suc e) (length σ - e) (releases σ e) (matching σ e)
  found = matching_earliest σ e a

  -- Its lock is held up to its match, or to the end where it has none,
  pub held_to_match : (f : ℕ) → e < f → f ≤ suc (length σ) → (matching σ e ≢ 0 → f ≤ matching σ e)
      → T (holds σ f (task σ e) (object σ e))
  held_to_match f h k before =
      ⊎_elim (λ z. absurd (freed z)) (λ d. (holds_iff σ f _ _).1 (omega arith))
      (equal? (depth σ f (task σ e) (object σ e)) 0)
    where
      freed : depth σ f (task σ e) (object σ e) ≡ 0 → ⊥
      freed z =
          let deep = depth_enter σ e _ _ ((is_acquire_iff σ e).0 a).0 refl refl in
          let (q, i, j, release, of) = depth_falls σ _ _ (suc e) f h (omega arith) z in
          let lock = (same_object_iff σ e q).1 (sym of.object_is) in
          let task = (same_task_iff σ e q).1 (sym of.task_is) in
          let releases : T (releases σ e q) = search (and_i, release, lock, task) in
          let reach : q < suc e + (length σ - e) = omega (arith, acquire-event σ e a) in
          let some = found.found q (omega arith) i reach releases in
          omega (arith, before (omega arith), found.earliest q i reach releases)

  -- which takes the depth to 0.
  pub freed_by_match : matching σ e ≢ 0 → depth σ (suc (matching σ e)) (task σ e) (object σ e) ≡ 0
  freed_by_match some =
      let m = matching σ e in
      let t = found.passes some in
      let (left, one) = (is_release_iff σ m).0 (search parts) in
      let lock = (same_object_iff σ e m).0 (search parts) in
      let task = (same_task_iff σ e m).0 (search parts) in
      let own = own-depth σ _ _ m (record { task_is = sym task; object_is = sym lock }) in
      omega (arith, depth_leave σ m _ _ left (sym task) (sym lock))

module _ (σ : Trace) (ok : WellFormed σ) where
  -- ---- one holder

  -- A task that holds a lock has 4 bits.
  pub holds-task : (e t l : ℕ) → T (holds σ e t l) → t < tasks
  holds-task e t l h =
      let (a, s) = depth_opens σ e t l ((holds_iff σ e t l).0 h) in
      let (i, j) = acquire-event σ a s.acquire in
      rw s.of.task_is at (ok.task_lt a i j)

  -- At most one task holds a lock: the later of two sections would begin while the other goes on.
  pub holder_sole : (e t u l : ℕ) → T (holds σ e t l) → T (holds σ e u l) → t ≡ u
  holder_sole e t u l h k =
      let (a, s) = depth_opens σ e t l ((holds_iff σ e t l).0 h) in
      let (b, r) = depth_opens σ e u l ((holds_iff σ e u l).0 k) in
      ⊎_elim
      (λ (q : a ≡ b). sym s.of.task_is ∙ ap (task σ) q ∙ r.of.task_is)
      (λ n. ⊎_elim (λ i. absurd (ends t u a b s r h (omega arith))) (λ i. absurd (ends u t b a r s k i))
      (at-most? a b)) (equal? a b)
    where
      ends : (t u a b : ℕ) → Section σ t l e a → Section σ u l e b → T (holds σ e t l) → a < b → ⊥
      ends t u a b s r h i =
          let free = acquire_free σ ok b r.acquire t (holds-task e t l h) in
          T_not (holds σ b t l) (rw r.of.object_is at free)
          ((holds_iff σ b t l).1 (s.within b i (omega (arith, r.before))))

  -- ---- acquires less releases

  -- What one event does to the depth and to both counts, n of acquires and m of releases.
  balanced : (e t l n m : ℕ) → depth σ e t l + m ≡ n → Moved σ e t l
      → depth σ (suc e) t l + (m + cond (leaving σ t l e) 1 0) ≡ n + cond (entering σ t l e) 1 0
  unfolding operates
  balanced e t l n m q (stays f r) = rw f (omega arith)
  balanced e t l n m q (deeper a p o r) =
      let none = is_false (leaves σ e) (not_T (leaves σ e) (λ b. enters-leaves σ e a b)) in
      rw (is_true (enters σ e) a, none, eq-eqb (task σ e) t p, eq-eqb (object σ e) l o) (omega arith)
  balanced e t l n m q (back a p o r) =
      let none = is_false (enters σ e) (not_T (enters σ e) (λ b. enters-leaves σ e b a)) in
      let deep : 0 < depth σ e t l =
      rw (p, o) at ((holds_iff σ e (task σ e) (object σ e)).0 (leave-held σ ok e a)) in
      rw (is_true (leaves σ e) a, none, eq-eqb (task σ e) t p, eq-eqb (object σ e) l o) (omega arith)

  -- A depth is the number of the task's earlier acquires of the lock less that of its releases.
  pub depth-count : (e t l : ℕ)
      → depth σ (suc e) t l + length (filter (leaving σ t l) (from 1 e))
      ≡ length (filter (entering σ t l) (from 1 e))
  depth-count zero t l = rw (depth-start σ t l)
  depth-count (suc e) t l =
      let ih = depth-count e t l in
      let step = balanced (suc e) t l _ _ ih (depth_moved σ (suc e) t l) in
      let last : suc e - 1 ≡ e = omega arith in
      let left = rw last at (filter_counts (leaving σ t l) (suc e) (omega arith)) in
      let entered = rw last at (filter_counts (entering σ t l) (suc e) (omega arith)) in
      omega (arith, step, left, entered)
