-- Who holds a lock after one event more, and for which event it is free. Assumes nothing.
use Prim.Native.Nat.{ℕ, suc, ◌<◌}
use mathlib.Core.Path.{◌≡◌, subst}
use mathlib.Core.Logic.{⊎_elim, ◌↔◌, ◌≢◌}
use mathlib.Core.Bool.{Bool, true, false, not, ◌&&◌, ◌||◌}
use native.Mathlib.Omega.{arith}
use lib.Dec.{T, eqb, eqb→eq}
use borrow.Author.Tests.{eqb-true, eqb-false}
use Rattle.model.specs.Lists.{from}
use Rattle.model.specs.Trace.{Trace, tasks, task, object, depth, is_acquire, is_release}
use Rattle.model.specs.Relations.{holds}
use Rattle.model.specs.WellFormed.{is_free}
use Rattle.laws.proofs.Tests.{decided, equal?, T-ext, is_true, or_elim, not-false}
use Rattle.laws.proofs.Lists.{all_iff, all_fails, from_iff}
use Rattle.laws.proofs.Depth.{is_acquire_iff, is_release_iff, holds_iff, depth-start, depth_moved}
use Rattle.laws.proofs.Depth.{depth_enter, depth_leave, depth_apart, depth_other, first_acquire}
use Rattle.laws.proofs.Depth.{last_release, own-depth}

module _ (σ : Trace) where
  -- Before event 1 nothing is held.
  pub holds-start : (t l : ℕ) → holds σ 1 t l ≡ false
  unfolding holds
  holds-start t l = rw (depth-start σ t l)

  -- What leaves a depth leaves the holding.
  holds_keep : (e t l : ℕ) → depth σ (suc e) t l ≡ depth σ e t l → holds σ (suc e) t l ≡ holds σ e t l
  unfolding holds
  holds_keep e t l q = rw q

  -- An event with another object changes nothing.
  pub holds_apart : (e t l : ℕ) → object σ e ≢ l → holds σ (suc e) t l ≡ holds σ e t l
  holds_apart e t l d = holds_keep e t l (depth_apart σ e t l d)

  -- Another task's event changes nothing.
  pub holds_other : (e t l : ℕ) → task σ e ≢ t → holds σ (suc e) t l ≡ holds σ e t l
  holds_other e t l d = holds_keep e t l (depth_other σ e t l d)

  -- An event that is no outer acquire or release changes nothing: a read, a write, and an inner one.
  pub holds_access : (e t l : ℕ) → is_acquire σ e ≡ false → is_release σ e ≡ false
      → holds σ (suc e) t l ≡ holds σ e t l
  holds_access e t l a r = T-ext _ _ there back
    where
      there : T (holds σ (suc e) t l) → T (holds σ e t l)
      there h =
          ⊎_elim (λ z.
          let acquire = (first_acquire σ t l e (depth_moved σ e t l) z ((holds_iff σ (suc e) t l).0 h)).0 in
          absurd (rw a at acquire))
          (λ d. (holds_iff σ e t l).1 (omega arith)) (equal? (depth σ e t l) 0)

      back : T (holds σ e t l) → T (holds σ (suc e) t l)
      back h =
          ⊎_elim
          (λ z. absurd (rw r at (last_release σ t l e (depth_moved σ e t l) ((holds_iff σ e t l).0 h) z).0))
          (λ d. (holds_iff σ (suc e) t l).1 (omega arith)) (equal? (depth σ (suc e) t l) 0)

  -- The task of an outer acquire holds its lock.
  pub holds_acquire : (e t l : ℕ) → is_acquire σ e ≡ true → object σ e ≡ l
      → holds σ (suc e) t l ≡ (eqb (task σ e) t || holds σ e t l)
  holds_acquire e t l a q =
      decided (eqb (task σ e) t)
      (λ y. rw y (is_true (holds σ (suc e) t l) (taken (eqb-true (task σ e) t y))))
      (λ n. rw n (holds_other e t l (eqb-false (task σ e) t n)))
    where
      taken : task σ e ≡ t → T (holds σ (suc e) t l)
      taken p =
          (holds_iff σ (suc e) t l).1
          (omega (arith, depth_enter σ e t l ((is_acquire_iff σ e).0 (rw a tt)).0 p q))

  -- The task of an outer release does not hold its lock.
  pub holds_release : (e t l : ℕ) → is_release σ e ≡ true → object σ e ≡ l
      → holds σ (suc e) t l ≡ (not (eqb (task σ e) t) && holds σ e t l)
  unfolding holds
  holds_release e t l r q =
      decided (eqb (task σ e) t)
      (λ y. rw y (given (eqb-true (task σ e) t y)))
      (λ n. rw n (holds_other e t l (eqb-false (task σ e) t n)))
    where
      given : task σ e ≡ t → holds σ (suc e) t l ≡ false
      given p =
          let (h, d) = (is_release_iff σ e).0 (rw r tt) in
          let one = own-depth σ t l e (record { task_is = p; object_is = q }) in
          let none : depth σ (suc e) t l ≡ 0 = omega (arith, depth_leave σ e t l h p q) in
          rw none

  -- ---- free but for the own task

  abbrev test : ℕ → ℕ → Bool
  test e t = eqb t (task σ e) || not (holds σ e t (object σ e))

  -- A lock is free for an event where no other task holds it,
  pub is_free_iff : (e : ℕ)
      → T (is_free σ e)
      ↔ ((t : ℕ) → t < tasks → t ≢ task σ e → T (not (holds σ e t (object σ e))))
  unfolding is_free
  is_free_iff e = (
    λ f t b d. or_elim (eqb t (task σ e)) (not (holds σ e t (object σ e)))
        (λ y. absurd (d (eqb→eq t (task σ e) y))) (λ n. n)
        ((all_iff (test e) (from 0 tasks)).0 f t ((from_iff 0 tasks t).1 (omega arith, omega arith))),
    λ h. (all_iff (test e) (from 0 tasks)).1 (λ t m.
        decided (eqb t (task σ e)) (λ y. rw y tt)
        (λ n. rw n (h t ((from_iff 0 tasks t).0 m).1 (eqb-false t (task σ e) n)))),
  )

  -- and where it is not, one does.
  pub is_free_fails : (e : ℕ) → is_free σ e ≡ false
      → (t : ℕ) × (t < tasks) × (t ≢ task σ e) × T (holds σ e t (object σ e))
  unfolding is_free
  is_free_fails e n =
      let (t, m, f) = all_fails (test e) (from 0 tasks) n in
      decided (eqb t (task σ e)) (λ y. absurd (subst T (rw y at f) tt))
      (λ d. (
        t,
        ((from_iff 0 tasks t).0 m).1,
        eqb-false t (task σ e) d,
        rw (not-false (holds σ e t (object σ e)) (rw d at f)) tt,
      ))
