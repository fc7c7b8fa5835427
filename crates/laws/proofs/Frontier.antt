-- Laws of frontiers: what raising one does, and what a closed set has of one. Assumes nothing.
use Prim.Native.Nat.{ℕ, zero, suc, ◌≤◌, ◌<◌}
use mathlib.Core.Path.{◌≡◌, refl, sym, ◌∙◌}
use mathlib.Core.Logic.{◌⊎◌, inl, inr, ⊎_elim, ◌≢◌}
use mathlib.Core.Bool.{Bool}
use mathlib.Core.List.{List}
use native.Mathlib.Omega.{arith}
use lib.Dec.{T, ltb}
use lib.ListN.{length, get_or, length-set}
use lib.Seq.{get_or-set_same, get_or-set_other}
use borrow.Author.Tests.{ltb-true, ltb-false}
use Rattle.model.specs.Trace.{Trace, tasks, task}
use Rattle.model.specs.Closed.{Closed}
use Rattle.laws.specs.Order.{previous}
use Rattle.laws.specs.Frontier.{Frontier, Entails, raised}
use Rattle.laws.proofs.Tests.{decided, equal?}
use Rattle.laws.proofs.Trace.{same_task_iff}
use Rattle.laws.proofs.Relations.{previous_latest, previous_below, predecessor-previous}
use Rattle.laws.proofs.Closed.{closed-predecessor}

-- ---- raising

module _ (want : List ℕ) (t e : ℕ) (l : t < length want) where
  -- No event gets earlier.
  pub raised_grows : (u : ℕ) → get_or want u 0 ≤ get_or (raised want t e) u 0
  raised_grows u =
      decided (ltb (get_or want t 0) e)
      (λ y. rw y (⊎_elim
      (λ (q : u ≡ t). rw (q, get_or-set_same want t e 0 l) (omega (arith, ltb-true (get_or want t 0) e y)))
      (λ (d : u ≢ t). rw (get_or-set_other want t u e 0 d) (omega arith)) (equal? u t)))
      (λ n. rw n (omega arith))

  -- The event is reached.
  pub raised_reaches : e ≤ get_or (raised want t e) t 0
  raised_reaches =
      decided (ltb (get_or want t 0) e)
      (λ y. rw (y, get_or-set_same want t e 0 l) (omega arith))
      (λ n. rw n (ltb-false (get_or want t 0) e n))

  -- An event of it is one that it had, or the new one.
  pub raised_cases : (u : ℕ) → (get_or (raised want t e) u 0 ≡ get_or want u 0)
      ⊎ ((u ≡ t) × (get_or (raised want t e) u 0 ≡ e))
  raised_cases u =
      decided (ltb (get_or want t 0) e)
      (λ y. rw y (⊎_elim
      (λ (q : u ≡ t). inr (q, rw q (get_or-set_same want t e 0 l)))
      (λ (d : u ≢ t). inl (get_or-set_other want t u e 0 d)) (equal? u t)))
      (λ n. rw n (inl refl))

  -- The length stays.
  pub raised-length : length (raised want t e) ≡ length want
  raised-length =
      decided (ltb (get_or want t 0) e) (λ y. rw y (length-set want t e)) (λ n. rw n)

module _ (σ : Trace) where
  -- A frontier that is raised to an event of the task is one.
  pub raised_frontier : (want : List ℕ) (t e : ℕ) → Frontier σ want → t < tasks → e ≤ length σ → task σ e ≡ t
      → Frontier σ (raised want t e)
  raised_frontier want t e z l k q = record {
    long = raised-length want t e (omega (arith, z.long)) ∙ z.long;
    own = λ u m d. ⊎_elim
        (λ (s : get_or (raised want t e) u 0 ≡ get_or want u 0). rw s (z.own u m (rw s at d)))
        (λ (s : (u ≡ t) × (get_or (raised want t e) u 0 ≡ e)). rw s.1 (k, q ∙ sym s.0))
        (raised_cases want t e (omega (arith, z.long)) u);
  }

  -- A closed set with the events of a frontier, and with event e, has those of the raised one.
  pub raised_entails : (given want : List ℕ) (t e : ℕ) → t < length want → Entails σ given want
      → ((v : ℕ → Bool) → Closed σ (λ x. T (v x))
      → ((u : ℕ) → u < tasks → get_or want u 0 ≢ 0 → T (v (get_or want u 0))) → T (v e))
      → Entails σ given (raised want t e)
  raised_entails given want t e l z f = record {
    entailed = λ v c h u m d. ⊎_elim
        (λ (s : get_or (raised want t e) u 0 ≡ get_or want u 0). rw s (z.entailed v c h u m (rw s at d)))
        (λ (s : (u ≡ t) × (get_or (raised want t e) u 0 ≡ e)). rw s.1 (f v c (z.entailed v c h)))
        (raised_cases want t e l u);
  }

  -- A frontier entails itself.
  pub entails_refl : (want : List ℕ) → Entails σ want want
  entails_refl want = record { entailed = λ v c h. h }

  -- ---- sets of a frontier

  -- A closed set has the earlier events of an event's task.
  pub closed-earlier : (v : ℕ → Type 0) → Closed σ v → (f e : ℕ) → v f → 1 ≤ e → e ≤ f → task σ e ≡ task σ
      f → v e
  closed-earlier v c f e h i k q = go f f e h i k q (omega arith)
    where
      go : (n f e : ℕ) → v f → 1 ≤ e → e ≤ f → task σ e ≡ task σ f → f ≤ n → v e
      go zero f e h i k q b = absurd (omega arith)
      go (suc n) f e h i k q b =
          ⊎_elim (λ (s : e ≡ f). rw s h)
          (λ d.
          let p = previous σ f in
          let last = previous_latest σ f in
          let m : e ≤ p = last.latest e (omega arith) ((same_task_iff σ f e).1 (sym q)) in
          let z : p ≢ 0 = omega arith in
          let same : task σ f ≡ task σ p = (same_task_iff σ f p).0 (last.passes z) in
          let here : v p = rw (predecessor-previous σ f z) at (closed-predecessor σ c f h
          (rw (predecessor-previous σ f z) z)) in
          go n p e here i m (q ∙ same) (omega (arith, previous_below σ f)))
          (equal? e f)
