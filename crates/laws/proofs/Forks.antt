-- Questions 15 and 16 as facts about earlier events. What well-formedness makes of them is in TaskOrder.
-- Assumes nothing.
use Prim.Native.Nat.{ℕ, ◌≤◌, ◌<◌}
use mathlib.Core.Path.{◌≡◌, sym}
use mathlib.Core.Logic.{◌⊎◌, inl, inr, ⊎_elim, ◌↔◌, ◌≢◌}
use mathlib.Core.Bool.{false, and-false, true≢false}
use lib.Dec.{T, T_not, not_T, eqb, eqb→eq}
use borrow.Author.Tests.{eq-eqb, ne_eqb}
use Rattle.model.specs.Trace.{Trace, task}
use Rattle.model.specs.Tasks.{is_join, target, starts, joins}
use Rattle.model.specs.Relations.{latest_of, start_of, join_of}
use Rattle.model.specs.WellFormed.{is_new, is_over, joins_own}
use Rattle.laws.proofs.Tests.{and_i, and_l, and_r, eq→eqb, equal?}
use Rattle.laws.proofs.Searches.{latest_some}
use Rattle.laws.proofs.Tasks.{joins_iff}
use Rattle.laws.proofs.LastEvents.{latest_of_latest, start_of_latest, join_of_latest}

-- Before event e task t was started, was joined, or had an event.
abbrev pub Known : Trace → ℕ → ℕ → Type 0
Known σ t e = (f : ℕ) × (1 ≤ f) × (f < e) × (T (starts σ t f) ⊎ T (joins σ t f) ⊎ (task σ f ≡ t))

module _ (σ : Trace) (e : ℕ) where
  -- A start's task is not new where it is the own one, or known.
  pub is_new_fails : (is_new σ e ≡ false) ↔ ((target σ e ≡ task σ e) ⊎ Known σ (target σ e) e)
  unfolding is_new
  is_new_fails = (there, back)
    where
      t : ℕ
      t = target σ e

      there : is_new σ e ≡ false → (t ≡ task σ e) ⊎ Known σ t e
      there n =
          ⊎_elim inl (λ (d : t ≢ task σ e). ⊎_elim
          (λ (a : start_of σ e t ≡ 0). ⊎_elim
          (λ (b : join_of σ e t ≡ 0). ⊎_elim
          (λ (c : latest_of σ e t ≡ 0). absurd (true≢false (rw (
            ne_eqb t (task σ e) d,
            eq-eqb (start_of σ e t) 0 a,
            eq-eqb (join_of σ e t) 0 b,
            eq-eqb (latest_of σ e t) 0 c,
          ) at n)))
          (λ (c : latest_of σ e t ≢ 0).
          let (f, h, k, u) = (latest_some (latest_of_latest σ e t)).0 c in
          inr (f, h, k, inr (inr (sym (eqb→eq t (task σ f) u))))) (equal? (latest_of σ e t) 0))
          (λ (b : join_of σ e t ≢ 0).
          let (f, h, k, u) = (latest_some (join_of_latest σ e t)).0 b in inr (f, h, k, inr (inl u)))
          (equal? (join_of σ e t) 0))
          (λ (a : start_of σ e t ≢ 0).
          let (f, h, k, u) = (latest_some (start_of_latest σ e t)).0 a in inr (f, h, k, inl u))
          (equal? (start_of σ e t) 0)) (equal? t (task σ e))

      back : (t ≡ task σ e) ⊎ Known σ t e → is_new σ e ≡ false
      back =
          ⊎_elim (λ q. rw (eq-eqb t (task σ e) q)) (λ (f, h, k, w). ⊎_elim
          (λ u. rw (
            ne_eqb (start_of σ e t) 0 ((latest_some (start_of_latest σ e t)).1 (f, h, k, u)),
            and-false,
          ))
          (⊎_elim
          (λ u. rw (
            ne_eqb (join_of σ e t) 0 ((latest_some (join_of_latest σ e t)).1 (f, h, k, u)),
            and-false,
          ))
          (λ q. rw (
            ne_eqb (latest_of σ e t) 0
                ((latest_some (latest_of_latest σ e t)).1 (f, h, k, eq→eqb t (task σ f) (sym q))),
            and-false,
          ))) w)

  -- A task is over where it was joined before,
  pub is_over_iff : T (is_over σ e) ↔ ((f : ℕ) × (1 ≤ f) × (f < e) × T (joins σ (task σ e) f))
  unfolding is_over
  is_over_iff =
      let rule = latest_some (join_of_latest σ e (task σ e)) in (
        λ t. rule.0 (λ q. T_not (eqb (join_of σ e (task σ e)) 0) t (eq→eqb (join_of σ e (task σ e)) 0 q)),
        λ h. not_T (eqb (join_of σ e (task σ e)) 0) (λ t. rule.1 h (eqb→eq (join_of σ e (task σ e)) 0 t)),
      )

  -- and joins itself by a join of the own task.
  pub joins_own_iff : T (joins_own σ e) ↔ T (joins σ (task σ e) e)
  unfolding joins_own
  joins_own_iff = (
    λ t. (joins_iff σ (task σ e) e).1 (
      and_l (is_join σ e) _ t,
      sym (eqb→eq (target σ e) (task σ e) (and_r (is_join σ e) _ t)),
    ),
    λ t. let (j, q) = (joins_iff σ (task σ e) e).0 t in
        and_i (is_join σ e) _ j (eq→eqb (target σ e) (task σ e) (sym q)),
  )
