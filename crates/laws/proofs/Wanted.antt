-- One event more among the wanted ones: it is reached, no event gets earlier, and closed sets have all of
-- them that have it. Assumes nothing.
use Prim.Native.Nat.{ℕ, ◌≤◌, ◌<◌}
use mathlib.Core.Path.{◌≡◌, refl}
use mathlib.Core.Logic.{◌⊎◌, inl, inr, ⊎_elim, ◌≢◌}
use mathlib.Core.Bool.{Bool}
use mathlib.Core.List.{List}
use native.Mathlib.Omega.{arith}
use lib.Dec.{T}
use lib.ListN.{length, get_or}
use borrow.Author.Tests.{eq-eqb, ne_eqb}
use Rattle.model.specs.Trace.{Trace, tasks, task}
use Rattle.model.specs.Closed.{Closed}
use Rattle.laws.specs.Frontier.{Frontier, Behind, Advancing, Settled, Entails, wanted}
use Rattle.laws.proofs.Tests.{equal?}
use Rattle.laws.proofs.Frontier.{raised_grows, raised_reaches, raised_frontier, raised_cases}
use Rattle.laws.proofs.WellFormed.{WellFormed}
use Rattle.laws.proofs.Advancing.{advancing_more}
use Rattle.laws.proofs.Reached.{behind_in}

-- ---- one event

module _ (σ : Trace) (ok : WellFormed σ) (want : List ℕ) (w : Frontier σ want) (x : ℕ)
    (l : x ≤ length σ) where
  small : x ≢ 0 → task σ x < length want
  small d = omega (arith, ok.task_lt x (omega arith) l, w.long)

  -- With an event more it is a frontier.
  pub wanted_frontier : Frontier σ (wanted σ want x)
  wanted_frontier =
      ⊎_elim (λ (q : x ≡ 0). rw (eq-eqb x 0 q) w)
      (λ (d : x ≢ 0). rw (ne_eqb x 0 d)
      (raised_frontier σ want (task σ x) x w (ok.task_lt x (omega arith) l) l refl)) (equal? x 0)

  -- No event gets earlier.
  pub wanted_grows : (u : ℕ) → get_or want u 0 ≤ get_or (wanted σ want x) u 0
  wanted_grows u =
      ⊎_elim (λ (q : x ≡ 0). rw (eq-eqb x 0 q) (omega arith))
      (λ (d : x ≢ 0). rw (ne_eqb x 0 d) (raised_grows want (task σ x) x (small d) u)) (equal? x 0)

  -- The event is reached.
  pub wanted_reaches : x ≢ 0 → x ≤ get_or (wanted σ want x) (task σ x) 0
  wanted_reaches d = rw (ne_eqb x 0 d) (raised_reaches want (task σ x) x (small d))

  -- Each task has what it had, or it is the event's and has that.
  pub wanted_cases : (u : ℕ) → (get_or (wanted σ want x) u 0 ≡ get_or want u 0)
      ⊎ ((x ≢ 0) × (u ≡ task σ x) × (get_or (wanted σ want x) u 0 ≡ x))
  wanted_cases u =
      ⊎_elim (λ (q : x ≡ 0). rw (eq-eqb x 0 q) (inl refl))
      (λ (d : x ≢ 0). rw (ne_eqb x 0 d)
      (⊎_elim inl (λ (s, q). inr (d, s, q)) (raised_cases want (task σ x) x (small d) u))) (equal? x 0)

  -- Closed sets with the given events that have it have the frontier's events.
  pub wanted_entails : (given : List ℕ) → Entails σ given want
      → (x ≢ 0 → (v : ℕ → Bool) → Closed σ (λ e. T (v e))
      → ((u : ℕ) → u < tasks → get_or given u 0 ≢ 0 → T (v (get_or given u 0))) → T (v x))
      → Entails σ given (wanted σ want x)
  wanted_entails given e h = record {
    entailed = λ v c g u m n. ⊎_elim (λ q. rw q (e.entailed v c g u m (rw q at n)))
        (λ (d, _, q). rw q (h d v c g)) (wanted_cases u);
  }

-- ---- what an event behind the frontier needs

module _ (σ : Trace) (ok : WellFormed σ) (front want latest : List ℕ) (t old f : ℕ)
    (z : Advancing σ front want latest t old f) where
  -- What a closed set must have because of an event behind the frontier follows from what is wanted.
  pub wanted-behind : (e : ℕ) → Behind σ front e → (x : ℕ) → x ≤ length σ
      → (x ≢ 0 → (v : ℕ → Bool) → Closed σ (λ e. T (v e)) → T (v e) → T (v x))
      → (given : List ℕ) → Entails σ given want → Entails σ given (wanted σ want x)
  wanted-behind e b x l h given entails =
      wanted_entails σ ok want z.want_ok x l given entails (λ d v c g. h d v c
      (behind_in σ ok front want z.want_ok z.ahead v c (entails.entailed v c g) e b))

-- A frontier at rest is at rest with an event more wanted.
pub settled-wanted : (σ : Trace) → WellFormed σ → (front want latest : List ℕ) → Settled σ front want latest
    → (x : ℕ) → x ≤ length σ → Settled σ front (wanted σ want x) latest
settled-wanted σ ok front want latest z x l =
    advancing_more σ front want latest 0 0 0 z (wanted σ want x) (wanted_frontier σ ok want z.want_ok x l)
    (wanted_grows σ ok want z.want_ok x l)
