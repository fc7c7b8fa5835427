-- Request 1 of 02, the statement alone: what it means that tasks start tasks and wait for their end. That
-- verdicts hold over every longer recording, with starts and joins in both, is Claim, without a word more.
use Rattle.std.specs.Prelude.{ℕ, suc, ◌+◌, ◌≤◌, ◌<◌, ◌≡◌, ◌⊎◌, ◌↔◌, ◌≢◌, ◌||◌, length, T}
use mathlib.Core.List.{List, ◌∷◌, ◌++◌, Memᴰ}
use Rattle.model.specs.Trace.{Trace, tasks, locks, sync_objects, acquire_op, release_op, at, task, object}
use Rattle.model.specs.Trace.{same_task, depth}
use Rattle.model.specs.Tasks.{is_start, is_join, target, starts, joins, belongs}
use Rattle.model.specs.Recording.{trace}
use Rattle.model.specs.Relations.{predecessor, matching}
use Rattle.model.specs.WellFormed.{fault}
use Rattle.model.specs.EventSet.{EventSet, has}
use Rattle.model.specs.Closed.{Closed}
use Rattle.model.specs.Pattern.{is_pattern}
use Rattle.model.specs.Schedule.{sync_preserving, enabled}
use Rattle.model.specs.Calls.Check.{check}

-- Before event e task t was started, was joined, or had an event.
abbrev pub Known : Trace → ℕ → ℕ → Type 0
Known σ t e = (f : ℕ) × (1 ≤ f) × (f < e) × (T (starts σ t f) ⊎ T (joins σ t f) ⊎ (task σ f ≡ t))

-- Event e joins its own task, or that was joined before it.
abbrev pub Over : Trace → ℕ → Type 0
Over σ e = T (joins σ (task σ e) e) ⊎ ((f : ℕ) × (1 ≤ f) × (f < e) × T (joins σ (task σ e) f))

-- The request's clauses for a trace.
pub record Forking (σ : Trace) : Type 0 where
  -- Neither touches a lock: every depth stays;
  pub untouched : (e t l : ℕ) → T (is_start σ e || is_join σ e) → depth σ (suc e) t l ≡ depth σ e t l
  -- both have match 0, and no pattern has one.
  pub unmatched : (e : ℕ) → T (is_start σ e || is_join σ e) → matching σ e ≡ 0
  pub in_no_pattern : (p : List ℕ) (e : ℕ) → T (is_pattern σ p) → Memᴰ e p
      → T (is_start σ e || is_join σ e) → ⊥
  -- A start comes before every event of its task,
  pub before_events : (s e : ℕ) → 1 ≤ e → e ≤ length σ → T (starts σ (task σ e) s) → s < e
  -- a join after all of them and after the start.
  pub after_events : (j e : ℕ) → 1 ≤ e → e ≤ length σ → T (is_join σ j) → T (belongs σ (target σ j) e) → e < j
  -- A schedule lists them so, none missing: before a listed event stands the start of its task, and before a
  -- listed join stand all events of the joined task, and its start.
  pub lists_start : (ρ ρ' : List ℕ) (e s : ℕ) → T (sync_preserving σ (ρ ++ e ∷ ρ'))
      → T (starts σ (task σ e) s) → Memᴰ s ρ
  pub lists_joined : (ρ ρ' : List ℕ) (j e : ℕ) → T (sync_preserving σ (ρ ++ j ∷ ρ')) → T (is_join σ j)
      → 1 ≤ e → e ≤ length σ → T (belongs σ (target σ j) e) → Memᴰ e ρ
  -- The predecessor of a started task's first event is its start,
  pub first_predecessor : (s e : ℕ) → 1 ≤ e → e ≤ length σ → T (starts σ (task σ e) s)
      → ((f : ℕ) → 1 ≤ f → f < e → T (same_task σ e f) → ⊥) → predecessor σ e ≡ s
  -- and that event is next only once the start is listed.
  pub next_started : (ρ : List ℕ) (e s : ℕ) → T (enabled σ ρ e) → T (starts σ (task σ e) s) → Memᴰ s ρ
  -- A joined task's last event, or its start if it has no event, belongs to any closed set, so to any
  -- closure, holding the join; and so do all of them.
  pub closed_joined : (c : EventSet) → Closed σ (λ e. T (has c e)) → (j e : ℕ) → T (has c j) → T (is_join σ j)
      → 1 ≤ e → e ≤ length σ → T (belongs σ (target σ j) e) → T (has c e)

-- Request 1.
pub record Request1 : Type 0 where
  -- An acquire record with object 64 to 79 is a start of task object - 64, and a release record with such an
  -- object a join of that task.
  pub start_record : (σ : Trace) (t e : ℕ)
      → T (starts σ t e) ↔ (((at σ e).op ≡ acquire_op) × (object σ e ≡ locks + t))
  pub join_record : (σ : Trace) (t e : ℕ)
      → T (joins σ t e) ↔ (((at σ e).op ≡ release_op) × (object σ e ≡ locks + t))
  -- Question 4 takes objects up to 79.
  pub question_4 : (σ : Trace) (e : ℕ) → (fault σ e ≡ 4)
      ↔ ((((at σ e).op ≡ acquire_op) ⊎ ((at σ e).op ≡ release_op)) × (sync_objects ≤ object σ e))
  -- Number 15 answers a start of the own task or of one already started, already joined or with earlier
  -- events,
  pub question_15 : (σ : Trace) (e : ℕ) → (fault σ e ≡ 15)
      ↔ ((t : ℕ) × (t < tasks) × T (starts σ t e) × ((t ≡ task σ e) ⊎ Known σ t e))
  -- and 16 a join of the own task or an event of a task already joined; such an event is never accepted.
  pub question_16 : (σ : Trace) (e : ℕ) → fault σ e ≡ 16 → Over σ e
  pub refused_16 : (σ : Trace) (e : ℕ) → Over σ e → fault σ e ≢ 0
  -- The clauses hold of every recording that the check accepts.
  pub forking : (b : List ℕ) → (check b).refusal ≡ 0 → Forking (trace b)
