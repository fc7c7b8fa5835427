-- Request 9 of 02, the statement alone: what it means that a task takes a lock again which it holds. That
-- demand 3 holds over outer acquires is Claim, which says it of them without a word more.
use Rattle.std.specs.Prelude.{ℕ, suc, ◌+◌, ◌≤◌, ◌<◌, ◌≡◌, ◌↔◌, ◌≢◌, Bool, false, not, ◌&&◌, length, T}
use mathlib.Core.List.{List, Memᴰ}
use Rattle.model.specs.Lists.{filter, from, member, has_bit}
use Rattle.model.specs.Trace.{Trace, tasks, locks, is_event, task, object, enters, leaves, operates, depth}
use Rattle.model.specs.Trace.{is_acquire, is_release, is_inner}
use Rattle.model.specs.Recording.{trace}
use Rattle.model.specs.Relations.{predecessor, matching, holds, held}
use Rattle.model.specs.WellFormed.{fault}
use Rattle.model.specs.Closed.{Direct, Again}
use Rattle.model.specs.Pattern.{is_pattern}
use Rattle.model.specs.Schedule.{in_task_order, after_start, may_follow}
use Rattle.model.specs.Calls.Check.{check}

-- How many of the events up to e pass a test.
abbrev pub count : (ℕ → Bool) → ℕ → ℕ
count p e = length (filter p (from 1 e))

-- A task other than the event's own holds the event's lock right before it.
abbrev pub HeldByAnother : Trace → ℕ → Type 0
HeldByAnother σ e = (t : ℕ) × (t < tasks) × (t ≢ task σ e) × T (holds σ e t (object σ e))

-- The request's clauses for a trace.
pub record Reentrancy (σ : Trace) : Type 0 where
  -- Holder and depth are all there is to keep for a lock: no two tasks hold it, and the depth of a task is
  -- its acquires of the lock less its releases.
  pub one_holder : (e t u l : ℕ) → T (holds σ e t l) → T (holds σ e u l) → t ≡ u
  pub depth_is : (e t l : ℕ)
      → depth σ (suc e) t l + count (λ f. operates σ t l f && leaves σ f) e
      ≡ count (λ f. operates σ t l f && enters σ f) e
  -- Held locks stay a set: a lock is among them or not, however deep.
  pub held_set : (e l : ℕ) → l < locks → has_bit (held σ e) l ≡ holds σ e (task σ e) l
  -- Only the acquire from depth 0 and the release to depth 0 count as acquire and release.
  pub from_0 : (e : ℕ) → T (is_acquire σ e) ↔ (T (enters σ e) × (depth σ e (task σ e) (object σ e) ≡ 0))
  pub to_0 : (e : ℕ) → T (is_release σ e) ↔ (T (leaves σ e) × (depth σ (suc e) (task σ e) (object σ e) ≡ 0))
  -- The match of an outer acquire is the release to depth 0: the lock is held up to its match, or to the end
  -- where it has none, and the match takes the depth to 0.
  pub held_to_match : (e f : ℕ) → T (is_acquire σ e) → e < f → f ≤ suc (length σ)
      → (matching σ e ≢ 0 → f ≤ matching σ e) → T (holds σ f (task σ e) (object σ e))
  pub freed_by_match : (e : ℕ) → T (is_acquire σ e) → matching σ e ≢ 0
      → depth σ (suc (matching σ e)) (task σ e) (object σ e) ≡ 0
  -- Inner ones have match 0,
  pub unmatched : (e : ℕ) → T (is_inner σ e) → matching σ e ≡ 0
  -- and follow task order only: a closed set must have an inner one's predecessor, and it is none of two
  -- acquires of one lock;
  pub needs_predecessor : (e x : ℕ) → T (is_inner σ e) → Direct σ e x → x ≢ 0 → x ≡ predecessor σ e
  pub unpaired : (e f : ℕ) → Again σ e f → (is_inner σ e ≡ false) × (is_inner σ f ≡ false)
  -- a schedule may list it wherever all earlier events of its task and that task's start are listed;
  pub follows : (before : List ℕ) (e : ℕ) → T (is_inner σ e)
      → may_follow σ before e
      ≡ (is_event σ e && not (member e before) && in_task_order σ before e && after_start σ before e)
  -- and no pattern has one.
  pub in_no_pattern : (p : List ℕ) (e : ℕ) → T (is_pattern σ p) → Memᴰ e p → is_inner σ e ≡ false

-- Request 9.
pub record Request9 : Type 0 where
  -- Question 5 is "no" only where another task holds the lock, in whatever trace.
  pub question_5 : (σ : Trace) (e : ℕ)
      → (fault σ e ≡ 5) ↔ (T (enters σ e) × (object σ e < locks) × HeldByAnother σ e)
  -- The clauses hold of every recording that the check accepts.
  pub reentrancy : (b : List ℕ) → (check b).refusal ≡ 0 → Reentrancy (trace b)
