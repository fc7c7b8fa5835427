-- The state of the check right before event e: no earlier event has a fault, and what earlier events have
-- done is what the questions about it ask for.
use Rattle.std.specs.Prelude.{ℕ, ◌+◌, ◌*◌, ◌≤◌, ◌<◌, ◌≡◌, false, ◌||◌, cond, List, length, get_or}
use Rattle.std.specs.Prelude.{Option, Some, None, Result, Ok, Err}
use Rattle.model.specs.declared.Question.{Question}
use Rattle.model.specs.declared.Refusal.{Refusal}
use Rattle.model.specs.Refused.{number}
use Rattle.model.specs.Answers.{outcome_of}
use Rattle.model.specs.Trace.{Trace, tasks, locks, variables, at, object, is_write}
use Rattle.model.specs.Tasks.{is_start, is_join, target}
use Rattle.model.specs.Relations.{start_of, join_of, latest_of}
use Rattle.model.specs.Recording.{decode_all}
use Rattle.model.specs.WellFormed.{is_over, fault}
use Rattle.model.specs.Calls.Check.{check_events}
use Rattle.laws.specs.Walked.{Holders, LatestEvents}
use Rattle.recording.specs.declared.Op.{Op}
use Rattle.recording.specs.declared.Op.TheVariants.{Read, Write, Acquire, Release}
use Rattle.recording.specs.declared.Past.{Past}
use Rattle.recording.specs.declared.Life.{Life}
use Rattle.recording.specs.declared.Forked.{Forked}
use Rattle.recording.specs.declared.Asked.{Asked}
use Rattle.recording.specs.declared.Asked.TheVariants.{Passed, Lockless}

-- The number of an operation in a record.
abbrev pub code : Op → ℕ
code Read = 0
code Write = 1
code Acquire = 2
code Release = 3

-- What earlier accesses and records of locks have done: holder and depth of each lock, and the latest write
-- of each variable.
pub record Done (σ : Trace) (e : ℕ) (past : Past) : Type 0 where
  pub holder : Holders σ e past.locks.holders past.locks.depths
  pub writes_long : length past.writes ≡ variables
  pub written : LatestEvents (is_write σ) (object σ) e past.writes

-- A task of which nothing is noted.
abbrev pub blank : Life
blank = record { start = 0; join = 0; latest = 0 }

-- What earlier events have done to task t, its latest event being the one before event `seen`.
pub record Lived (σ : Trace) (e seen t : ℕ) (life : Life) : Type 0 where
  pub start_is : life.start ≡ start_of σ e t
  pub join_is : life.join ≡ join_of σ e t
  pub latest_is : life.latest ≡ latest_of σ seen t

-- The same of each task.
pub record Lives (σ : Trace) (e seen : ℕ) (lives : List Life) : Type 0 where
  pub long : length lives ≡ tasks
  pub at : (t : ℕ) → t < tasks → Lived σ e seen t (get_or lives t blank)

-- What earlier events have done to locks, variables and tasks.
pub record AllDone (σ : Trace) (e seen : ℕ) (forked : Forked) : Type 0 where
  pub past : Done σ e forked.past
  pub lives : Lives σ e seen forked.lives

-- Event e starts or joins task u.
abbrev pub IsTarget : Trace → ℕ → ℕ → Type 0
IsTarget σ e u = (u < tasks) × (u ≡ target σ e)

-- Event e is an acquire or a release record that names no lock.
pub record IsLockless (σ : Trace) (e : ℕ) : Type 0 where
  pub locking : 2 ≤ (at σ e).op
  pub beyond : locks ≤ object σ e

-- No question before that whether its task is over refuses event e.
abbrev pub Passes : Trace → ℕ → Type 0
Passes σ e = fault σ e ≡ cond (is_over σ e) 16 0

-- What these questions answer about event e; where they pass it, what it does is done.
abbrev pub Answered : {A : Type 0} → Trace → ℕ → Result A Question → Forked → Type 0
Answered σ e (Ok a) forked = Passes σ e × AllDone σ (e + 1) e forked
Answered σ e (Err q) forked = fault σ e ≡ number q

-- The same, where a record that names no lock is left open, and any other is no start and no join.
abbrev pub Plainly : Trace → ℕ → Result Asked Question → Past → Type 0
Plainly σ e (Ok Lockless) past = IsLockless σ e × Done σ e past
Plainly σ e (Ok Passed) past = ((is_start σ e || is_join σ e) ≡ false) × Passes σ e × Done σ (e + 1) past
Plainly σ e (Err q) past = ((is_start σ e || is_join σ e) ≡ false) × (fault σ e ≡ number q)

-- No event before e has a fault,
abbrev pub Faultless : Trace → ℕ → Type 0
Faultless σ e = (f : ℕ) → 1 ≤ f → f < e → fault σ f ≡ 0

-- and none is a start or a join.
abbrev pub Unforked : Trace → ℕ → Type 0
Unforked σ e = (f : ℕ) → 1 ≤ f → f < e → (is_start σ f || is_join σ f) ≡ false

-- The check has come to event e without a start or a join.
pub record Plain (σ : Trace) (e : ℕ) (past : Past) : Type 0 where
  pub faultless : Faultless σ e
  pub unforked : Unforked σ e
  pub done : Done σ e past

-- The check of records without a start or a join has ended, or it stands before a record that names no lock.
abbrev pub PlainTo : List ℕ → Result (Option ℕ) Refusal → Past → Type 0
PlainTo b (Ok (Some e)) past = (1 ≤ e) × (2 * e ≤ length b) × Plain (decode_all b) e past
PlainTo b (Ok None) past = outcome_of {A = Option ℕ} (Ok None) ≡ check_events (decode_all b)
PlainTo b (Err r) past = outcome_of {A = Option ℕ} (Err r) ≡ check_events (decode_all b)

-- The check has come to event e.
pub record Asking (σ : Trace) (e : ℕ) (forked : Forked) : Type 0 where
  pub faultless : Faultless σ e
  pub done : AllDone σ e e forked
