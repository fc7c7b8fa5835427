-- The tables of a walk through a schedule, by what they hold of what is listed. `before` is what is listed,
-- the latest first.
use Rattle.std.specs.Prelude.{ℕ, ◌≤◌, ◌<◌, ◌≡◌, ◌≢◌, true, T, leb, length, get_or}
use mathlib.Core.List.{List, Memᴰ}
use Rattle.model.specs.Lists.{member}
use Rattle.model.specs.Trace.{Trace, locks, variables, task, object, is_acquire}
use Rattle.model.specs.Tasks.{starts}
use Rattle.model.specs.Relations.{matching}
use Rattle.model.specs.Schedule.{latest_write, sync_preserving}
use Rattle.laws.specs.Frontier.{Frontier}
use Rattle.schedule.specs.declared.Progress.{Progress}

-- For each task the latest listed event, or 0: its listed events are those up to there, and its start is
-- listed with them.
pub record UpTo (σ : Trace) (ρ last : List ℕ) : Type 0 where
  pub front : Frontier σ last
  pub event : (e : ℕ) → Memᴰ e ρ → (1 ≤ e) × (e ≤ length σ)
  pub listed : (e : ℕ) → 1 ≤ e → e ≤ length σ → member e ρ ≡ leb e (get_or last (task σ e) 0)
  pub started : (e : ℕ) → Memᴰ e ρ → (f : ℕ) → T (starts σ (task σ e) f) → Memᴰ f ρ

-- For each lock the latest listed acquire, or 0. Every other listed one has its match listed.
pub record Acquired (σ : Trace) (before acquires : List ℕ) : Type 0 where
  pub long : length acquires ≡ locks
  pub listed : (l : ℕ) → l < locks → get_or acquires l 0 ≢ 0
      → Memᴰ (get_or acquires l 0) before × T (is_acquire σ (get_or acquires l 0))
      × (object σ (get_or acquires l 0) ≡ l)
  pub latest : (e : ℕ) → Memᴰ e before → T (is_acquire σ e) → e ≤ get_or acquires (object σ e) 0
  pub matched : (e : ℕ) → Memᴰ e before → T (is_acquire σ e) → e ≢ get_or acquires (object σ e) 0
      → Memᴰ (matching σ e) before

-- For each variable the write that was listed last, or 0.
pub record Written (σ : Trace) (before writes : List ℕ) : Type 0 where
  pub long : length writes ≡ variables
  pub last : (e : ℕ) → object σ e < variables → latest_write σ e before ≡ get_or writes (object σ e) 0

-- What the walk keeps is what is listed.
pub record Listed (σ : Trace) (before : List ℕ) (progress : Progress) : Type 0 where
  pub up_to : UpTo σ before progress.last
  pub acquired : Acquired σ before progress.acquires
  pub written : Written σ before progress.writes

-- The schedule is order-keeping, and of each task what is kept is its latest event in the schedule.
pub record Kept (σ : Trace) (ρ : List ℕ) (progress : Progress) : Type 0 where
  pub keeps : sync_preserving σ ρ ≡ true
  pub up_to : UpTo σ ρ progress.last
