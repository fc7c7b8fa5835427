-- What is kept of critical sections right before an event.
use Rattle.std.specs.Prelude.{ℕ, List, get_or, map}
use Rattle.model.specs.Trace.{Trace, object, is_acquire}
use Rattle.laws.specs.Walked.{LatestEvents, KeptDepths, Locksets}
use Rattle.sections.specs.declared.Section.{Section}
use Rattle.sections.specs.declared.OpenSections.{OpenSections}

-- The section of lock l.
abbrev pub of_lock : List Section → ℕ → Section
of_lock table l = get_or table l (record { depth = 0; acquire = 0 })

-- The depths of locks, and their latest outer acquires.
abbrev pub depths : List Section → List ℕ
depths = map (λ (s : Section). s.depth)

abbrev pub acquires : List Section → List ℕ
acquires = map (λ (s : Section). s.acquire)

-- The depth of each lock, the locks of each task and the latest outer acquire of each lock are those before
-- event e.
pub record OpenBefore (σ : Trace) (e : ℕ) (sections : OpenSections) : Type 0 where
  pub depth : KeptDepths σ e (depths sections.locks)
  pub lockset : Locksets σ e sections.locksets
  pub acquire : LatestEvents (is_acquire σ) (object σ) e (acquires sections.locks)
