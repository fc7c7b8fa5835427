-- Reorderings with starts and joins: for each condition that these add to an order-keeping
-- schedule, or to an event that is next, a list that breaks this one alone. One record of facts and one
-- proof, by computation.
use Rattle.std.specs.Prelude.{ℕ, ◌≡◌, refl, Bool, true, false, List, [], ◌∷◌, ◌++◌}
use Rattle.model.specs.Recording.{trace}
use Rattle.model.specs.Schedule.{sync_preserving, enabled}
use Rattle.model.specs.Opened.{opened}
use Rattle.model.specs.Recordings.{recording, by, wr, start, join}
use Rattle.model.specs.SampleSchedules.{valid}
use Rattle.model.specs.SampleTasks.{started_first, started_beside, started_elsewhere, idle}

-- The list is an order-keeping schedule of the recording.
abbrev pub keeps : List ℕ → List ℕ → Bool
keeps b ρ = sync_preserving (trace b) ρ

-- The event is next after the list.
abbrev pub next : List ℕ → List ℕ → ℕ → Bool
next b ρ e = enabled (trace b) ρ e

-- Task 0 starts task 1, which writes twice, and task 2 joins it.
abbrev pub forked : List ℕ
forked = recording (by 0 (start 1 ∷ []) ++ by 1 (wr 0 ∷ wr 1 ∷ []) ++ by 2 (join 1 ∷ []))

-- All samples of reorderings.
pub record SampleReorderings : Type 0 where
  -- A start stands before its task's first event, and is not missing.
  pub start_kept : valid started_first (3 ∷ 7 ∷ []) (1 ∷ 6 ∷ 2 ∷ []) ≡ true
  pub start_late : valid started_first (3 ∷ 7 ∷ []) (6 ∷ 1 ∷ 2 ∷ []) ≡ false
  pub start_missing : keeps forked (2 ∷ []) ≡ false
  -- A start may be listed without its task's events, and left out with them.
  pub start_alone : keeps forked (1 ∷ []) ≡ true
  pub start_left : valid started_beside (2 ∷ 6 ∷ []) (1 ∷ 5 ∷ []) ≡ true
  -- It may stand before an earlier start of another task.
  pub start_elsewhere : valid started_elsewhere (2 ∷ 8 ∷ []) (6 ∷ 7 ∷ 1 ∷ []) ≡ true
  -- A join stands after all events of its task, none missing,
  pub join_kept : keeps forked (1 ∷ 2 ∷ 3 ∷ 4 ∷ []) ≡ true
  pub join_early : keeps forked (1 ∷ 2 ∷ 4 ∷ 3 ∷ []) ≡ false
  pub join_missing : keeps forked (1 ∷ 2 ∷ 4 ∷ []) ≡ false
  -- and where there is none after the start.
  pub idle_kept : keeps idle (1 ∷ 2 ∷ 3 ∷ 4 ∷ []) ≡ true
  pub idle_early : keeps idle (1 ∷ 3 ∷ 2 ∷ []) ≡ false
  pub idle_missing : keeps idle (3 ∷ []) ≡ false
  -- A started task's first event is next only once the start is listed, and a join by its own task alone.
  pub next_unstarted : next forked [] 2 ≡ false
  pub next_started : next forked (1 ∷ []) 2 ≡ true
  pub next_join : next forked [] 4 ≡ true

-- Every sample of reorderings holds, by computation.
pub sample_reorderings : SampleReorderings
unfolding opened
sample_reorderings = record {
  start_kept = refl;
  start_late = refl;
  start_missing = refl;
  start_alone = refl;
  start_left = refl;
  start_elsewhere = refl;
  join_kept = refl;
  join_early = refl;
  join_missing = refl;
  idle_kept = refl;
  idle_early = refl;
  idle_missing = refl;
  next_unstarted = refl;
  next_started = refl;
  next_join = refl;
}
