-- Inner acquires and releases in closure, schedules and patterns, where only outer ones count. One record of
-- facts and one proof, by computation. How deep a lock is held is in SampleDepths.
use Rattle.std.specs.Prelude.{ℕ, ◌≡◌, refl, true, false, List, [], ◌∷◌, ◌++◌}
use Rattle.model.specs.Bytes.{encode}
use Rattle.model.specs.Recording.{trace}
use Rattle.model.specs.EventSet.{no_events, with_all, members}
use Rattle.model.specs.Closure.{closure}
use Rattle.model.specs.Schedule.{sync_preserving}
use Rattle.model.specs.Calls.List.{listing}
use Rattle.model.specs.Calls.Verdict.{verdict}
use Rattle.model.specs.Calls.Witness.{witness_out}
use Rattle.model.specs.Opened.{opened}
use Rattle.model.specs.Rows.{blank}
use Rattle.model.specs.SampleQuestions.{no_pattern}
use Rattle.model.specs.SampleSchedules.{valid}
use Rattle.model.specs.SampleDepths.{reentered}
use Rattle.model.specs.Recordings.{recording, by, acq, rel}

-- Row A, in which each task's first lock has an inner section right before the second one is taken.
abbrev pub between : List ℕ
between =
    recording
    (by 0 (acq 0 ∷ acq 0 ∷ rel 0 ∷ acq 1 ∷ rel 1 ∷ rel 0 ∷ [])
    ++ by 1 (acq 1 ∷ acq 1 ∷ rel 1 ∷ acq 0 ∷ rel 0 ∷ rel 1 ∷ []))

-- Row A, in which task 0 takes lock 1 twice.
abbrev pub twice : List ℕ
twice =
    recording
    (by 0 (acq 0 ∷ acq 1 ∷ acq 1 ∷ rel 1 ∷ rel 1 ∷ rel 0 ∷ []) ++ by 1 (acq 1 ∷ acq 0 ∷ rel 0 ∷ rel 1 ∷ []))

-- Row E, in which task 1's first section of lock 1 has an inner one.
abbrev pub earlier : List ℕ
earlier =
    recording
    (by 0 (acq 0 ∷ acq 1 ∷ rel 1 ∷ rel 0 ∷ [])
    ++ by 1 (acq 1 ∷ acq 1 ∷ rel 1 ∷ rel 1 ∷ acq 1 ∷ acq 0 ∷ rel 0 ∷ rel 1 ∷ []))

-- All samples of inner acquires and releases.
pub record SampleInner : Type 0 where
  -- The match of an acquire is the release to depth 0: with two outer acquires of a lock the closure has it.
  pub closes_outer : members (trace reentered)
      (closure (trace reentered) (with_all (no_events (trace reentered)) (1 ∷ 5 ∷ [])))
      ≡ 1 ∷ 2 ∷ 3 ∷ 4 ∷ 5 ∷ []
  -- An inner acquire is no second one.
  pub closes_inner : members (trace reentered)
      (closure (trace reentered) (with_all (no_events (trace reentered)) (2 ∷ [])))
      ≡ 1 ∷ 2 ∷ []
  -- Schedules: inner events in task order alone; a lock is free after the release to depth 0, not before.
  pub schedule_outer : sync_preserving (trace reentered) (1 ∷ 2 ∷ 3 ∷ 4 ∷ 5 ∷ []) ≡ true
  pub schedule_inner : sync_preserving (trace reentered) (1 ∷ 2 ∷ 3 ∷ 5 ∷ []) ≡ false
  pub schedule_order : sync_preserving (trace reentered) (1 ∷ 3 ∷ 2 ∷ []) ≡ false
  -- A pattern of outer acquires, before each of which its task has an inner section, and its witness.
  pub between_listed : listing between 0 ≡ (4 ∷ 10 ∷ []) ∷ []
  pub between_witness : witness_out between (encode (4 ∷ 10 ∷ [])) (blank 12)
      ≡ encode (1 ∷ 2 ∷ 3 ∷ 7 ∷ 8 ∷ 9 ∷ [])
  -- Another schedule of it; one that is not in task order, and one that leaves out inner events.
  pub between_mixed : valid between (4 ∷ 10 ∷ []) (7 ∷ 1 ∷ 8 ∷ 2 ∷ 3 ∷ 9 ∷ []) ≡ true
  pub between_order : valid between (4 ∷ 10 ∷ []) (1 ∷ 3 ∷ 2 ∷ 7 ∷ 8 ∷ 9 ∷ []) ≡ false
  pub between_short : valid between (4 ∷ 10 ∷ []) (1 ∷ 7 ∷ 8 ∷ 9 ∷ []) ≡ false
  -- An inner acquire is in no pattern: its own lock would be a common held lock.
  pub twice_listed : listing twice 0 ≡ (2 ∷ 8 ∷ []) ∷ []
  pub twice_inner : verdict twice (encode (3 ∷ 8 ∷ [])) ≡ no_pattern
  -- The section before the pattern's is whole, its inner one included.
  pub earlier_listed : listing earlier 0 ≡ (2 ∷ 10 ∷ []) ∷ []
  pub earlier_witness : witness_out earlier (encode (2 ∷ 10 ∷ [])) (blank 12)
      ≡ encode (1 ∷ 5 ∷ 6 ∷ 7 ∷ 8 ∷ 9 ∷ [])

-- Every one of them holds, by computation.
pub sample_inner : SampleInner
unfolding opened
sample_inner = record {
  closes_outer = refl;
  closes_inner = refl;
  schedule_outer = refl;
  schedule_inner = refl;
  schedule_order = refl;
  between_listed = refl;
  between_witness = refl;
  between_mixed = refl;
  between_order = refl;
  between_short = refl;
  twice_listed = refl;
  twice_inner = refl;
  earlier_listed = refl;
  earlier_witness = refl;
}
