-- What the rows leave out of schedules: for each condition of an order-keeping schedule, and of an event that
-- is next, a list that breaks this one alone. One record of facts and one proof, by computation.
use Rattle.std.specs.Prelude.{ℕ, ◌≡◌, refl, Bool, true, false, List, [], ◌∷◌, ◌++◌}
use Rattle.model.specs.Bytes.{encode}
use Rattle.model.specs.Calls.CheckSchedule.{check_schedule}
use Rattle.model.specs.Opened.{opened}
use Rattle.model.specs.Recordings.{row_a, row_c, row_d, row_e}

-- The checker's answer for a recording and the numbers of a pattern and a schedule.
abbrev pub valid : List ℕ → List ℕ → List ℕ → Bool
valid b p ρ = (check_schedule b (encode p) (encode ρ)).valid

-- All samples of schedules.
pub record SampleSchedules : Type 0 where
  -- Another order of E's witness.
  pub other_order : valid row_e (2 ∷ 8 ∷ []) (5 ∷ 6 ∷ 1 ∷ 7 ∷ []) ≡ true
  -- Number 0 is unknown, and so is one past n.
  pub unknown_zero : valid row_e (2 ∷ 8 ∷ []) (0 ∷ 1 ∷ 5 ∷ 6 ∷ 7 ∷ []) ≡ false
  pub unknown_past : valid row_e (2 ∷ 8 ∷ []) (1 ∷ 5 ∷ 6 ∷ 7 ∷ 11 ∷ []) ≡ false
  -- A release listed twice.
  pub repeated : valid row_e (2 ∷ 8 ∷ []) (1 ∷ 5 ∷ 6 ∷ 6 ∷ 7 ∷ []) ≡ false
  -- A release before its own task's acquire.
  pub task_order : valid row_e (2 ∷ 8 ∷ []) (6 ∷ 5 ∷ 1 ∷ 7 ∷ []) ≡ false
  -- Lock 0 acquired while task 0 holds it.
  pub lock_free : valid row_d (2 ∷ 8 ∷ []) (1 ∷ 5 ∷ 6 ∷ 7 ∷ []) ≡ false
  -- The sections of lock 0 the other way round than recorded.
  pub lock_order : valid row_d (2 ∷ 8 ∷ []) (5 ∷ 6 ∷ 1 ∷ 7 ∷ []) ≡ false
  -- A read without its writer.
  pub writer : valid row_c (2 ∷ 8 ∷ []) (1 ∷ 6 ∷ 7 ∷ []) ≡ false
  -- A pattern event that is listed itself, and one whose task has not come so far.
  pub not_listed : valid row_a (2 ∷ 6 ∷ []) (1 ∷ 2 ∷ 3 ∷ 4 ∷ 5 ∷ []) ≡ false
  pub not_reached : valid row_a (2 ∷ 6 ∷ []) (1 ∷ []) ≡ false
  -- An odd length.
  pub odd : (check_schedule row_e (encode (2 ∷ 8 ∷ [])) (encode (1 ∷ 5 ∷ 6 ∷ 7 ∷ []) ++ 0 ∷ [])).valid ≡ false
  -- A list that is no pattern.
  pub no_pattern_given : check_schedule row_a (encode (6 ∷ 2 ∷ [])) (encode (1 ∷ 5 ∷ []))
      ≡ record { refusal = 10; event = 0; valid = false }

-- Every sample of schedules holds, by computation.
pub sample_schedules : SampleSchedules
unfolding opened
sample_schedules = record {
  other_order = refl;
  unknown_zero = refl;
  unknown_past = refl;
  repeated = refl;
  task_order = refl;
  lock_free = refl;
  lock_order = refl;
  writer = refl;
  not_listed = refl;
  not_reached = refl;
  odd = refl;
  no_pattern_given = refl;
}
