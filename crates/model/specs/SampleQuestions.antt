-- What the rows leave out of the questions: each number that no row is refused by, and which of two "no"
-- decides. One record of facts and one proof, by computation.
use Rattle.std.specs.Prelude.{ℕ, ◌≡◌, refl, false, [], ◌∷◌, ◌++◌}
use Rattle.model.specs.Answers.{Verdict}
use Rattle.model.specs.Answers.{Listed}
use Rattle.model.specs.Answers.{Witness}
use Rattle.model.specs.Bytes.{encode}
use Rattle.model.specs.Calls.Questions.{outcome}
use Rattle.model.specs.Calls.Check.{check}
use Rattle.model.specs.Calls.Relations.{relations, relations_refusal}
use Rattle.model.specs.Calls.Close.{close, close_out}
use Rattle.model.specs.Calls.List.{list}
use Rattle.model.specs.Calls.Verdict.{verdict}
use Rattle.model.specs.Calls.Witness.{witness, witness_out}
use Rattle.model.specs.Calls.Load.{load}
use Rattle.model.specs.Opened.{opened}
use Rattle.model.specs.Rows.{blank}
use Rattle.model.specs.Recordings.{row_a, row_c, row_d}

-- A verdict that is refused by question 10.
abbrev pub no_pattern : Verdict
no_pattern = record { refusal = 10; event = 0; deadlock = false }

-- A listing that is refused with a number, at an event.
abbrev pub unlisted : ℕ → ℕ → Listed
unlisted n e = record { refusal = n; event = e; patterns = 0; bytes = 0 }

-- A witness call that writes nothing, with its refusal.
abbrev pub unwritten : ℕ → Witness
unwritten n = record { refusal = n; event = 0; deadlock = false; bytes = 0 }

-- All samples of questions.
pub record SampleQuestions : Type 0 where
  -- 1 to 3; the format is asked before the length.
  pub one : check [] ≡ outcome 1 0
  pub one_byte : check (0x20 ∷ []) ≡ outcome 1 0
  pub two : check (0x20 ∷ 0x00 ∷ []) ≡ outcome 2 0
  pub two_first : check (0x20 ∷ 0x00 ∷ 0x00 ∷ []) ≡ outcome 2 0
  pub three_odd : check (0x10 ∷ 0x00 ∷ 0x00 ∷ []) ≡ outcome 3 0
  -- 4 to 7: an object that is too large is no held lock, another task's lock, and the earliest event.
  pub four_first : check (0x10 ∷ 0x01 ∷ 0xC0 ∷ 0x50 ∷ []) ≡ outcome 4 1
  pub five_other : check (0x10 ∷ 0x02 ∷ 0x80 ∷ 0x00 ∷ 0x84 ∷ 0x00 ∷ []) ≡ outcome 5 2
  pub six : check (0x10 ∷ 0x02 ∷ 0x80 ∷ 0x00 ∷ 0xC4 ∷ 0x00 ∷ []) ≡ outcome 6 2
  pub earliest : check (0x10 ∷ 0x02 ∷ 0xC0 ∷ 0x00 ∷ 0x80 ∷ 0x50 ∷ []) ≡ outcome 6 1
  pub seven_other : check (0x10 ∷ 0x02 ∷ 0x40 ∷ 0x01 ∷ 0x00 ∷ 0x00 ∷ []) ≡ outcome 7 2
  -- 8, which comes after the recording's questions and before 13.
  pub eight_low : list row_a 1 99 ≡ unlisted 8 0
  pub eight_high : list row_a 17 0 ≡ unlisted 8 0
  pub eight_last : list (0x10 ∷ 0x01 ∷ 0x80 ∷ 0x40 ∷ []) 1 0 ≡ unlisted 15 1
  -- 9, for 0 and past n.
  pub nine_zero : relations row_a 0
      ≡ record { refusal = 9; event = 0; held = 0; locks = 0; matching = 0; writer = 0; predecessor = 0 }
  -- Past n.
  pub nine_past : (relations row_a 9).refusal ≡ 9
  -- 10: another rotation, an odd length, no event, one event, an unknown number, and no acquire.
  pub ten_rotated : verdict row_a (encode (6 ∷ 2 ∷ [])) ≡ no_pattern
  pub ten_odd : verdict row_a (encode (2 ∷ 6 ∷ []) ++ 0 ∷ []) ≡ no_pattern
  pub ten_empty : verdict row_a [] ≡ no_pattern
  pub ten_single : verdict row_a (encode (2 ∷ [])) ≡ no_pattern
  pub ten_zero : verdict row_a (encode (0 ∷ 6 ∷ [])) ≡ no_pattern
  pub ten_past : verdict row_a (encode (2 ∷ 9 ∷ [])) ≡ no_pattern
  pub ten_release : verdict row_a (encode (2 ∷ 7 ∷ [])) ≡ no_pattern
  -- 11 and 12.
  pub eleven : close row_c (0x82 ∷ []) ≡ record { refusal = 11; event = 0; added = 0 }
  pub twelve : close row_c (0x82 ∷ 0x20 ∷ []) ≡ record { refusal = 12; event = 0; added = 0 }
  pub twelve_kept : close_out row_c (0x82 ∷ 0x20 ∷ []) ≡ 0x82 ∷ 0x20 ∷ []
  -- 13 of the witness, and only where the verdict is deadlock.
  pub thirteen : witness row_a (encode (2 ∷ 6 ∷ [])) 3 ≡ unwritten 13
  pub thirteen_kept : witness_out row_a (encode (2 ∷ 6 ∷ [])) (blank 3) ≡ blank 3
  pub thirteen_not : witness row_d (encode (2 ∷ 8 ∷ [])) 0 ≡ unwritten 0
  -- 14.
  pub fourteen : load row_a 64 ≡ record { refusal = 14; event = 0; percent = 0 }

-- Every sample of questions holds, by computation.
pub sample_questions : SampleQuestions
unfolding opened relations relations_refusal
sample_questions = record {
  one = refl;
  one_byte = refl;
  two = refl;
  two_first = refl;
  three_odd = refl;
  four_first = refl;
  five_other = refl;
  six = refl;
  seven_other = refl;
  earliest = refl;
  eight_low = refl;
  eight_high = refl;
  eight_last = refl;
  nine_zero = refl;
  nine_past = refl;
  ten_rotated = refl;
  ten_odd = refl;
  ten_empty = refl;
  ten_single = refl;
  ten_zero = refl;
  ten_past = refl;
  ten_release = refl;
  eleven = refl;
  twelve = refl;
  twelve_kept = refl;
  thirteen = refl;
  thirteen_kept = refl;
  thirteen_not = refl;
  fourteen = refl;
}
