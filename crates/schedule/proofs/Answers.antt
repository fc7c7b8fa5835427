-- The answers of the checker: of a recording, of lent bytes, and of a schedule. Assumes nothing.
use Prim.Native.Nat.{ℕ}
use mathlib.Core.Path.{◌≡◌}
use mathlib.Core.Logic.{◌≢◌}
use mathlib.Core.Bool.{true, false, ◌&&◌}
use mathlib.Core.List.{List}
use borrow.Author.Tests.{eq-eqb, ne_eqb}
use Rattle.model.specs.Bytes.{numbers, is_whole}
use Rattle.model.specs.Recording.{trace}
use Rattle.model.specs.Pattern.{is_pattern}
use Rattle.model.specs.Schedule.{witnesses}
use Rattle.model.specs.Calls.Questions.{lends_pattern}
use Rattle.model.specs.Calls.Check.{check}
use Rattle.model.specs.Calls.Verdict.{verdict_refusal}
use Rattle.model.specs.Calls.CheckSchedule.{check_schedule}

module _ (b p ρ : List ℕ) where
  -- A recording that is refused.
  pub checked_unchecked : (check b).refusal ≢ 0
      → check_schedule b p ρ
      ≡ record { refusal = (check b).refusal; event = (check b).event; valid = false }
  unfolding check_schedule verdict_refusal
  checked_unchecked d = rw (ne_eqb (check b).refusal 0 d, ne_eqb (check b).refusal 0 d)

  module _ (accepted : (check b).refusal ≡ 0) where
    -- Of an accepted one question 10: bytes that are no pattern,
    pub checked_unlent : (is_whole p && is_pattern (trace b) (numbers p)) ≡ false
        → check_schedule b p ρ ≡ record { refusal = 10; event = 0; valid = false }
    unfolding check_schedule verdict_refusal lends_pattern
    checked_unlent n = let y = eq-eqb (check b).refusal 0 accepted in rw (y, n)

    -- and a pattern, of which the schedule decides.
    pub checked_lent : (is_whole p && is_pattern (trace b) (numbers p)) ≡ true
        → check_schedule b p ρ
        ≡ record {
          refusal = 0;
          event = 0;
          valid = is_whole ρ && witnesses (trace b) (numbers ρ) (numbers p);
        }
    unfolding check_schedule verdict_refusal lends_pattern
    checked_lent w = let y = eq-eqb (check b).refusal 0 accepted in rw (y, w)
