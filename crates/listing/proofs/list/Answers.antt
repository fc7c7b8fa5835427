-- `listing::list` meets its contract: the recording's questions, then 8, then what is delivered.
-- Assumes nothing.
use mathlib.Core.Path.{◌≡◌, sym}
use Rattle.model.specs.Refused.{refusal}
use Rattle.model.specs.Calls.Questions.{outcome, permits_size}
use Rattle.model.specs.Calls.List.{largest_size}
use Rattle.laws.proofs.Results.{passed_on, is_refused, is_passed}
use Rattle.listing.proofs.Answers.{size_refused, size_permitted, list_unchecked, list_size, list_short}
use Rattle.listing.proofs.Answers.{list_written}
use Rattle.listing.proofs.list.Goals as goal
use Rattle.listing.proofs.list.Goals.{In_ok-size}

-- The size is permitted.
permitted : (c : In_ok-size) → (c.in_ok-size.size.events ≡ largest_size c.args.largest)
    × (permits_size c.args.largest ≡ outcome 0 0)
permitted c = size_permitted c.args.largest c.in_ok-size.ensures

pub returns-in_err-records : goal.returns-in_err-records
returns-in_err-records c =
    let q = c.in_err-records.ensures.outcome in
    let (x, y) = list_unchecked c.args.recording.now c.args.largest c.args.out.now (is_refused _ _ q) in
    record {
      answer = rw (passed_on c.from_residual.result _ c.from_residual.ensures.1) (sym (rw (← q) at x));
      output = sym y;
    }

pub returns-in_err-size : goal.returns-in_err-size
returns-in_err-size c =
    let (q, p) = size_refused c.args.largest c.in_err-size.ensures in
    let (x, y) = list_size c.args.recording.now c.args.largest c.args.out.now
    (is_passed _ c.in_ok-records.ensures.outcome) p in
    let given = passed_on c.from_residual-in_err-size.result (refusal c.in_err-size.field-0.0 0)
    c.from_residual-in_err-size.ensures.1 in
    record { answer = rw (given, q) (sym x); output = sym y }

pub returns-in-Ok : goal.returns-in-Ok
returns-in-Ok c =
    let b = c.args.recording.now in
    let size = permitted (goal.at.returns-in-Ok c).In_ok-size in
    let (x, y) = list_written b c.args.largest c.args.out.now
    (is_passed _ c.in_ok-records.ensures.outcome) size.1 _ {f = c.in-Ok.found}
    (rw (← c.in_ok-records.ensures.events, ← c.new-trace.ensures, ← c.new.ensures, ← size.0)
    c.in-Ok.ensures) in
    record { answer = rw (c.into.ensures.0, c.into.ensures.1) x; output = y }

pub returns-in-Err : goal.returns-in-Err
returns-in-Err c =
    let b = c.args.recording.now in
    let size = permitted (goal.at.returns-in-Err c).In_ok-size in
    let (x, y) = list_short b c.args.largest c.args.out.now
    (is_passed _ c.in_ok-records.ensures.outcome) size.1 _
    (rw (← c.in_ok-records.ensures.events, ← c.new-trace.ensures, ← c.new.ensures, ← size.0)
    c.in-Err.ensures) in
    record { answer = rw c.into-in-Err.ensures (sym x); output = y }
