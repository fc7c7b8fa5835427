-- `closure::close` meets its contract: the recording's questions, 11 and 12, then the set is closed.
-- Assumes nothing.
use Prim.Native.Nat.{suc, ◌-◌, ◌*◌}
use mathlib.Core.Path.{◌≡◌, sym, ◌∙◌}
use mathlib.Core.Bool.{not}
use native.Mathlib.Numerals.{add-one}
use lib.ListN.{length}
use Rattle.model.specs.Lists.{all, from}
use Rattle.model.specs.Recording.{trace}
use Rattle.model.specs.EventSet.{set_length, lent_bit}
use Rattle.laws.proofs.Results.{passed_on, is_refused, is_passed}
use Rattle.closure.proofs.Sets.{clear_words}
use Rattle.closure.proofs.Answers.{close_unchecked, close-length, close_spare, close_closed}
use Rattle.closure.proofs.close.Goals as goal
use Rattle.closure.proofs.close.Goals.{After-len-n, After-spare_clear, Else-set-n}

-- Its events are counted.
counted : (c : goal.After-len-n) → c.len-n.result ≡ length (trace c.args.recording.now)
counted c = rw c.in_ok-records.ensures.events at c.len-n.ensures.1

-- The lent set has the length of a set.
sized : (c : goal.Else-set-n)
    → length c.args.set.now ≡ set_length (length (trace c.args.recording.now))
sized c = rw (← counted (goal.at.Else-set-n c).After-len-n) c.if-set-n.false

-- The bits after the last event are asked for.
is-clear : (c : goal.After-spare_clear)
    → let set = c.args.set.now in
    let n = length (trace c.args.recording.now) in
    c.spare_clear.result ≡ all (λ e. not (lent_bit set e)) (from (suc n) (8 * length set - n))
is-clear c =
    (rw (add-one c.len-n.result, counted (goal.at.After-spare_clear c).After-len-n)
    at c.spare_clear.ensures)
    ∙ clear_words c.args.set.now c.pack.new.words c.pack.ensures _

pub returns-in_err-records : goal.returns-in_err-records
returns-in_err-records c =
    let a = c.args in
    let q = c.in_err-records.ensures.outcome in
    let (x, y) = close_unchecked a.recording.now a.set.now (is_refused _ _ q) in
    record {
      answer = rw (passed_on c.from_residual.result _ c.from_residual.ensures.1) (sym (rw (← q) at x));
      output = sym y;
    }

pub returns-then-set-n : goal.returns-then-set-n
returns-then-set-n c =
    let a = c.args in
    let (x, y) =
    close-length a.recording.now a.set.now (is_passed _ c.in_ok-records.ensures.outcome)
    (rw (← counted (goal.at.returns-then-set-n c).After-len-n) c.if-set-n.true) in
    record { answer = rw c.into.ensures (sym x); output = sym y }

pub returns-then-not-spare_clear : goal.returns-then-not-spare_clear
returns-then-not-spare_clear c =
    let a = c.args in
    let no = sym (is-clear (goal.at.returns-then-not-spare_clear c).After-spare_clear)
    ∙ c.if-not-spare_clear.true in
    let (x, y) = close_spare a.recording.now a.set.now
    (is_passed _ c.in_ok-records.ensures.outcome)
    (sized (goal.at.returns-then-not-spare_clear c).Else-set-n) no in
    record { answer = rw c.into-then-not-spare_clear.ensures (sym x); output = sym y }

pub close_set-requires : goal.close_set-requires
close_set-requires c =
    let yes = sym (is-clear (goal.at.close_set-requires c).After-spare_clear)
    ∙ c.if-not-spare_clear.false in
    rw (c.new.ensures, c.in_ok-records.ensures.events)
    (sized (goal.at.close_set-requires c).Else-set-n, c.pack.ensures, rw yes tt)

pub returns : goal.returns
returns c =
    let a = c.args in
    let b = a.recording.now in
    let yes = sym (is-clear (goal.at.returns c).After-spare_clear) ∙ c.if-not-spare_clear.false in
    let (x, y) = close_closed b a.set.now (is_passed _ c.in_ok-records.ensures.outcome)
    (sized (goal.at.returns c).Else-set-n) yes in
    let events = rw (← c.new.ensures) at c.in_ok-records.ensures.events in
    record {
      answer = rw (c.close_set.ensures.answer, events) (sym x);
      output = (rw events at c.close_set.ensures.output) ∙ sym y;
    }
