-- `deadlock::witness_trace` meets its contract: each return cites the law of what is decided.
-- Assumes nothing.
use mathlib.Core.Path.{ap, ◌∙◌}
use Rattle.std.specs.Prelude.{Some}
use Rattle.model.specs.declared.Verdict.TheVariants.{Deadlock}
use Rattle.model.specs.Recording.{decode_all}
use Rattle.model.specs.Refused.{refusal}
use Rattle.laws.proofs.Results.{passed_on}
use Rattle.deadlock.specs.Delivered.{answer_by}
use Rattle.deadlock.proofs.Delivered.{witness_from-none, witness_from-not, witness_from_deadlock}
use Rattle.deadlock.proofs.witness_trace.Goals as goal

pub returns-in_err-decide : goal.returns-in_err-decide
returns-in_err-decide c =
    let a = c.args in
    let (q, none) = c.in_err-decide.ensures in
    let (x, y) = witness_from-none (decode_all a.trace.now.records.bytes.now) a.pattern.now a.out.now none in
    record {
      answer = rw (
        passed_on c.from_residual.result (refusal c.in_err-decide.field-0.0 0)
            c.from_residual.ensures.1,
        q,
      ) x;
      output = y;
    }

pub returns-in-Not : goal.returns-in-Not
returns-in-Not c =
    let a = c.args in
    let not = rw c.in-Not.is at c.in_ok-decide.ensures in
    let (x, y) = witness_from-not (decode_all a.trace.now.records.bytes.now) a.pattern.now a.out.now not in
    record { answer = x; output = y }

pub returns-in_err-deliver-in-Deadlock : goal.returns-in_err-deliver-in-Deadlock
returns-in_err-deliver-in-Deadlock c =
    let a = c.args in
    let (is, front) = rw c.in-Deadlock.is at c.in_ok-decide.ensures in
    let delivered = c.in_err-deliver-in-Deadlock.ensures in
    let (x, y) = witness_from_deadlock (decode_all a.trace.now.records.bytes.now) a.pattern.now a.out.now is _
    front in
    record {
      answer = rw (passed_on c.from_residual-in_err-deliver-in-Deadlock.result _
          c.from_residual-in_err-deliver-in-Deadlock.ensures.1)
          (ap (answer_by (Some Deadlock)) delivered.answer ∙ x);
      output = delivered.output ∙ y;
    }

pub returns-in_ok-deliver-in-Deadlock : goal.returns-in_ok-deliver-in-Deadlock
returns-in_ok-deliver-in-Deadlock c =
    let a = c.args in
    let (is, front) = rw c.in-Deadlock.is at c.in_ok-decide.ensures in
    let delivered = c.in_ok-deliver-in-Deadlock.ensures in
    let (x, y) = witness_from_deadlock (decode_all a.trace.now.records.bytes.now) a.pattern.now a.out.now is _
    front in
    record { answer = ap (answer_by (Some Deadlock)) delivered.answer ∙ x; output = delivered.output ∙ y }
