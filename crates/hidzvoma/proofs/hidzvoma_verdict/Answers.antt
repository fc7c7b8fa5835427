-- `hidzvoma::hidzvoma_verdict` meets its contract: the verdict's answer as one number. Assumes nothing.
use Prim.Native.Nat.{ℕ}
use Rattle.std.specs.Prelude.{Ok}
use mathlib.Core.Path.{◌≡◌, sym, ap, ◌∙◌}
use mathlib.Core.List.{List}
use mathlib.Core.Bool.{cond}
use native.Mathlib.Omega.{arith}
use Rattle.model.specs.declared.Verdict.{Verdict as Decided}
use Rattle.model.specs.declared.Verdict.TheVariants.{Not, Deadlock}
use Rattle.model.specs.Answers.{Verdict, tells_deadlock, verdict_of}
use Rattle.model.specs.Calls.Verdict.{verdict}
use Rattle.model.specs.Calls.Entries.{verdict_entry}
use Rattle.laws.proofs.Numbers.{number_positive}
use Rattle.hidzvoma.proofs.Laws.{verdict_event, carries_bounds, carries_refused, carries_accepted}
use Rattle.hidzvoma.proofs.Laws.{verdict_carries, verdict_entry_lem}
use Rattle.hidzvoma.proofs.hidzvoma_verdict.Goals as goal

pub refused-requires : goal.refused-requires
refused-requires c =
    let b = c.args.recording.now in
    let p = c.args.pattern.now in
    carries_bounds (rw (← c.in-Err.ensures) at (verdict_carries b p))
    (verdict_event b p (c.type_inv.recording 1).fits)

-- A verdict that is not refused has its number.
decided : (b p : List ℕ) (v : Decided) → verdict_of (Ok v) ≡ verdict b p
    → cond (tells_deadlock v) 2 0 ≡ verdict_entry b p
decided b p v q =
    ap (λ (x : Verdict). cond x.deadlock 2 0) q
    ∙ carries_accepted (verdict_carries b p) (sym (ap (λ (x : Verdict). x.refusal) q)) _
    ∙ verdict_entry_lem b p

pub returns-in-Ok-Deadlock : goal.returns-in-Ok-Deadlock
returns-in-Ok-Deadlock c =
    decided c.args.recording.now c.args.pattern.now Deadlock
    (rw c.in-Ok-Deadlock.field-0-is at c.in-Ok-Deadlock.ensures)

pub returns-in-Ok-Not : goal.returns-in-Ok-Not
returns-in-Ok-Not c =
    decided c.args.recording.now c.args.pattern.now Not (rw c.in-Ok-Not.field-0-is at c.in-Ok-Not.ensures)

pub returns-in-Err : goal.returns-in-Err
returns-in-Err c =
    let b = c.args.recording.now in
    let p = c.args.pattern.now in
    c.refused.ensures
    ∙ carries_refused (rw (← c.in-Err.ensures) at (verdict_carries b p))
    (λ z. omega (arith, z, number_positive c.in-Err.refusal.question)) _
    ∙ verdict_entry_lem b p
