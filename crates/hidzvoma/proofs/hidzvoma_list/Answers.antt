-- `hidzvoma::hidzvoma_list` meets its contract: the listing's answer as one number. Assumes nothing.
use mathlib.Core.Path.{sym, ap, ◌∙◌}
use native.Mathlib.Omega.{arith}
use lib.ListN.{length}
use Rattle.model.specs.Answers.{Listed}
use Rattle.laws.proofs.Numbers.{number_positive}
use Rattle.hidzvoma.proofs.Laws.{list_event, carries_bounds, carries_refused, carries_accepted}
use Rattle.hidzvoma.proofs.Laws.{list_carries, list_entry_lem}
use Rattle.hidzvoma.proofs.hidzvoma_list.Goals as goal

pub refused-requires : goal.refused-requires
refused-requires c =
    let b = c.args.recording.now in
    let k = c.args.largest in
    let room = length c.args.out.now in
    carries_bounds (rw (← c.in-Err.ensures.answer) at (list_carries b k room))
    (list_event b k room (c.type_inv.recording 1).fits)

pub returns-in-Ok-clause-number : goal.returns-in-Ok-clause-number
returns-in-Ok-clause-number c =
    let b = c.args.recording.now in
    let k = c.args.largest in
    let room = length c.args.out.now in
    let q = c.in-Ok.ensures.answer in
    ap (λ (l : Listed). l.bytes) q
    ∙ carries_accepted (list_carries b k room) (sym (ap (λ (l : Listed). l.refusal) q)) _
    ∙ list_entry_lem b k room

pub returns-in-Err-clause-number : goal.returns-in-Err-clause-number
returns-in-Err-clause-number c =
    let b = c.args.recording.now in
    let k = c.args.largest in
    let room = length c.args.out.now in
    c.refused.ensures
    ∙ carries_refused (rw (← c.in-Err.ensures.answer) at (list_carries b k room))
    (λ z. omega (arith, z, number_positive c.in-Err.refusal.question)) _
    ∙ list_entry_lem b k room
