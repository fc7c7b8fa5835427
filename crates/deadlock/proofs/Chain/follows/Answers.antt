-- `deadlock::Chain::follows` meets its contract: each return cites the law of its case. Assumes nothing.
use mathlib.Core.Path.{sym, ◌∙◌}
use Rattle.model.specs.Recording.{decode_all}
use Rattle.std.specs.Prelude.{[]}
use Rattle.deadlock.specs.Judged.{of_events}
use Rattle.deadlock.proofs.Chains.{fits_lock, fits_guards, fits_acquire}
use Rattle.deadlock.proofs.Chain.follows.Goals as goal
use Rattle.deadlock.proofs.Chain.follows.Goals.{Start}

pub returns-then-not-lock_in_mask : goal.returns-then-not-lock_in_mask
returns-then-not-lock_in_mask c =
    let a = c.args in
    fits_lock (decode_all a.trace.now.records.bytes.now) (of_events [] a.self.now) a.e
    c.held-held.ensures
    (sym c.lock_in_mask.ensures ∙ c.if-not-lock_in_mask.true)

pub returns-then-self-held-ne0 : goal.returns-then-self-held-ne0
returns-then-self-held-ne0 c =
    let a = c.args in
    fits_guards (decode_all a.trace.now.records.bytes.now) (of_events [] a.self.now) a.e
    c.held-held.ensures
    c.task.ensures.1 c.if-self-held-ne0.true

pub returns : goal.returns
returns c =
    let a = c.args in
    c.is_acquire.ensures
    ∙ fits_acquire (decode_all a.trace.now.records.bytes.now) (of_events [] a.self.now) a.e
    c.held-held.ensures
    c.task.ensures.1
    (sym c.lock_in_mask.ensures ∙ c.if-not-lock_in_mask.false)
    (sym c.in_mask.ensures ∙ c.if-in_mask.false) c.if-self-held-ne0.false
