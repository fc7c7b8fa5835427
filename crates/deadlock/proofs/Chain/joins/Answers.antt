-- `deadlock::Chain::joins` meets its contract: each return cites the law of its case. Assumes nothing.
use mathlib.Core.Path.{◌∙◌}
use native.Mathlib.Omega.{arith}
use Rattle.model.specs.Recording.{decode_all}
use Rattle.laws.proofs.Trace.{decode_all-length, is_event_true, is_event_false}
use Rattle.std.specs.Prelude.{[]}
use Rattle.deadlock.specs.Judged.{of_events}
use Rattle.deadlock.proofs.Chains.{joins_early, joins_past, joins_fit}
use Rattle.deadlock.proofs.Chain.joins.Goals as goal

pub returns-then-e-self : goal.returns-then-e-self
returns-then-e-self c =
    let a = c.args in
    joins_early (decode_all a.trace.now.records.bytes.now) (of_events [] a.self.now) a.e
    (omega (arith, c.if-e-self.true))

pub returns-then-len-e : goal.returns-then-len-e
returns-then-len-e c =
    let a = c.args in
    let size = decode_all-length a.trace.now.records.bytes.now in
    joins_past (decode_all a.trace.now.records.bytes.now) (of_events [] a.self.now) a.e
    (is_event_false _ a.e (λ h. omega (arith, c.if-len-e.true, c.len.ensures)))

pub returns : goal.returns
returns c =
    let a = c.args in
    let size = decode_all-length a.trace.now.records.bytes.now in
    let later = c.if-e-self.false in
    let low = c.if-len-e.false in
    let count = c.len.ensures in
    c.follows.ensures
    ∙ joins_fit (decode_all a.trace.now.records.bytes.now) (of_events [] a.self.now) a.e
    (is_event_true _ a.e (omega arith) (omega arith)) (omega arith)
