-- `pruning::nested_or` meets its contract: each return cites the law of its case. Assumes nothing.
use mathlib.Core.Path.{sym, ◌∙◌}
use Rattle.model.specs.Recording.{decode_all}
use Rattle.pruning.proofs.Nested.{nested_free, nested-held}
use Rattle.pruning.proofs.nested_or.Goals as goal

pub returns-then-held-eq0 : goal.returns-then-held-eq0
returns-then-held-eq0 c =
    nested_free (decode_all c.args.trace.now.records.bytes.now) c.args.e c.args.later c.held-held.ensures
    c.if-held-eq0.true

pub returns : goal.returns
returns c =
    nested-held (decode_all c.args.trace.now.records.bytes.now) c.args.e c.args.later c.held-held.ensures
    c.if-held-eq0.false (sym c.is_acquire.ensures ∙ c.if-not-is_acquire.false)
