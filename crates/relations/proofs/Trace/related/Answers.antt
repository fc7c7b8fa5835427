-- `relations::Trace::related` meets its contract: the tables have the relations of each event.
-- Assumes nothing.
use mathlib.Core.Path.{refl}
use Rattle.relations.proofs.Rows.{related_is}
use Rattle.relations.proofs.Trace.related.Goals as goal

pub returns : goal.returns
returns c =
    related_is _ c.args.e c.requires.0 c.held-held.ensures c.predecessor.ensures c.awaited.ensures
    c.matching.ensures c.operation.ensures c.writer_of.ensures c.unmarked.ensures
    refl
