-- `relations::Trace::new` meets its contract: the tables of the records are filled. Assumes nothing.
use Rattle.relations.proofs.Trace.new.Goals as goal

pub invariant_of-result : goal.invariant_of-result
invariant_of-result c = record { tabled = c.fill.ensures }
