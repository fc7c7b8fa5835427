-- `relations::Trace::start` meets its contract: the tables have the tasks' starts. Assumes nothing.
use Rattle.relations.proofs.Trace.start.Goals as goal

pub returns : goal.returns
returns c = c.args.self.now.tabled.start_at c.args.t c.requires
