-- `relations::Trace::matching` meets its contract: the row has its match. Assumes nothing.
use Rattle.laws.proofs.Trace.{record-event}
use Rattle.relations.proofs.Trace.matching.Goals as goal

pub returns : goal.returns
returns c =
    let trace = c.args.self.now in
    trace.tabled.matching_at c.args.e (record-event trace.records.bytes.now c.args.e c.requires)
