-- `relations::Trace::awaited` meets its contract: the row has it. Assumes nothing.
use Rattle.laws.proofs.Trace.{record-event}
use Rattle.relations.proofs.Trace.awaited.Goals as goal

pub returns : goal.returns
returns c =
    let trace = c.args.self.now in
    trace.tabled.awaited_at c.args.e (record-event trace.records.bytes.now c.args.e c.requires)
