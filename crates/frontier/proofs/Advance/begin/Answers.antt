-- `frontier::Advance::begin` meets its contract: behind the predecessors the table has the start. Assumes
-- nothing.
use native.Mathlib.Omega.{arith}
use Rattle.model.specs.Recording.{decode_all}
use Rattle.laws.proofs.Trace.{decode_all-length}
use Rattle.laws.proofs.LastEvents.{start_in_le}
use Rattle.frontier.proofs.Advance.begin.Goals as goal

pub want_event-requires : goal.want_event-requires
want_event-requires c =
    let b = c.args.trace.now.records.bytes.now in
    omega (arith, c.start-start.ensures, start_in_le (decode_all b) c.args.t, decode_all-length b)
