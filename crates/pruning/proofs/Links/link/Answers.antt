-- `pruning::Links::link` meets its contract: the table has the link of each event. Assumes nothing.
use native.Mathlib.Omega.{arith}
use Rattle.model.specs.Recording.{decode_all}
use Rattle.laws.proofs.Trace.{decode_all-length}
use Rattle.pruning.proofs.Nested.{linked_earliest}
use Rattle.pruning.proofs.Links.link.Goals as goal

pub returns : goal.returns
returns c =
    let b = c.args.self.now.trace.now.records.bytes.now in
    linked_earliest (decode_all b) c.args.self.now.next c.args.self.now.linked c.args.e
    (omega (arith, c.requires, decode_all-length b)) _ c.linked.ensures
