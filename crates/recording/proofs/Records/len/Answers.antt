-- `recording::Records::len` meets its contract: there are two bytes for each event. Assumes nothing.
use native.Mathlib.Omega.{arith}
use Rattle.laws.proofs.Trace.{decode_all-length}
use Rattle.recording.proofs.Records.len.Goals as goal

pub returns : goal.returns
returns c =
    let n = decode_all-length c.args.self.now.bytes.now in
    (omega (arith, c.args.self.now.short), omega (arith, n), omega arith)
