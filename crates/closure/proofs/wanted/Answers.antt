-- `closure::wanted` meets its contract: the events passed are wanted. Assumes nothing.
use Prim.Native.Nat.{◌+◌}
use mathlib.Core.Path.{◌≡◌}
use native.Mathlib.Omega.{arith}
use lib.ListN.{length}
use Rattle.model.specs.Recording.{decode_all}
use Rattle.laws.proofs.Trace.{decode_all-length}
use Rattle.closure.proofs.wanted.Goals as goal

pub returns : goal.returns
returns c =
    let records = c.args.trace.now.records.bytes.now in
    let last : c.loop-e.e ≡ length (decode_all records) + 1 = omega (arith, decode_all-length records) in
    rw last at c.loop-e.invariant
