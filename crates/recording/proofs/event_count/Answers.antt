-- `recording::event_count` meets its contract: the low 12 bits of the header are the count. Assumes nothing.
use native.Mathlib.Omega.{arith}
use lib.Bits.{and_mask}
use lib.ListN.{get_or}
use Rattle.model.specs.Recording.{event_count}
use Rattle.recording.proofs.event_count.Goals as goal

pub returns : goal.returns
unfolding event_count
returns c =
    let is = rw (and_mask (get_or c.args.recording.now 0 0) 4) at c.from_be_bytes.ensures in
    omega (arith, is, c.type_inv.recording 1)
