-- `recording::task` meets its contract: the 4 bits below the operation are the task. Assumes nothing.
use Prim.Native.Nat.{◌*◌, ◌-◌, ◌/◌}
use mathlib.Core.Path.{◌∙◌}
use lib.Bits.{and_mask, mask_lt}
use lib.ListN.{get_or}
use Rattle.laws.proofs.Trace.{record-task}
use Rattle.recording.proofs.task.Goals as goal

pub returns : goal.returns
returns c =
    let a = c.args in
    let hi = get_or a.records.now (2 * (a.e - 1)) 0 in (
      mask_lt (hi / 4) 4,
      and_mask (hi / 4) 4 ∙ record-task a.records.now a.e c.requires.0 c.requires.1,
    )
