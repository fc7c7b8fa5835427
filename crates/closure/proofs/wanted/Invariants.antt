-- `closure::wanted` meets its contract: the events passed are wanted. Assumes nothing.
use Prim.Native.Nat.{◌-◌}
use Rattle.model.specs.Trace.{task}
use Rattle.model.specs.Recording.{decode_all}
use Rattle.laws.specs.BitRow.{row_bit}
use Rattle.laws.specs.Walked.{LatestEvents}
use Rattle.closure.proofs.wanted.Given as goal

abbrev pub invariant-loop-e : goal.invariant-loop-e
invariant-loop-e l =
    LatestEvents (λ f. row_bit 64 l.words (f - 1)) (task (decode_all l.trace.records.bytes.now)) l.e l.want
