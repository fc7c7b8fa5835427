-- `schedule::Progress::keeps_order` meets its contract: before each number the tables hold what is listed,
-- and the rest of the schedule decides. Assumes nothing.
use Rattle.model.specs.Recording.{decode_all}
use Rattle.model.specs.Bytes.{numbers}
use Rattle.schedule.proofs.Walk.{Walking}
use Rattle.schedule.proofs.Progress.keeps_order.Given as goal

abbrev pub invariant-loop-i : goal.invariant-loop-i
invariant-loop-i l = Walking (decode_all l.trace.records.bytes.now) (numbers l.schedule) l.i l.self
