-- `schedule::Progress::leaves_next` meets its contract: the events before number i of the pattern are next,
-- so the rest decides. Assumes nothing.
use Rattle.model.specs.Recording.{decode_all}
use Rattle.model.specs.Bytes.{numbers}
use Rattle.laws.proofs.Passing.{Passing}
use Rattle.schedule.specs.Next.{is_next}
use Rattle.schedule.proofs.Progress.leaves_next.Given as goal

abbrev pub invariant-loop-i : goal.invariant-loop-i
invariant-loop-i l =
    Passing (is_next (decode_all l.pattern.trace.now.records.bytes.now) l.self.last)
    (numbers l.pattern.bytes.now) l.i
