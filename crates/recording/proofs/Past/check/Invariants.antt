-- `recording::Past::check` meets its contract: before each event its state is that of the check, no earlier
-- event has a fault, and none is a start or a join. Assumes nothing.
use Rattle.model.specs.Recording.{decode_all}
use Rattle.recording.specs.Asked.{Plain}
use Rattle.recording.proofs.Past.check.Given as goal

abbrev pub invariant-loop-e : goal.invariant-loop-e
invariant-loop-e l = Plain (decode_all l.records.bytes.now) l.e l.self
