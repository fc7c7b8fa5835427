-- `recording::Forked::check` meets its contract: before each event its state is that of the check, and no
-- earlier event has a fault. Assumes nothing.
use Rattle.model.specs.Recording.{decode_all}
use Rattle.recording.specs.Asked.{Asking}
use Rattle.recording.proofs.Forked.check.Given as goal

abbrev pub invariant-loop-e : goal.invariant-loop-e
invariant-loop-e l = Asking (decode_all l.records.bytes.now) l.e l.self
