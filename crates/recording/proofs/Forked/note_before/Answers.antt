-- `recording::Forked::note_before` meets its contract: before each event the latest one of each task is
-- noted. Assumes nothing.
use native.Mathlib.Omega.{arith}
use Rattle.recording.proofs.Tasks.{lives_plain, latest_noted}
use Rattle.recording.proofs.Forked.note_before.Goals as goal

pub loop-f-preserved : goal.loop-f-preserved
loop-f-preserved c =
    let k = c.loop-f in
    let plain = c.requires.2 k.f k.auto.f (omega (arith, c.loop-f-test.true)) in
    (latest_noted c.task.ensures (lives_plain plain k.invariant.0), k.invariant.1)
