-- `recording::Forked::note_before` meets its contract: before each event the latest one of each task is
-- noted. Assumes nothing.
use mathlib.Core.Path.{◌≡◌}
use Rattle.model.specs.Recording.{decode_all}
use Rattle.recording.specs.Asked.{Lives}
use Rattle.recording.proofs.Forked.note_before.Given as goal

abbrev pub invariant-loop-f : goal.invariant-loop-f
invariant-loop-f l = Lives (decode_all l.records.bytes.now) l.f l.f l.self.lives
    × (l.self.past ≡ l.initial.self.past)
