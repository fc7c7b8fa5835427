-- `entries::Entry::write` meets its contract: the size is written, and behind it one event a turn.
-- Assumes nothing.
use mathlib.Core.Path.{◌≡◌}
use lib.ListN.{take}
use lib.Seq.{sets}
use Rattle.model.specs.Bytes.{encode}
use Rattle.entries.proofs.Entry.write.Given as goal

abbrev pub invariant-loop-i : goal.invariant-loop-i
invariant-loop-i l = l.out ≡ sets l.initial.out 2 (encode (take l.i l.self.events.now))
