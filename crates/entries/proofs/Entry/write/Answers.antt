-- `entries::Entry::write` meets its contract: the size is written, and behind it one event a turn.
-- Assumes nothing.
use mathlib.Core.Path.{◌∙◌}
use Rattle.entries.proofs.Laws.{entry_more}
use Rattle.entries.proofs.Entry.write.Goals as goal

pub loop-i-preserved : goal.loop-i-preserved
loop-i-preserved c =
    c.put_number-in-loop-i.ensures
    ∙ rw c.loop-i.invariant (entry_more c.put_number.new.bytes c.args.self.now.events.now
    c.loop-i.i c.loop-i-test.true)
