-- `recording::number` meets its contract: the number of its two bytes. Assumes nothing.
use mathlib.Core.Path.{sym, ◌∙◌}
use Rattle.laws.proofs.Bytes.{numbers-at}
use Rattle.recording.proofs.number.Goals as goal

pub returns : goal.returns
returns c = c.from_be_bytes.ensures ∙ sym (numbers-at c.args.bytes.now c.args.i c.requires)
