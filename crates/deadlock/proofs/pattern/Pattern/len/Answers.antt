-- `deadlock::pattern::Pattern::len` meets its contract: two bytes make a number. Assumes nothing.
use mathlib.Core.Path.{sym}
use Rattle.laws.proofs.Bytes.{numbers-length}
use Rattle.deadlock.proofs.pattern.Pattern.len.Goals as goal

pub returns : goal.returns
returns c = sym (numbers-length c.args.self.now.bytes.now)
