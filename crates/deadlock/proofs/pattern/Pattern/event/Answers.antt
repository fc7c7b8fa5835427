-- `deadlock::pattern::Pattern::event` meets its contract: the numbers are those of events. Assumes nothing.
use native.Mathlib.Omega.{arith}
use Rattle.model.specs.Bytes.{numbers}
use Rattle.laws.proofs.Bytes.{numbers-length}
use Rattle.laws.proofs.Passing.{listed-event}
use Rattle.deadlock.proofs.pattern.Pattern.event.Goals as goal

pub number-requires : goal.number-requires
number-requires c = omega (arith, c.requires, numbers-length c.args.self.now.bytes.now)

pub returns : goal.returns
returns c =
    let p = c.args.self.now in
    let ns = numbers p.bytes.now in
    let is = c.number.ensures in
    let (x, y, z) = listed-event p.trace.now.records.bytes.now ns c.args.i p.events c.requires is in
    (x, z, is)
