-- `deadlock::pattern::Pattern::reach` meets its contract: the frontier is that of the numbers so far. Assumes
-- nothing.
use mathlib.Core.Path.{refl}
use Prim.Native.Nat.{◌<◌}
use native.Mathlib.Omega.{arith}
use lib.ListN.{length}
use lib.Seq.{take_all}
use Rattle.model.specs.Bytes.{numbers}
use Rattle.model.specs.Recording.{decode_all}
use Rattle.laws.proofs.Before.{before-start}
use Rattle.laws.proofs.Trace.{record-event}
use Rattle.recording.proofs.Accepted.{sound}
use Rattle.deadlock.proofs.Verdicts.{before-next}
use Rattle.deadlock.proofs.pattern.Pattern.reach.Goals as goal

pub loop-i-init : goal.loop-i-init
loop-i-init c = before-start _ _ _ refl refl

pub loop-i-preserved : goal.loop-i-preserved
loop-i-preserved c =
    let l = c.loop-i in
    let p = c.args.self.now in
    let b = p.trace.now.records.bytes.now in
    let (h, k, is) = c.event.ensures in
    let event = record-event b c.event.result (h, k) in
    let ns = numbers p.bytes.now in
    let inside : l.i < length ns = omega (arith, c.loop-i-test.true, c.len-i-end.ensures) in
    before-next (decode_all b) ns l.i inside (sound p.trace.now.records)
    l.frontier.front l.frontier.latest _ _ _ is l.invariant event.0 event.1 c.extend.ensures

pub returns : goal.returns
returns c =
    let l = c.loop-i in
    let ns = numbers c.args.self.now.bytes.now in
    rw (take_all l.i ns (omega (arith, c.loop-i-test.false, c.len-i-end.ensures))) at l.invariant
