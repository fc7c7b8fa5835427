-- `deadlock::write_behind` meets its contract: the events passed are written. Assumes nothing.
use mathlib.Core.Path.{◌≡◌}
use lib.ListN.{length}
use lib.Seq.{sets}
use Rattle.model.specs.Bytes.{encode}
use Rattle.model.specs.Recording.{decode_all}
use Rattle.deadlock.specs.Judged.{behind_below}
use Rattle.deadlock.proofs.write_behind.Given as goal

abbrev pub invariant-loop-e : goal.invariant-loop-e
invariant-loop-e l =
    (l.at ≡ length (encode (behind_below (decode_all l.trace.records.bytes.now) l.frontier.front l.e)))
    × (l.out ≡ sets l.initial.out 0 (encode
    (behind_below (decode_all l.trace.records.bytes.now) l.frontier.front l.e)))
