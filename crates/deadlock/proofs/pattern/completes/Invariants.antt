-- `deadlock::pattern::completes` meets its contract: what is left completes the chain so far exactly where
-- all does. Assumes nothing.
use Rattle.std.specs.Prelude.{[]}
use Prim.Native.Nat.{◌*◌, ◌≤◌}
use mathlib.Core.Path.{◌≡◌}
use lib.Dec.{T}
use lib.ListN.{length, drop}
use Rattle.model.specs.Bytes.{numbers}
use Rattle.model.specs.Trace.{is_acquire}
use Rattle.model.specs.Recording.{decode_all}
use Rattle.laws.specs.Chain.{signature, start, completing}
use Rattle.deadlock.specs.Judged.{of_events}
use Rattle.deadlock.proofs.pattern.completes.Given as goal

abbrev pub invariant-loop-i : goal.invariant-loop-i
invariant-loop-i l =
    (l.chain.first ≡ l.a) × (1 ≤ l.chain.last) × (2 * l.chain.last ≤ length l.trace.records.bytes.now)
    × T (is_acquire (decode_all l.trace.records.bytes.now) l.chain.last)
    × (completing (decode_all l.trace.records.bytes.now) (of_events [] l.chain) (drop l.i (numbers l.bytes))
    ≡ completing (decode_all l.trace.records.bytes.now)
    (start (signature (decode_all l.trace.records.bytes.now)) l.a) (drop 1 (numbers l.bytes)))
