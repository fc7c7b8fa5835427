-- `closure::put_behind` meets its contract: the events passed are in it where they are behind the frontier.
-- Assumes nothing.
use Prim.Native.Nat.{ℕ, suc, ◌-◌}
use mathlib.Core.Path.{◌≡◌}
use mathlib.Core.Bool.{◌&&◌}
use lib.Dec.{leb, ltb}
use lib.ListN.{get_or}
use Rattle.model.specs.Trace.{task}
use Rattle.model.specs.Recording.{decode_all}
use Rattle.laws.specs.BitRow.{row_bit}
use Rattle.closure.proofs.put_behind.Given as goal

abbrev pub invariant-loop-e : goal.invariant-loop-e
invariant-loop-e l =
    (i : ℕ) → row_bit 64 l.words i
    ≡ (ltb i (l.e - 1) && leb (suc i) (get_or l.frontier.front
    (task (decode_all l.trace.records.bytes.now) (suc i)) 0))
