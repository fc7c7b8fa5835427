-- `deadlock::avoids` meets its contract: while no event before is in the set, the rest decides. Assumes
-- nothing.
use Prim.Native.Nat.{ℕ}
use mathlib.Core.Bool.{not}
use mathlib.Core.List.{List}
use lib.Dec.{leb}
use lib.ListN.{get_or}
use Rattle.model.specs.Trace.{task}
use Rattle.model.specs.Recording.{decode_all}
use Rattle.laws.proofs.Passing.{Passing}
use Rattle.deadlock.specs.Judged.{Gives}
use Rattle.deadlock.proofs.avoids.Given as goal

abbrev pub invariant-loop-i : goal.invariant-loop-i
invariant-loop-i g l =
    (ns : List ℕ) → Gives (goal.F-post g l.event) l.count ns
    → Passing
    (λ e. not (leb e (get_or l.frontier.front (task (decode_all l.trace.records.bytes.now) e) 0))) ns l.i
