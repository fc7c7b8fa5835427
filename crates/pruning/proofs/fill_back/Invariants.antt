-- `pruning::fill_back` meets its contract: the entries so far spread from the first. Assumes nothing.
use mathlib.Core.Path.{◌≡◌}
use lib.ListN.{get_or}
use Rattle.laws.specs.Returning.{Spread}
use Rattle.pruning.proofs.fill_back.Given as goal

abbrev pub invariant-loop-i : goal.invariant-loop-i
invariant-loop-i l = Spread l.lead l.i l.back × (get_or l.back 0 0 ≡ l.held)
