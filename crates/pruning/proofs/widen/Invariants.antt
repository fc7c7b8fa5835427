-- `pruning::widen` meets its contract: the locks that lead to those so far are in the mask. Assumes nothing.
use Rattle.pruning.proofs.Spreads.{Widened}
use Rattle.pruning.proofs.widen.Given as goal

abbrev pub invariant-loop-m : goal.invariant-loop-m
invariant-loop-m l = Widened l.lead l.mask l.m l.wide
