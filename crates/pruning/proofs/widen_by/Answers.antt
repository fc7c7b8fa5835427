-- `pruning::widen_by` meets its contract: the union has the locks of both masks. Assumes nothing.
use lib.ListN.{get_or}
use Rattle.pruning.proofs.Spreads.{covers-left, covers_right}
use Rattle.pruning.proofs.widen_by.Goals as goal

pub returns-then-in_mask : goal.returns-then-in_mask
returns-then-in_mask c =
    let a = c.args in
    let more = get_or a.lead.now a.m 0 in
    (covers-left a.wide more, λ t. covers_right a.wide more)
