-- `deadlock::lock_in_mask` meets its contract: the mask's bit of the event's lock. Assumes nothing.
use Rattle.model.specs.Recording.{decode_all}
use Rattle.laws.proofs.Trace.{acquire-object}
use Rattle.deadlock.proofs.lock_in_mask.Goals as goal

pub in_mask-requires : goal.in_mask-requires
in_mask-requires c =
    rw c.object.ensures.1 (acquire-object (decode_all c.args.records.now) c.args.e c.requires.2)
