-- `recording::check_events` meets its contract: where the first part ends before a record that names no lock,
-- the second goes on from there. Assumes nothing.
use Rattle.model.specs.Recording.{decode_all}
use Rattle.recording.proofs.Walk.{done-start, lives-start}
use Rattle.recording.proofs.check_events.Goals as goal

pub check-requires : goal.check-requires
check-requires c = done-start (decode_all c.args.records.now.bytes.now)

pub note_before-requires : goal.note_before-requires
note_before-requires c =
    let (first, last, plain) = rw c.in-Some.is at c.in_ok-check.ensures in
    (first, last, plain.unforked, lives-start (decode_all c.args.records.now.bytes.now))
