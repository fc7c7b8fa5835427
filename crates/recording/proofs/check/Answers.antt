-- `recording::check` meets its contract: questions 1 to 3 in order, and then the part after the header.
-- Assumes nothing.
use mathlib.Core.Path.{sym, ◌∙◌}
use Rattle.model.specs.Recording.{format, trace}
use Rattle.laws.proofs.Parts.{part-from}
use Rattle.laws.proofs.Questions.{check_short, check-format, check-length, check_events_lem}
use Rattle.recording.proofs.check.Goals as goal

pub returns-then-recording-lt2 : goal.returns-then-recording-lt2
returns-then-recording-lt2 c =
    rw c.into.ensures (sym (check_short c.args.recording.now c.if-recording-lt2.true))

pub returns-then-recording-ne1 : goal.returns-then-recording-ne1
unfolding format
returns-then-recording-ne1 c =
    rw c.into-then-recording-ne1.ensures (sym (check-format c.args.recording.now c.if-recording-lt2.false
    c.if-recording-ne1.true))

pub returns-then-recording-event_count : goal.returns-then-recording-event_count
unfolding format
returns-then-recording-event_count c =
    rw c.into-then-recording-event_count.ensures
    (sym (check-length c.args.recording.now c.if-recording-lt2.false c.if-recording-ne1.false
    (rw c.event_count.ensures.1 at c.if-recording-event_count.true)))

pub returns : goal.returns
unfolding format trace
returns c =
    let b = c.args.recording.now in
    rw (part-from 2 b) at c.check_events.ensures
    ∙ sym (check_events_lem b c.if-recording-lt2.false c.if-recording-ne1.false
    (rw c.event_count.ensures.1 at c.if-recording-event_count.false))
