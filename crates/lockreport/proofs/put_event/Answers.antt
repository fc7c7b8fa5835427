-- `lockreport::put_event` meets its contract: a number of two bytes has at most five digits. Assumes nothing.
use Rattle.std.proofs.Common.{string_bytes}
use Rattle.std.proofs.lemmas.Result.{on_ok_weaker}
use Rattle.lockreport.proofs.Laws.{event_within}
use Rattle.lockreport.proofs.put_event.Goals as goal

pub returns : goal.returns
returns c =
    let p = c.push_spaced in
    on_ok_weaker p.result
    (event_within (string_bytes c.args.text.now) (string_bytes p.new.text) c.args.event c.ranges.event.fits)
    p.ensures.ok
