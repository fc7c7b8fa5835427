-- `lockreport::report` meets its contract: what the listing says it wrote are entries, and no more than the
-- output had room for. Assumes nothing.
use Rattle.std.proofs.Common.{◌^◌, ◌≤◌, ◌<◌, Ok, length, take, string_bytes, refl, sym, ap}
use Rattle.std.proofs.Common.{rules, arith, length-take}
use Rattle.std.proofs.Math.Seq.{length-take-le}
use Rattle.model.specs.Answers.{listed_of}
use Rattle.lockreport.specs.Text.{Entries}
use Rattle.lockreport.proofs.Laws.{refusal_within, listed_front}
use Rattle.lockreport.proofs.report.Goals as goal
use Rattle.lockreport.proofs.report.Goals.{In-Ok}
use Rattle.lockreport.proofs.report.Goals.{in-Ok+in_ok-put_listing-in-Ok, in-Err+in_ok-put_refusal-in-Err}

-- The bytes that the listing says it wrote, in front of the output.
front : (c : goal.In-Ok)
    → (c.in-Ok.listed.bytes ≤ length c.list_pairs.new.out)
    × Entries (take c.in-Ok.listed.bytes c.list_pairs.new.out)
front c =
    let l = c.in-Ok.ensures in
    listed_front c.args.recording.now _ c.list_pairs.new.out 2 (listed_of (Ok c.in-Ok.listed)) l.answer
    l.output
    refl

pub slice_bounds-out-end : goal.slice_bounds-out-end
slice_bounds-out-end c = (front (goal.at.slice_bounds-out-end c).In-Ok).0

pub slice_bounds-put_listing-end : goal.slice_bounds-put_listing-end
slice_bounds-put_listing-end c =
    let has = front (goal.at.slice_bounds-put_listing-end c).In-Ok in
    sym (length-take-le c.in-Ok.listed.bytes c.list_pairs.new.out has.0)

pub put_listing-requires : goal.put_listing-requires
put_listing-requires c = (front (goal.at.put_listing-requires c).In-Ok).1

pub returns : goal.returns
returns c =
    let empty = ap length c.new-text.ensures.bytes in
    elim c.match-list_pairs.branch [
      | in-Ok+in_ok-put_listing-in-Ok w ↦
          let listed = w.in_ok-put_listing-in-Ok.ensures in
          let part = length-take w.in-Ok.listed.bytes c.list_pairs.new.out in
          rw w.text-is (omega (arith, empty, listed, part, c.list_pairs.auto))
      | in-Err+in_ok-put_refusal-in-Err w ↦
          let r = w.in-Err.refusal in
          let fits : r.event < 2 ^ 64 = search rules in
          let line = w.in_ok-put_refusal-in-Err.ensures in
          let text' = string_bytes w.put_refusal.new.text in
          let refused = refusal_within (string_bytes c.new-text.result) text' r.question r.event fits line in
          rw w.text-is (omega (arith, empty, refused))
    ]
