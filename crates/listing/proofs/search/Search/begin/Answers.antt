-- `listing::search::Search::begin` meets its contract: the path of one event is open. Assumes nothing.
use mathlib.Core.Path.{refl}
use mathlib.Core.List.{[]}
use native.Mathlib.Omega.{arith}
use Rattle.model.specs.Recording.{decode_all}
use Rattle.laws.specs.Frontier.{Before}
use Rattle.laws.proofs.Trace.{record-event}
use Rattle.laws.proofs.Before.{before-start, before-extend}
use Rattle.recording.proofs.Accepted.{sound}
use Rattle.listing.proofs.Paths.{open_start}
use Rattle.listing.proofs.search.Search.begin.Goals as goal
use Rattle.listing.proofs.search.Search.begin.Goals.{After-empty-frontier}

-- The frontier of no events.
start : (c : After-empty-frontier) → let frontier = c.empty-frontier.result in
    Before (decode_all c.args.self.now.links.now.trace.now.records.bytes.now) [] frontier.front
    frontier.latest
start c = rw c.empty-frontier.ensures (before-start _ _ _ refl refl)

pub extend-requires : goal.extend-requires
extend-requires c =
    ((start (goal.at.extend-requires c).After-empty-frontier).settled, c.requires.0, c.requires.1)

pub extend-requires-2 : goal.extend-requires-2
extend-requires-2 c =
    let search = c.args.self.now in
    let trace = search.links.now.trace.now in
    let σ = decode_all trace.records.bytes.now in
    let event = record-event trace.records.bytes.now search.first (c.requires.0, c.requires.1) in
    let before = before-extend σ (sound trace.records) [] _ _ search.first _ _
    (start (goal.at.extend-requires-2 c).After-empty-frontier) event.0 event.1 c.extend.ensures in (
      open_start σ search.first search.size.events _ _ event.0 event.1 c.requires.2 search.size.permitted.0
          c.start-path.ensures.len c.start-path.ensures.chain before,
      omega (arith, search.size.permitted),
    )
