-- `listing::search::search_first` meets its contract: an acquire whose lock does not lead back begins
-- nothing. Assumes nothing.
use native.Mathlib.Omega.{arith}
use Rattle.model.specs.Trace.{is_acquire}
use Rattle.model.specs.Recording.{decode_all}
use Rattle.laws.proofs.Tests.{is_true}
use Rattle.laws.proofs.Extensions.{beginning_acquire}
use Rattle.laws.proofs.Returning.{leading-all}
use Rattle.entries.proofs.Laws.{adds_none}
use Rattle.listing.proofs.Beginnings.{beginning_nowhere, unreturned}
use Rattle.listing.proofs.search.search_first.Goals as goal

pub ways_back-requires : goal.ways_back-requires
ways_back-requires c =
    let trace = c.args.links.now.trace.now in
    let b = trace.records.bytes.now in (
      c.requires.1,
      c.requires.2,
      c.requires.3,
      leading-all (decode_all b) c.args.a c.args.lead.now c.requires.0,
      omega (arith, c.args.size.permitted),
      c.args.size.permitted.1,
    )

pub returns-then-is_none : goal.returns-then-is_none
returns-then-is_none c =
    let a = c.args in
    rw (beginning_nowhere (decode_all a.links.now.trace.now.records.bytes.now) a.a a.size.events c.requires.3
    a.size.permitted.0 (unreturned _ _ _ c.ways_back.result c.if-is_none.ensures c.ways_back.ensures))
    (adds_none _ a.found)

pub returns-in-None : goal.returns-in-None
returns-in-None c =
    let a = c.args in
    rw (beginning_nowhere (decode_all a.links.now.trace.now.records.bytes.now) a.a a.size.events c.requires.3
    a.size.permitted.0 c.in-None.ensures) (adds_none _ a.found)

pub returns-in-Some : goal.returns-in-Some
returns-in-Some c =
    let σ = decode_all c.args.links.now.trace.now.records.bytes.now in
    rw (beginning_acquire σ _ c.args.a (is_true (is_acquire σ c.args.a) c.requires.3)) c.begin.ensures
