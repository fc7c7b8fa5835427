-- `listing::search::search_all` meets its contract: what the events so far begin has been taken. Assumes
-- nothing.
use Prim.Native.Nat.{suc, ◌-◌}
use mathlib.Core.Path.{◌≡◌}
use native.Mathlib.Omega.{arith}
use Rattle.laws.proofs.Trace.{decode_all-length}
use Rattle.laws.proofs.Results.{passed_on}
use Rattle.pruning.proofs.Nested.{nested_acquire}
use Rattle.entries.proofs.Laws.{taken_none}
use Rattle.listing.proofs.Beginnings.{searching-next, searching_over, searching_end}
use Rattle.listing.proofs.search.search_all.Goals as goal

pub loop-a-init : goal.loop-a-init
loop-a-init c = record { high = omega arith; taken = taken_none c.none-found.ensures }

pub link-requires : goal.link-requires
link-requires c =
    omega (arith, c.loop-a.invariant.high, decode_all-length c.args.links.now.trace.now.records.bytes.now)

pub search_first-requires : goal.search_first-requires
search_first-requires c =
    let (d, y) = c.in-Some.ensures in
    let e = y.passes d in (
      rw (← c.all.ensures) c.leads-lead.ensures,
      omega (arith, e.0),
      omega (arith, e.1, decode_all-length c.args.links.now.trace.now.records.bytes.now),
      nested_acquire _ c.in-Some.a e.2,
    )

pub returns-in_err-found : goal.returns-in_err-found
returns-in_err-found c =
    let (d, y) = c.in-Some.ensures in
    let size : c.args.size.events ≡ suc (c.args.size.events - 1) = omega (arith, c.args.size.permitted.0) in
    rw (passed_on c.from_residual.result _ c.from_residual.ensures.1, size)
    (searching_over c.loop-a.invariant d y (omega (arith, c.args.size.permitted))
    c.in_err-found.ensures)

pub loop-a-preserved : goal.loop-a-preserved
loop-a-preserved c =
    let (d, y) = c.in-Some.ensures in
    searching-next c.loop-a.invariant d y c.in_ok-found.ensures

pub returns : goal.returns
returns c =
    let q : c.args.size.events ≡ suc (c.args.size.events - 1) = omega (arith, c.args.size.permitted.0) in
    rw q (searching_end c.loop-a.invariant c.in_default.ensures (omega (arith, c.args.size.permitted)))
