-- `listing::search::Search::descend` and `extend` meet their contracts, by the number of events
-- that may still follow: the scan has taken what the events so far add. Assumes nothing.
use Prim.Native.Nat.{ℕ, suc, ◌-◌, ◌*◌, ◌≤◌}
use mathlib.Core.Path.{◌≡◌}
use native.Mathlib.Omega.{arith}
use lib.Dec.{T}
use lib.ListN.{length}
use Rattle.model.specs.Trace.{is_acquire}
use Rattle.model.specs.Recording.{decode_all}
use Rattle.laws.specs.Returning.{Returning}
use Rattle.laws.proofs.Trace.{decode_all-length}
use Rattle.laws.proofs.Results.{passed_on}
use Rattle.deadlock.specs.declared.Chain.{Chain}
use Rattle.deadlock.specs.Judged.{of_events}
use Rattle.chain.specs.declared.Grown.{Grown}
use Rattle.chain.specs.declared.Trial.{Trial}
use Rattle.chain.specs.Attempted.{chain_of, Attempted}
use Rattle.chain.proofs.Laws.{remembered, remembered_none, remembered_later, remembered_next}
use Rattle.listing.proofs.Paths.{returning_fewer, open_with}
use Rattle.listing.proofs.Scans.{scanning-start, scanning_event, scanning_acquire, scanning_adds}
use Rattle.listing.proofs.Scans.{scanning_drops, scanning_over, scanning-next, scanning_end}
use Rattle.listing.proofs.search.Search.+descend_extend.Goals as goal
use Rattle.listing.proofs.search.Search.+descend_extend.Goals.{extend-In-Some}

-- The event that follows is one of the records, and an acquire.
event : (t : ℕ) (c : extend-In-Some t) → let b = c.args.self.now.links.now.trace.now.records.bytes.now in
    (1 ≤ c.in-Some.e) × (2 * c.in-Some.e ≤ length b) × T (is_acquire (decode_all b) c.in-Some.e)
event t c =
    let (d, y) = c.in-Some.ensures in
    let (one, low, high) = scanning_event c.loop-e.invariant.scanning d y in
    let size = decode_all-length c.args.self.now.links.now.trace.now.records.bytes.now in
    (one, omega arith, scanning_acquire c.loop-e.invariant.scanning d y)

-- What an attempt after the path's events says of any chain of them to whose first one the locks lead back,
-- it says of the path's.
tried : (t : ℕ) {met : Trial} {old new : Grown} (c : extend-In-Some t)
    → let b = c.args.self.now.links.now.trace.now.records.bytes.now in
    ((d : Chain) → Returning (decode_all b) d.first (suc (c.args.left - 1)) c.args.self.now.back
    → Attempted (decode_all b) (c.args.left - 1) (of_events c.events-events.result.now d) c.in-Some.e met old
    new)
    → Attempted (decode_all b) (c.args.left - 1) (chain_of c.args.path.now) c.in-Some.e met old new
tried t c said =
    let o = c.requires.0 in
    let back = returning_fewer (omega (arith, o.sized, c.requires.1)) c.args.self.now.returning in
    rw c.events-events.ensures.0 at (said c.args.path.now.chain (rw o.begins back))

pub descend-closes-requires : goal.descend-closes-requires
descend-closes-requires t c =
    let z = c.requires.traced in
    let size = decode_all-length c.args.self.now.links.now.trace.now.records.bytes.now in
    (z.first_event.0, omega (arith, z.first_event), z.last_event.0, omega (arith, z.last_event), z.acquires)

pub extend-loop-e-init : goal.extend-loop-e-init
extend-loop-e-init t c = record {
  scanning = scanning-start c.requires.0.traced.first_event.1;
  kept = remembered_none c.new-grown.ensures;
}

pub extend-following-requires : goal.extend-following-requires
extend-following-requires t c =
    let o = c.requires.0.traced in
    let z = c.loop-e.invariant.scanning in
    let size = decode_all-length c.args.self.now.links.now.trace.now.records.bytes.now in (
      rw z.same.0 o.last_event.0,
      omega (arith, o.last_event, z.same),
      omega (arith, z.high),
      rw z.same.0 o.acquires,
    )

pub extend-attempt-met-requires : goal.extend-attempt-met-requires
extend-attempt-met-requires t c =
    let o = c.requires.0 in
    let (d, y) = c.in-Some.ensures in
    let (low, high, acquires) = event t (goal.at.extend-attempt-met-requires t c).In-Some in (
      rw c.events-events.ensures.0 o.traced.events,
      omega (arith, o.sized, c.args.self.now.size.permitted, c.args.path.now.sized),
      rw c.events-events.ensures.0 o.before,
      rw c.events-events.ensures.0 (remembered (remembered_later (y.passes d).0 c.loop-e.invariant.kept)),
      low,
      high,
      acquires,
    )

pub extend-exclude-chain-requires : goal.extend-exclude-chain-requires
extend-exclude-chain-requires t c =
    let (low, high, acquires) = event t (goal.at.extend-exclude-chain-requires t c).In-Some in
    (low, high)

pub extend-with-requires : goal.extend-with-requires
extend-with-requires t c =
    let (low, high, acquires) = event t (goal.at.extend-with-requires t c).In-Some in
    (omega (arith, c.requires.0.sized, c.requires.1, c.args.self.now.size.permitted), low, high)

pub extend-descend-requires : goal.extend-descend-requires
extend-descend-requires t c =
    let (d, y) = c.in-Some.ensures in
    let z = c.loop-e.invariant.scanning in
    let said = tried t (goal.at.extend-descend-requires t c).In-Some c.attempt-met.ensures in
    let (one, low, high) = scanning_event z d y in (
      omega (arith, c.decreases, c.requires.1),
      open_with _ c.requires.0 c.requires.1 c.in-Some.e one high (scanning_acquire z d y) c.with.result
          c.in-Success.reached c.with.ensures.len c.with.ensures.chain
          (said.reached c.in-Success.reached c.in-Success.is),
    )

pub extend-returns-in_err-taken-in-Success : goal.extend-returns-in_err-taken-in-Success
extend-returns-in_err-taken-in-Success t c =
    let (d, y) = c.in-Some.ensures in
    let z = c.loop-e.invariant.scanning in
    let said = tried t (goal.at.extend-returns-in_err-taken-in-Success t c).In-Some c.attempt-met.ensures in
    let size : c.args.left ≡ suc (c.args.left - 1) = omega (arith, c.requires.1) in
    rw (passed_on c.from_residual.result _ c.from_residual.ensures.1, size)
    (scanning_over z d y (scanning_adds z d y said c.in-Success.is _ c.with.ensures.chain
    c.in_err-taken-in-Success.ensures))

pub extend-loop-e-preserved-in-Success : goal.extend-loop-e-preserved-in-Success
extend-loop-e-preserved-in-Success t c =
    let (d, y) = c.in-Some.ensures in
    let z = c.loop-e.invariant.scanning in
    let said = tried t (goal.at.extend-loop-e-preserved-in-Success t c).In-Some c.attempt-met.ensures in
    let done = c.in_ok-taken-in-Success.ensures in record {
      scanning = scanning-next z d y c.requires.0.traced.rooted said c.exclude-chain.ensures
          (scanning_adds z d y said c.in-Success.is _ c.with.ensures.chain done);
      kept =
          remembered_next (scanning_event z d y).0 (remembered_later (y.passes d).0 c.loop-e.invariant.kept)
          said;
    }

pub extend-loop-e-preserved : goal.extend-loop-e-preserved
extend-loop-e-preserved t c =
    let (d, y) = c.in-Some.ensures in
    let z = c.loop-e.invariant.scanning in
    let said = tried t (goal.at.extend-loop-e-preserved t c).In-Some c.attempt-met.ensures in
    let rooted = c.requires.0.traced.rooted in record {
      scanning = scanning-next z d y rooted said c.exclude-chain.ensures
          (scanning_drops z d y said c.in_default-met.not-Success rooted);
      kept =
          remembered_next (scanning_event z d y).0 (remembered_later (y.passes d).0 c.loop-e.invariant.kept)
          said;
    }

pub extend-returns : goal.extend-returns
extend-returns t c =
    let size : c.args.left ≡ suc (c.args.left - 1) = omega (arith, c.requires.1) in
    rw size (scanning_end c.loop-e.invariant.scanning c.in_default.ensures)
