-- `frontier::Advance::turn` meets its contract: the frontier is on its way from the wanted event to the old
-- one, or to the task's start. Assumes nothing.
use Prim.Native.Nat.{◌≤◌}
use mathlib.Core.Path.{refl, ap}
use Rattle.recording.proofs.Accepted.{sound}
use Rattle.frontier.specs.declared.Advance.{Advance}
use native.Mathlib.Omega.{arith}
use lib.ListN.{length, get_or, set}
use Rattle.model.specs.Recording.{decode_all}
use Rattle.laws.proofs.Trace.{decode_all-length}
use Rattle.laws.proofs.Relations.{predecessor_below}
use Rattle.frontier.proofs.Turning.{Turning, turning_begin, turning-step, turning-again}
use Rattle.frontier.proofs.Turning.{turning_end}
use Rattle.frontier.proofs.Advance.turn.Goals as goal
use Rattle.frontier.proofs.Advance.turn.Goals.{After-begin-end, In-loop-f}

-- The turn at its beginning.
begun : (c : goal.After-begin-end) → let s = c.begin-end.new.self in
    let old = c.args.self.now in
    let t = c.args.t in
    let first = get_or old.want t 0 in
    Turning (decode_all c.args.trace.now.records.bytes.now) (set s.front t first) old.want s.want
    s.latest t (get_or old.front t 0) c.begin-end.result first
begun c =
    let records = c.args.trace.now.records in
    rw c.begin-end.ensures.wanted
    (turning_begin _ (sound records) _ _ _ _ c.requires.0 c.requires.1
    c.requires.2 c.begin-end.ensures.end refl)

-- The event to be visited,
event : (c : goal.In-loop-f) → (1 ≤ c.loop-f.f)
    × (c.loop-f.f ≤ length (decode_all c.args.trace.now.records.bytes.now))
event c = (c.loop-f.invariant.turning.more c.loop-f-test.true).3.event

pub loop-f-init : goal.loop-f-init
loop-f-init c =
    let records = c.args.trace.now.records in record {
      turning = turning-again _ (sound records)
          (begun (goal.at.loop-f-init c).After-begin-end);
      front_is = refl;
    }

pub visit-requires : goal.visit-requires
visit-requires c =
    let e = event (goal.at.visit-requires c).In-loop-f in
    (e.0, omega (arith, e, decode_all-length c.args.trace.now.records.bytes.now))

pub predecessor-f-requires : goal.predecessor-f-requires
predecessor-f-requires c =
    let e = event (goal.at.predecessor-f-requires c).In-loop-f in
    (e.0, omega (arith, e, decode_all-length c.args.trace.now.records.bytes.now))

pub loop-f-smaller : goal.loop-f-smaller
loop-f-smaller c =
    let low = predecessor_below (decode_all c.args.trace.now.records.bytes.now) c.loop-f.f in
    omega (arith, c.predecessor-f.ensures, low, event (goal.at.loop-f-smaller c).In-loop-f)

pub loop-f-preserved : goal.loop-f-preserved
loop-f-preserved c =
    let records = c.args.trace.now.records in
    let k = c.loop-f.invariant in
    rw (c.predecessor-f.ensures, c.visit.ensures) record {
      turning = turning-step _ (sound records) _ _ _ _ _ _ _ _ k.turning
          c.loop-f-test.true;
      front_is = k.front_is;
    }

pub returns : goal.returns
returns c =
    let old = c.args.self.now in
    let t = c.args.t in
    let records = c.args.trace.now.records in
    let k = c.loop-f.invariant in
    let front = ap (λ (a : Advance). set a.front t (get_or old.want t 0))
    c.begin-end.ensures.wanted in
    rw k.front_is
    (turning_end _ (sound records) old.front
    (begun (goal.at.returns c).After-begin-end) k.turning c.loop-f-test.false front)
