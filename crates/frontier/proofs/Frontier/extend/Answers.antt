-- `frontier::Frontier::extend` meets its contract: with the predecessor wanted, the frontier advances.
-- Assumes nothing.
use Prim.Native.Nat.{◌≤◌}
use mathlib.Core.Path.{◌≡◌, refl}
use native.Mathlib.Omega.{arith}
use lib.ListN.{length}
use Rattle.model.specs.Relations.{predecessor}
use Rattle.model.specs.Recording.{decode_all}
use Rattle.laws.specs.Frontier.{wanted}
use Rattle.laws.proofs.Trace.{decode_all-length}
use Rattle.laws.proofs.Relations.{predecessor_below}
use Rattle.laws.proofs.Wanted.{settled-wanted}
use Rattle.recording.proofs.Accepted.{sound}
use Rattle.frontier.proofs.Frontier.extend.Goals as goal
use Rattle.frontier.proofs.Frontier.extend.Goals.{After-want_event, Start}

-- The predecessor is an event of the records, or 0.
known : (c : goal.Start)
    → predecessor (decode_all c.args.trace.now.records.bytes.now) c.args.e ≤ length (decode_all
    c.args.trace.now.records.bytes.now)
known c =
    let b = c.args.trace.now.records.bytes.now in
    omega (arith, predecessor_below (decode_all b) c.args.e, c.requires.2, decode_all-length b)

-- The wanted events with it.
more : (c : goal.After-want_event)
    → c.want_event.new.self.want
    ≡ wanted (decode_all c.args.trace.now.records.bytes.now) c.args.self.now.front
    (predecessor (decode_all c.args.trace.now.records.bytes.now) c.args.e)
more c = rw (c.want_event.ensures, c.predecessor.ensures) refl

pub want_event-requires : goal.want_event-requires
want_event-requires c =
    omega (
      arith,
      c.predecessor.ensures,
      known (goal.at.want_event-requires c).Start,
      decode_all-length c.args.trace.now.records.bytes.now,
    )

pub run-requires : goal.run-requires
run-requires c =
    let records = c.args.trace.now.records in
    rw (c.want_event.ensures, c.predecessor.ensures)
    (settled-wanted _ (sound records) _ _ _ c.requires.0 _
    (known (goal.at.run-requires c).Start))

pub returns : goal.returns
returns c = rw (more (goal.at.returns c).After-want_event) at c.run.ensures.0
