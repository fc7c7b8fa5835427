-- `frontier::Advance::run` meets its contract: each turn brings the frontier on, until no task has more to
-- reach. Assumes nothing.
use native.Mathlib.Omega.{arith}
use Rattle.model.specs.Recording.{decode_all}
use Rattle.laws.proofs.Trace.{decode_all-length}
use Rattle.recording.proofs.Accepted.{sound}
use Rattle.frontier.proofs.Rounds.{round_end, round_less}
use Rattle.frontier.proofs.Advance.run.Goals as goal

pub loop-t-smaller : goal.loop-t-smaller
loop-t-smaller c =
    let a = c.loop-t.self in
    let b = c.args.trace.now.records.bytes.now in
    round_less (decode_all b) c.args.self.now.want a.front a.want a.latest
    c.loop-t.invariant
    (omega (arith, c.args.trace.now.records.short, decode_all-length b)) _ c.in-Some.ensures _ _ _
    c.turn.ensures

pub returns : goal.returns
returns c =
    let a = c.loop-t.self in
    let b = c.args.trace.now.records.bytes.now in
    round_end (decode_all b) c.args.self.now.want a.front a.want a.latest c.loop-t.invariant
    (sound c.args.trace.now.records) c.in_default.ensures
