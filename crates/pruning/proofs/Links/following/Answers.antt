-- `pruning::Links::following` meets its contract: no event so far may follow. Assumes nothing.
use Prim.Native.Nat.{ℕ}
use mathlib.Core.Path.{◌≡◌, sym, ◌∙◌}
use mathlib.Core.Bool.{false}
use native.Mathlib.Omega.{arith}
use Rattle.model.specs.Recording.{decode_all}
use Rattle.std.specs.Prelude.{[]}
use Rattle.laws.specs.Chain.{signature, fits}
use Rattle.recording.proofs.Accepted.{sound}
use Rattle.deadlock.specs.Judged.{of_events}
use Rattle.laws.proofs.Trace.{decode_all-length}
use Rattle.laws.proofs.WellFormed.{acquire_lt}
use Rattle.pruning.specs.Linked.{is_near}
use Rattle.pruning.proofs.Walks.{walked-start, walked-none, walked_found, walked-next, alone}
use Rattle.pruning.proofs.Blocks.{near_fits}
use Rattle.pruning.proofs.Links.following.Goals as goal
use Rattle.pruning.proofs.Links.following.Goals.{After-object-l}

-- What is not near does not follow.
far : (c : After-object-l) → let a = c.args in
    let σ = decode_all a.self.now.trace.now.records.bytes.now in (f : ℕ)
    → is_near σ a.self.now.blocks c.object-l.result f ≡ false
    → fits (signature σ) (of_events [] a.chain.now) f ≡ false
far c f =
    let a = c.args in
    near_fits (decode_all a.self.now.trace.now.records.bytes.now) a.self.now.blocks a.self.now.marked
    (of_events [] a.chain.now) c.object-l.result f c.object-l.ensures.1

pub loop-x-init : goal.loop-x-init
loop-x-init c =
    walked-start _ _ c.args.e
    (omega (arith, c.requires.2, decode_all-length c.args.self.now.trace.now.records.bytes.now))

pub hop-requires : goal.hop-requires
hop-requires c =
    let trace = c.args.self.now.trace.now in
    let b = trace.records.bytes.now in (
      rw c.object-l.ensures.1
          (acquire_lt (decode_all b) (sound trace.records) c.args.chain.now.last
          c.requires.3),
      omega (arith, c.loop-x.invariant.high, decode_all-length b),
    )

pub follows-requires : goal.follows-requires
follows-requires c =
    let (d, y) = c.in-Some.ensures in
    let event = y.passes d in
    let size = decode_all-length c.args.self.now.trace.now.records.bytes.now in
    (c.requires.0, c.requires.1, c.requires.3, omega (arith, event.0), omega (arith, event.1))

pub returns-then-follows : goal.returns-then-follows
returns-then-follows c =
    let (d, y) = c.in-Some.ensures in (
      d,
      walked_found _ _ (far (goal.at.returns-then-follows c).After-object-l) c.loop-x.invariant d y
          (sym c.follows.ensures ∙ c.if-follows.true),
    )

pub loop-x-preserved : goal.loop-x-preserved
loop-x-preserved c =
    let (d, y) = c.in-Some.ensures in
    walked-next _ _ (far (goal.at.loop-x-preserved c).After-object-l) c.loop-x.invariant d y c.in-Some.x
    (alone _ c.in-Some.x (sym c.follows.ensures ∙ c.if-follows.false)) (omega arith) (y.passes d).1

pub returns : goal.returns
returns c =
    walked-none _ _ (far (goal.at.returns c).After-object-l) c.loop-x.invariant c.in_default.ensures
