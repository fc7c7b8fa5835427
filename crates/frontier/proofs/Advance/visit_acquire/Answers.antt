-- `frontier::Advance::visit_acquire` meets its contract: f is the earlier of two acquires, or the latest one
-- before is. Assumes nothing.
use Prim.Native.Nat.{◌≤◌, ◌<◌, min}
use mathlib.Core.Path.{refl, ◌∙◌, ◌≡◌}
use mathlib.Core.Logic.{◌≢◌}
use lib.ListN.{get_or}
use native.Mathlib.Omega.{arith}
use borrow.Author.Tests.{lt-ltb, le-ltb}
use Rattle.frontier.proofs.Leaves.{wanted_earlier-none, wanted_earlier_some}
use Rattle.frontier.proofs.Advance.visit_acquire.Goals as goal

pub returns-then-f-top : goal.returns-then-f-top
returns-then-f-top c =
    let top = get_or c.args.self.now.latest c.object-l.result 0 in
    let f = c.args.f in
    let later : f ≤ top = omega (arith, c.if-f-top.true) in
    let some : top ≢ 0 = λ z. omega (arith, c.requires.0) in
    let first : f ≡ min top f = omega arith in
    rw (← c.object-l.ensures.1)
    (c.want_match.ensures ∙ rw (wanted_earlier_some _ _ top f some first, le-ltb top f later) refl)

pub want_match-requires-2 : goal.want_match-requires-2
want_match-requires-2 c = omega (arith, c.if-f-top.false, c.if-top-eq0.false, c.requires)

pub returns-then-top-eq0 : goal.returns-then-top-eq0
returns-then-top-eq0 c =
    let top = get_or c.args.self.now.latest c.object-l.result 0 in
    let later : top < c.args.f = omega (arith, c.if-f-top.false) in
    rw (← c.object-l.ensures.1)
    (rw (wanted_earlier-none _ _ top c.args.f c.if-top-eq0.true, lt-ltb top c.args.f later) refl)

pub returns : goal.returns
returns c =
    let top = get_or c.args.self.now.latest c.object-l.result 0 in
    let f = c.args.f in
    let later : top < f = omega (arith, c.if-f-top.false) in
    let first : top ≡ min top f = omega arith in
    rw (← c.object-l.ensures.1)
    (c.want_match-2.ensures
    ∙ rw (wanted_earlier_some _ _ top f c.if-top-eq0.false first, lt-ltb top f later) refl)
