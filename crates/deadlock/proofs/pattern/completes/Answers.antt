-- `deadlock::pattern::completes` meets its contract: what is left completes the chain so far exactly where
-- all does. Assumes nothing.
use Prim.Native.Nat.{◌+◌}
use mathlib.Core.Bool.{◌&&◌}
use mathlib.Core.Path.{◌≡◌, sym, ap, ◌∙◌}
use native.Mathlib.Omega.{arith}
use lib.ListN.{drop}
use Rattle.std.specs.Prelude.{[]}
use Rattle.model.specs.Bytes.{numbers}
use Rattle.model.specs.Recording.{decode_all}
use Rattle.deadlock.specs.Judged.{of_events, joins}
use Rattle.laws.specs.Chain.{Chain, signature, add, completing}
use Rattle.laws.proofs.Bytes.{numbers-length}
use Rattle.deadlock.proofs.Chains.{joins-event, completing_next, completing_last}
use Rattle.deadlock.proofs.pattern.completes.Goals as goal
use Rattle.deadlock.proofs.pattern.completes.Goals.{After-number-e}

pub loop-i-init : goal.loop-i-init
loop-i-init c =
    let σ = decode_all c.args.trace.now.records.bytes.now in
    let is = c.start-chain.ensures in
    let last = ap (λ (x : Chain). x.last) is in (
      ap (λ (x : Chain). x.first) is,
      rw last c.requires.0,
      rw last c.requires.1,
      rw last c.requires.2,
      ap (λ (x : Chain). completing σ x (drop 1 (numbers c.args.bytes.now))) is,
    )

-- What the numbers from a place on must complete, by the next one.
next : (c : goal.After-number-e) → let σ = decode_all c.args.trace.now.records.bytes.now in
    let k = c.loop-i in
    let ns = numbers c.args.bytes.now in
    let e = c.number-e.result in
    let chain = of_events [] k.chain in
    completing σ chain (drop k.i ns)
    ≡ (joins σ chain e && completing σ (add (signature σ) chain e) (drop (k.i + 1) ns))
next c =
    let k = c.loop-i in
    let ns = numbers c.args.bytes.now in
    let size = numbers-length c.args.bytes.now in
    rw c.number-e.ensures (completing_next (decode_all c.args.trace.now.records.bytes.now) ns
    (of_events [] k.chain) k.i (omega (arith, c.loop-i-test.true)))

pub returns-then-not-joins : goal.returns-then-not-joins
returns-then-not-joins c =
    let no = sym c.joins.ensures ∙ c.if-not-joins.true in
    sym (rw no at (next (goal.at.returns-then-not-joins c).After-number-e)) ∙ c.loop-i.invariant.4

pub add-chain-requires : goal.add-chain-requires
add-chain-requires c =
    let z = joins-event _ _ _ (sym c.joins.ensures ∙ c.if-not-joins.false) in (z.0, z.1)

pub loop-i-preserved : goal.loop-i-preserved
loop-i-preserved c =
    let yes = sym c.joins.ensures ∙ c.if-not-joins.false in
    let σ = decode_all c.args.trace.now.records.bytes.now in
    let rest = drop (c.loop-i.i + 1) (numbers c.args.bytes.now) in
    let z = joins-event c.args.trace.now.records.bytes.now _ _ yes in
    let is = c.add-chain.ensures [] in
    let last = ap (λ (x : Chain). x.last) is in (
      ap (λ (x : Chain). x.first) is ∙ c.loop-i.invariant.0,
      rw last z.0,
      rw last z.1,
      rw last z.2,
      ap (λ (x : Chain). completing σ x rest) is
          ∙ sym (rw yes at (next (goal.at.loop-i-preserved c).After-number-e)) ∙ c.loop-i.invariant.4,
    )

pub returns : goal.returns
returns c =
    let k = c.loop-i in
    let count = numbers-length c.args.bytes.now in
    c.closes.ensures
    ∙ sym (completing_last (decode_all c.args.trace.now.records.bytes.now) (numbers c.args.bytes.now)
    (of_events [] k.chain) k.i (omega (arith, c.loop-i-test.false))) ∙ k.invariant.4
