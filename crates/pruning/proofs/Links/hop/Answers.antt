-- `pruning::Links::hop` meets its contract: no acquire of a block that was passed over is near. Assumes
-- nothing.
use mathlib.Core.Path.{refl, sym, ◌∙◌}
use native.Mathlib.Omega.{arith}
use Rattle.model.specs.Recording.{decode_all}
use Rattle.laws.proofs.Trace.{decode_all-length}
use Rattle.pruning.specs.Linked.{is_nested}
use Rattle.pruning.proofs.Walks.{walked-start, walked-next, walked_last}
use Rattle.pruning.proofs.Blocks.{nested_near, near_missed}
use Rattle.pruning.proofs.Links.hop.Goals as goal

pub loop-x-init : goal.loop-x-init
loop-x-init c =
    walked-start _ _ c.args.e
    (omega (arith, c.requires.1, decode_all-length c.args.self.now.trace.now.records.bytes.now))

pub link-requires : goal.link-requires
link-requires c =
    omega (arith, c.loop-x.invariant.high, decode_all-length c.args.self.now.trace.now.records.bytes.now)

pub bounds-self-x : goal.bounds-self-x
bounds-self-x c =
    let trace = c.args.self.now.trace.now in
    let (d, y) = c.in-Some.ensures in
    omega (arith, (y.passes d).1, decode_all-length trace.records.bytes.now, trace.records.short)

pub returns-then-len-at : goal.returns-then-len-at
returns-then-len-at c =
    let links = c.args.self.now in
    let σ = decode_all links.trace.now.records.bytes.now in
    let n = sym c.in_mask.ensures ∙ c.if-in_mask.false in
    let (d, y) = c.in-Some.ensures in
    walked_last _ (is_nested σ) (nested_near σ links.blocks c.args.l)
    c.loop-x.invariant d y _ (near_missed σ links.blocks c.args.l c.in-Some.x n _ refl)
    (omega (arith, c.if-len-at.true, c.len.ensures))

pub loop-x-preserved : goal.loop-x-preserved
loop-x-preserved c =
    let links = c.args.self.now in
    let σ = decode_all links.trace.now.records.bytes.now in
    let n = sym c.in_mask.ensures ∙ c.if-in_mask.false in
    let (d, y) = c.in-Some.ensures in
    walked-next _ (is_nested σ) (nested_near σ links.blocks c.args.l)
    c.loop-x.invariant d y _ (near_missed σ links.blocks c.args.l c.in-Some.x n _ refl)
    (omega arith) (omega (arith, c.if-len-at.false, c.len.ensures))
