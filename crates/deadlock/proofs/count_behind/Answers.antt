-- `deadlock::count_behind` meets its contract: the events passed are counted. Assumes nothing.
use Prim.Native.Nat.{ℕ, ◌+◌}
use mathlib.Core.Path.{◌≡◌, sym, ap, ◌∙◌}
use mathlib.Core.List.{◌∷◌, []}
use native.Mathlib.Omega.{arith}
use lib.ListN.{length, length-append}
use Rattle.model.specs.Recording.{decode_all}
use Rattle.laws.proofs.Trace.{decode_all-length}
use Rattle.deadlock.specs.Judged.{behind_below}
use Rattle.deadlock.proofs.Written.{behind_more, behind_same, behind-count}
use Rattle.deadlock.proofs.count_behind.Goals as goal
use Rattle.deadlock.proofs.count_behind.Goals.{then-contains, else-contains}

pub overflow_add-count : goal.overflow_add-count
overflow_add-count c =
    let k = c.loop-e in
    omega (
      arith,
      behind-count (decode_all c.args.trace.now.records.bytes.now) c.args.frontier.now.front k.e k.auto.e,
      c.loop-e-test.true,
      c.len-e-end.ensures,
    )

pub loop-e-preserved : goal.loop-e-preserved
loop-e-preserved c =
    let k = c.loop-e in
    let σ = decode_all c.args.trace.now.records.bytes.now in
    let front = c.args.frontier.now.front in
    let is = c.contains.ensures in
    elim c.if-contains.branch [
      | then-contains w ↦ w.count-is ∙ omega (
        arith,
        k.invariant,
        ap length (behind_more σ front k.e k.auto.e (sym is ∙ w.if-contains.true)),
        length-append (behind_below σ front k.e) (k.e ∷ []),
      )
      | else-contains w ↦ w.count-is ∙ k.invariant ∙ ap length (sym (behind_same σ front k.e k.auto.e
          (sym is ∙ w.if-contains.false)))
    ]

pub returns : goal.returns
returns c =
    let k = c.loop-e in
    let σ = decode_all c.args.trace.now.records.bytes.now in
    let size = decode_all-length c.args.trace.now.records.bytes.now in
    let last : k.e ≡ length σ + 1 = omega (arith, c.loop-e-test.false, k.auto.e-end, c.len-e-end.ensures) in (
      omega (
        arith,
        k.invariant,
        behind-count σ c.args.frontier.now.front k.e k.auto.e,
        c.args.trace.now.records.short,
      ),
      k.invariant ∙ ap (λ (e : ℕ). length (behind_below σ c.args.frontier.now.front e)) last,
    )
