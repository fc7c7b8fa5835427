-- `deadlock::write_behind` meets its contract: the events passed are written. Assumes nothing.
use Prim.Native.Nat.{ℕ, ◌+◌, ◌≤◌}
use mathlib.Core.Path.{◌≡◌, ap, ◌∙◌}
use native.Mathlib.Omega.{arith}
use lib.ListN.{length}
use lib.Seq.{sets}
use Rattle.model.specs.Bytes.{encode}
use Rattle.model.specs.Recording.{decode_all}
use Rattle.laws.proofs.Bytes.{encode-length}
use Rattle.laws.proofs.Trace.{decode_all-length}
use Rattle.deadlock.specs.Judged.{behind_below}
use Rattle.deadlock.proofs.Written.{behind_mono, written_at, written_more}
use Rattle.deadlock.proofs.write_behind.Goals as goal

pub write_one-at-requires : goal.write_one-at-requires
write_one-at-requires c =
    let k = c.loop-e in
    let σ = decode_all c.args.trace.now.records.bytes.now in
    let front = c.args.frontier.now.front in
    let size = decode_all-length c.args.trace.now.records.bytes.now in
    let inside : k.e ≤ length σ = omega (arith, c.loop-e-test.true, c.len-e-end.ensures) in (
      k.auto.e,
      omega arith,
      omega (arith, c.args.trace.now.records.short),
      omega (
        arith,
        written_at σ front k.e k.auto.e k.out k.at k.invariant.0,
        encode-length (behind_below σ front (k.e + 1)),
        behind_mono σ front (k.e + 1) (length σ + 1) (omega arith),
        c.requires,
        k.auto.out,
      ),
    )

pub loop-e-preserved : goal.loop-e-preserved
loop-e-preserved c =
    let k = c.loop-e in
    let σ = decode_all c.args.trace.now.records.bytes.now in
    let front = c.args.frontier.now.front in
    let w = c.write_one-at.ensures in (
      w.0 ∙ written_at σ front k.e k.auto.e k.out k.at k.invariant.0,
      w.1 ∙ rw k.invariant.1 (written_more σ front k.e k.auto.e c.args.out.now k.at k.invariant.0),
    )

pub returns : goal.returns
returns c =
    let k = c.loop-e in
    let σ = decode_all c.args.trace.now.records.bytes.now in
    let size = decode_all-length c.args.trace.now.records.bytes.now in
    let last : k.e ≡ length σ + 1 = omega (arith, c.loop-e-test.false, k.auto.e-end, c.len-e-end.ensures) in
    k.invariant.1 ∙ ap (λ (e : ℕ). sets c.args.out.now 0
    (encode (behind_below σ c.args.frontier.now.front e))) last
