-- `recording::Past::ask` meets its contract: each return cites the law of its case. Assumes nothing.
use Prim.Native.Nat.{ℕ}
use mathlib.Core.Path.{◌≡◌, refl, sym, ◌∙◌}
use native.Mathlib.Omega.{arith}
use Rattle.model.specs.Trace.{at}
use Rattle.model.specs.Recording.{decode_all}
use Rattle.laws.proofs.Operations.{enters_is, leaves_is}
use Rattle.laws.proofs.Results.{passed_on}
use Rattle.recording.proofs.Laws.{Coming, read_refused, read_passed, written, acquire_refused, acquired}
use Rattle.recording.proofs.Laws.{release_refused, released, code_last}
use Rattle.recording.proofs.Past.ask.Goals as goal
use Rattle.recording.proofs.Past.ask.Goals.{After-operation, In_default-op}

-- The event with its operation.
unpacked : (c : goal.After-operation) {op : ℕ}
    → op ≡ (at (decode_all c.args.records.now.bytes.now) c.args.e).op
    → Coming (decode_all c.args.records.now.bytes.now) c.args.e op c.object-at.result c.args.self.now
unpacked c is = record { op_is = is; object_is = c.object-at.ensures; done = c.requires.2 }

pub returns-then-self-at-eq0 : goal.returns-then-self-at-eq0
returns-then-self-at-eq0 c =
    read_refused (unpacked (goal.at.returns-then-self-at-eq0 c).After-operation c.in-Read.ensures) refl
    c.if-self-at-eq0.true

pub returns-else-self-at-eq0 : goal.returns-else-self-at-eq0
returns-else-self-at-eq0 c =
    read_passed (unpacked (goal.at.returns-else-self-at-eq0 c).After-operation c.in-Read.ensures) refl
    c.if-self-at-eq0.false

pub returns-in-Write : goal.returns-in-Write
returns-in-Write c =
    written (unpacked (goal.at.returns-in-Write c).After-operation c.in-Write.ensures) refl

pub enter-requires : goal.enter-requires
enter-requires c =
    let s = c.requires in
    let entered = enters_is _ _ c.in-Acquire.ensures (omega (arith, c.if-at-ge64.false, c.object-at.ensures))
    refl in
    (s.0, s.1, entered, c.if-at-ge64.false, c.object-at.ensures.1, s.2.holder)

pub returns-in_err-enter-in-Acquire : goal.returns-in_err-enter-in-Acquire
returns-in_err-enter-in-Acquire c =
    let u = unpacked (goal.at.returns-in_err-enter-in-Acquire c).After-operation c.in-Acquire.ensures in
    rw (passed_on c.from_residual.result _ c.from_residual.ensures.1)
    (acquire_refused u c.if-at-ge64.false refl _ c.in_err-enter-in-Acquire.ensures.fault)

pub returns-in_ok-enter-in-Acquire : goal.returns-in_ok-enter-in-Acquire
returns-in_ok-enter-in-Acquire c =
    let u = unpacked (goal.at.returns-in_ok-enter-in-Acquire c).After-operation c.in-Acquire.ensures in
    let y = c.in_ok-enter-in-Acquire.ensures in
    acquired u c.if-at-ge64.false refl c.enter.new.self y.fault y.held

-- What is left is a release.
release : (c : goal.In_default-op) → 3 ≡ (at (decode_all c.args.records.now.bytes.now) c.args.e).op
release c =
    let d = c.in_default in
    sym (code_last c.operation.result d.not-Read d.not-Write c.in_default-op.not-Acquire)
    ∙ c.operation.ensures

pub leave-requires : goal.leave-requires
leave-requires c =
    let s = c.requires in
    let left = leaves_is _ _ (release (goal.at.leave-requires c).In_default-op)
    (omega (arith, c.if-at-ge64.false, c.object-at.ensures)) refl in
    (s.0, s.1, left, c.if-at-ge64.false, c.object-at.ensures.1, s.2.holder)

pub returns-in_err-leave-in_default-op : goal.returns-in_err-leave-in_default-op
returns-in_err-leave-in_default-op c =
    let o = goal.at.returns-in_err-leave-in_default-op c in
    let passed = c.from_residual-in_err-leave-in_default-op in
    rw (passed_on passed.result _ passed.ensures.1)
    (release_refused (unpacked o.After-operation (release o.In_default-op)) c.if-at-ge64.false refl _
    c.in_err-leave-in_default-op.ensures.fault)

pub returns-in_ok-leave-in_default-op : goal.returns-in_ok-leave-in_default-op
returns-in_ok-leave-in_default-op c =
    let o = goal.at.returns-in_ok-leave-in_default-op c in
    let y = c.in_ok-leave-in_default-op.ensures in
    released (unpacked o.After-operation (release o.In_default-op)) c.if-at-ge64.false refl c.leave.new.self
    y.fault y.held
