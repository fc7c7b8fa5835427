-- `deadlock::pattern::begins` meets its contract: the number's range, and what it is the number of.
-- Assumes nothing.
use Prim.Native.Nat.{◌≤◌}
use native.Mathlib.Omega.{arith}
use lib.ListN.{length}
use Rattle.model.specs.Recording.{decode_all}
use Rattle.laws.proofs.Trace.{is_event_true, is_event_false, decode_all-length}
use Rattle.deadlock.proofs.pattern.begins.Goals as goal

pub returns-then-e-eq0 : goal.returns-then-e-eq0
returns-then-e-eq0 c =
    let a = c.args in
    rw (is_event_false (decode_all a.trace.now.records.bytes.now) a.e (λ h. omega (arith, c.if-e-eq0.true)))

pub returns-then-len-e : goal.returns-then-len-e
returns-then-len-e c =
    let a = c.args in
    rw (is_event_false (decode_all a.trace.now.records.bytes.now) a.e
    (λ h. omega (arith, c.if-len-e.true, c.len.ensures)))

pub is_acquire-requires : goal.is_acquire-requires
is_acquire-requires c =
    let first : 1 ≤ c.args.e = omega (arith, c.if-e-eq0.false) in
    let last : c.args.e ≤ length (decode_all c.args.trace.now.records.bytes.now) =
    omega (arith, c.if-len-e.false, c.len.ensures) in
    let size = decode_all-length c.args.trace.now.records.bytes.now in
    (first, omega (arith, last, size), c.args.trace.now.records.accepted, c.held.ensures)

pub returns : goal.returns
returns c =
    let event = is_event_true (decode_all c.args.trace.now.records.bytes.now) c.args.e
    (omega (arith, c.if-e-eq0.false)) (omega (arith, c.if-len-e.false, c.len.ensures)) in
    rw event c.is_acquire.ensures
