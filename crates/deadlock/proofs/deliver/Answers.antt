-- `deadlock::deliver` meets its contract: two bytes for each event in the frontier's set, written where they
-- fit. Assumes nothing.
use mathlib.Core.Path.{sym, ◌∙◌}
use native.Mathlib.Omega.{arith}
use Rattle.model.specs.Recording.{decode_all}
use Rattle.deadlock.specs.Judged.{behind}
use Rattle.deadlock.proofs.Delivered.{delivered_short, delivered-written}
use Rattle.deadlock.proofs.deliver.Goals as goal

pub returns-then-out-bytes : goal.returns-then-out-bytes
returns-then-out-bytes c =
    let a = c.args in
    let (x, y) =
    delivered_short (behind (decode_all a.trace.now.records.bytes.now) a.frontier.now.front) a.out.now _
    c.count_behind-bytes.ensures.1 (omega (arith, c.if-out-bytes.true)) in
    record { answer = sym x; output = sym y }

pub returns : goal.returns
returns c =
    let a = c.args in
    let (x, y) =
    delivered-written (behind (decode_all a.trace.now.records.bytes.now) a.frontier.now.front) a.out.now _
    c.count_behind-bytes.ensures.1
    (omega (arith, c.if-out-bytes.false)) in
    record { answer = sym x; output = c.write_behind.ensures ∙ sym y }
