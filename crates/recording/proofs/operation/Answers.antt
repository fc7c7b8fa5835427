-- `recording::operation` meets its contract: the top 2 bits of an event's first byte are its operation.
-- Assumes nothing.
use Prim.Native.Nat.{◌*◌, ◌-◌}
use native.Mathlib.Omega.{arith}
use Rattle.laws.proofs.Trace.{record_op}
use Rattle.recording.proofs.operation.Goals as goal

pub returns-in-0-to-63 : goal.returns-in-0-to-63
returns-in-0-to-63 c =
    let a = c.args in omega (arith, c.in-0-to-63, record_op a.records.now a.e c.requires.0 c.requires.1)

pub returns-in-64-to-127 : goal.returns-in-64-to-127
returns-in-64-to-127 c =
    let a = c.args in omega (arith, c.in-64-to-127, record_op a.records.now a.e c.requires.0 c.requires.1)

pub returns-in-128-to-191 : goal.returns-in-128-to-191
returns-in-128-to-191 c =
    let a = c.args in omega (arith, c.in-128-to-191, record_op a.records.now a.e c.requires.0 c.requires.1)

pub returns-in_default : goal.returns-in_default
returns-in_default c =
    let a = c.args in
    omega (
      arith,
      c.in_default,
      c.type_inv.records (2 * (a.e - 1)),
      record_op a.records.now a.e c.requires.0 c.requires.1,
    )
