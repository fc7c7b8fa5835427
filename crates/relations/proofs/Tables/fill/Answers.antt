-- `relations::Tables::fill` meets its contract: before each event the earlier ones are noted.
-- Assumes nothing.
use native.Mathlib.Omega.{arith}
use Rattle.model.specs.Recording.{decode_all}
use Rattle.relations.proofs.Rows.{noted_end}
use Rattle.relations.proofs.Tables.fill.Goals as goal

pub loop-e-init : goal.loop-e-init
loop-e-init c =
    let σ = decode_all c.args.records.now.bytes.now in (
      record { section = c.new-sections.ensures σ; latest = c.new-latest.ensures σ },
      record { at = λ f h k. absurd (omega arith) },
    )

pub returns : goal.returns
returns c =
    let (walked, noted) = c.loop-e.invariant in
    noted_end noted walked (omega (arith, c.len-e-end.ensures, c.loop-e.auto.e-end, c.loop-e-test.false))
