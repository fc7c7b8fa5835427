-- `listing::size::SizeTryFromU64::try_from` meets its contract: each return cites the law of its case.
-- Assumes nothing.
use native.Mathlib.Omega.{arith}
use Rattle.listing.proofs.Answers.{size_default, size_low, size_high, size_itself}
use Rattle.listing.proofs.size.SizeTryFromU64.try_from.Goals as goal

pub returns-in-0 : goal.returns-in-0
returns-in-0 c = size_default c.args.largest c.in-0.is

pub returns-in-2-to-16 : goal.returns-in-2-to-16
returns-in-2-to-16 c = size_itself c.args.largest (omega arith) (omega arith)

pub returns-in_default : goal.returns-in_default
returns-in_default c = size_low c.args.largest (λ q. omega (arith, q, c.in_default)) (omega arith)

pub returns-in_default-2 : goal.returns-in_default-2
returns-in_default-2 c = size_high c.args.largest (omega arith)
