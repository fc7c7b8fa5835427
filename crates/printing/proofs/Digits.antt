-- How many digits a number has. Assumes nothing.
use Prim.Native.Nat.{ℕ, ◌-◌, ◌^◌, ◌≤◌, ◌<◌}
use mathlib.Core.Logic.{⊎_elim}
use native.Mathlib.Omega.{arith}
use native.Mathlib.Nat.{pow-le-pow_right}
use Rattle.io.specs.Digits.{IsDigitCount}
use Rattle.laws.proofs.Tests.{at-most?}

-- A number that m digits hold has no more of them.
pub digits_le : (n k m : ℕ) → 1 ≤ m → n < 10 ^ m → IsDigitCount 10 1 n k → k ≤ m
digits_le n k m h l few = ⊎_elim (λ (y : k ≤ m). y) over (at-most? k m)
  where
    below : m < k → m ≤ k - 1
    below y = omega arith

    over : m < k → k ≤ m
    over y =
        let low : 10 ^ (k - 1) ≤ n = few.2 (omega arith) in
        let high : 10 ^ m ≤ 10 ^ (k - 1) = pow-le-pow_right {n = 10} (omega arith) (below y) in
        absurd (omega arith)
