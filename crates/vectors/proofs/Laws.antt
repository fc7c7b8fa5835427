-- Laws of how long a text gets. Assumes nothing.
use Prim.Native.Nat.{ℕ, ◌+◌, ◌^◌, ◌≤◌, ◌<◌}
use mathlib.Core.Path.{◌≡◌, ap}
use mathlib.Core.List.{List, ◌∷◌, ◌++◌}
use native.Mathlib.Omega.{arith}
use lib.ListN.{length, length-append}
use Rattle.std.specs.Prelude.{decimal}
use Rattle.std.proofs.lemmas.Fmt.{length-decimal-le}

module _ (text text' : List ℕ) (n : ℕ) (h : n < 2 ^ 64) where
  -- A number of 64 bits takes at most twenty bytes,
  pub number_within : text' ≡ text ++ decimal n → length text' ≤ length text + 20
  number_within e =
      let few = length-decimal-le 20 n (omega arith) (omega arith) h in
      omega (arith, few, ap length e, length-append text (decimal n))

  -- and with a space in front at most 21.
  pub spaced_within : text' ≡ text ++ 32 ∷ decimal n → length text' ≤ length text + 21
  spaced_within e =
      let few = length-decimal-le 20 n (omega arith) (omega arith) h in
      omega (arith, few, ap length e, length-append text (32 ∷ decimal n))
