-- `relations::Tables::blank` meets its contract: arrays of zeros have rows of zeros. Assumes nothing.
use Prim.Native.Nat.{ℕ, ◌≤◌, ◌<◌}
use mathlib.Core.Path.{◌≡◌, refl}
use mathlib.Core.Logic.{⊎_elim}
use lib.ListN.{get_or, replicate, length-replicate, get_or-replicate, get_or-eq_default}
use native.Mathlib.Omega.{arith}
use Rattle.laws.proofs.Tests.{at-most?}
use Rattle.relations.proofs.Tables.blank.Goals as goal

-- An array of zeros has no other entry.
zeros : (n e : ℕ) → get_or {A = ℕ} (replicate n 0) e 0 ≡ 0
zeros n e =
    ⊎_elim
    (λ (p : n ≤ e). get_or-eq_default (replicate n 0) 0 (omega (arith, p, length-replicate {A = ℕ} n 0)))
    (λ (l : e < n). get_or-replicate {A = ℕ} n e 0 0 l)
    (at-most? n e)

pub returns : goal.returns
returns c = λ e. rw (zeros 4096 e) refl
