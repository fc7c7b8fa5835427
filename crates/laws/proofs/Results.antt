-- What a `?` returns where it passes on an error of the same type, and what a result says of the check
-- that it tells. Assumes nothing.
use Rattle.std.specs.Prelude.{◌≡◌, ◌≢◌, Result, Ok, Err, refl}
use Rattle.std.specs.Result.{IsErrAnd}
use Prim.Native.Nat.{ℕ, ◌≤◌}
use mathlib.Core.List.{List}
use mathlib.Core.Path.{ap, sym, ◌∙◌}
use lib.ListN.{length}
use native.Mathlib.Omega.{arith}
use Rattle.model.specs.declared.Refusal.{Refusal}
use Rattle.model.specs.Answers.{Outcome}
use Rattle.model.specs.Refused.{number}
use Rattle.model.specs.Calls.Check.{check}
use Rattle.laws.proofs.Numbers.{number_positive}
use Rattle.laws.proofs.Questions.{check_bytes}

-- It is that error.
pub passed_on : {T E : Type 0} (r : Result T E) (q : E) → IsErrAnd r (λ x. x ≡ q) → r ≡ Err q
passed_on (Ok a) q h = elim h [ ]
passed_on (Err x) q h = rw h refl

-- ---- the check

-- An error is a refusal,
pub is_refused : (r : Refusal) (o : Outcome) → record { refusal = number r.question; event = r.event } ≡ o
    → o.refusal ≢ 0
is_refused r o q n =
    absurd (omega (arith, number_positive r.question, ap (λ (x : Outcome). x.refusal) q ∙ n))

-- what is no error none,
pub is_passed : (o : Outcome) → record { refusal = 0; event = 0 } ≡ o → o.refusal ≡ 0
is_passed o q = sym (ap (λ (x : Outcome). x.refusal) q)

-- and then the recording has the two bytes of a header.
pub passed_bytes : (b : List ℕ) → record { refusal = 0; event = 0 } ≡ check b → 2 ≤ length b
passed_bytes b q = (check_bytes b (is_passed (check b) q)).0
