-- The answers of the verdict and the witness call, by what is decided of the lent pattern. Assumes nothing.
use Prim.Native.Nat.{ℕ}
use mathlib.Core.Path.{◌≡◌}
use mathlib.Core.Logic.{◌≢◌}
use mathlib.Core.Bool.{false, ◌&&◌}
use mathlib.Core.List.{List}
use native.Mathlib.Omega.{arith}
use Rattle.std.proofs.Common.{ok_or}
use lib.Dec.{leb}
use lib.ListN.{length}
use borrow.Author.Tests.{eq-eqb, ne_eqb, le-leb}
use Rattle.model.specs.Bytes.{encode, numbers, is_whole}
use Rattle.model.specs.declared.Question.TheVariants.{Pattern}
use Rattle.model.specs.Refused.{refusal}
use Rattle.model.specs.Answers.{verdict_of}
use Rattle.model.specs.Recording.{trace}
use Rattle.model.specs.Pattern.{is_pattern, is_deadlock}
use Rattle.model.specs.Calls.Questions.{lends_pattern, fits_output}
use Rattle.model.specs.Calls.Check.{check}
use Rattle.model.specs.Calls.Verdict.{verdict_refusal, verdict}
use Rattle.model.specs.Calls.Witness.{least_schedule, witness_bytes, witness_refusal, witness, witness_out}
use Rattle.laws.specs.Answered.{refused_witness}
use Rattle.laws.proofs.Tests.{decided}
use Rattle.deadlock.specs.Judged.{judged}
use Rattle.deadlock.specs.Delivered.{delivered, delivered_out, witness_from, witness_out_from}

module _ (b p : List ℕ) where
  -- ---- the verdict

  -- A recording that is refused.
  pub verdict_unchecked : (check b).refusal ≢ 0
      → verdict b p ≡ record { refusal = (check b).refusal; event = (check b).event; deadlock = false }
  unfolding verdict verdict_refusal
  verdict_unchecked d = rw (ne_eqb (check b).refusal 0 d, ne_eqb (check b).refusal 0 d)

  -- Of an accepted one what is decided of the bytes.
  pub verdict_accepted : (check b).refusal ≡ 0
      → verdict_of (ok_or (judged (trace b) p) (refusal Pattern 0)) ≡ verdict b p
  unfolding verdict verdict_refusal lends_pattern judged
  verdict_accepted c =
      let y = eq-eqb (check b).refusal 0 c in
      decided (is_whole p && is_pattern (trace b) (numbers p))
      (λ w. decided (is_deadlock (trace b) (numbers p)) (λ d. rw (y, w, d)) (λ n. rw (y, w, n)))
      (λ n. rw (y, n))

  -- ---- the witness

  -- A recording that is refused.
  pub witness_unchecked : (out : List ℕ) → (check b).refusal ≢ 0
      → (witness b p (length out) ≡ refused_witness (check b).refusal (check b).event) ×
      (witness_out b p out ≡ out)
  unfolding witness witness_out witness_refusal verdict_refusal
  witness_unchecked out d =
      let n = ne_eqb (check b).refusal 0 d in (rw (n, n, n), rw (n, n, n))

  -- Of an accepted one the events decide.
  pub witness_accepted : (out : List ℕ) → (check b).refusal ≡ 0
      → (witness b p (length out) ≡ witness_from (trace b) p (length out))
      × (witness_out b p out ≡ witness_out_from (trace b) p out)
  unfolding witness witness_out witness_refusal verdict_refusal lends_pattern witness_bytes fits_output
      witness_from witness_out_from delivered delivered_out judged
  witness_accepted out c =
      let y = eq-eqb (check b).refusal 0 c in
      let room = le-leb 0 (length out) (omega arith) in
      decided (is_whole p && is_pattern (trace b) (numbers p))
      (λ w. decided (is_deadlock (trace b) (numbers p))
      (λ d. decided (leb (length (encode (least_schedule (trace b) (numbers p)))) (length out))
      (λ l. (rw (y, w, d, l), rw (y, w, d, l)))
      (λ l. (rw (y, w, d, l), rw (y, w, d, l))))
      (λ n. (rw (y, w, n, room), rw (y, w, n, room))))
      (λ n. (rw (y, n), rw (y, n)))
