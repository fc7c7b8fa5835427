-- The witness call from the trace on: what is delivered of a frontier's schedule, and the answer by what is
-- decided of the lent pattern. Assumes nothing.
use Prim.Native.Nat.{ℕ, ◌*◌, ◌≤◌, ◌<◌}
use mathlib.Core.Path.{◌≡◌, sym}
use Rattle.std.specs.Prelude.{Some, None, Ok, Err}
use Rattle.model.specs.declared.Question.TheVariants.{OutputLength}
use Rattle.model.specs.declared.Verdict.TheVariants.{Not, Deadlock}
use mathlib.Core.List.{List}
use native.Mathlib.Omega.{arith}
use lib.ListN.{length}
use lib.Seq.{sets}
use borrow.Author.Tests.{le-leb, lt-leb}
use Rattle.model.specs.Bytes.{encode, numbers}
use Rattle.model.specs.Trace.{Trace}
use Rattle.laws.specs.Answered.{refused_witness}
use Rattle.laws.proofs.Bytes.{encode-length}
use Rattle.laws.proofs.Parts.{sets-written}
use Rattle.deadlock.specs.Judged.{judged, Reached, behind}
use Rattle.deadlock.specs.Delivered.{delivered, delivered_out, answer_by, witness_from, witness_out_from}
use Rattle.deadlock.proofs.Written.{behind_schedule}

-- ---- question 13

module _ (ns out : List ℕ) (n : ℕ) (count : n ≡ length ns) where
  -- The numbers do not fit.
  pub delivered_short : length out < 2 * n
      → (delivered (encode ns) (length out) ≡ Err OutputLength) × (delivered_out (encode ns) out ≡ out)
  unfolding delivered delivered_out
  delivered_short h =
      let short = lt-leb (length (encode ns)) (length out) (omega (arith, encode-length ns)) in
      (rw short, rw short)

  -- They are written.
  pub delivered-written : 2 * n ≤ length out
      → (delivered (encode ns) (length out) ≡ Ok (2 * n))
      × (delivered_out (encode ns) out ≡ sets out 0 (encode ns))
  unfolding delivered delivered_out
  delivered-written h =
      let size : length (encode ns) ≡ 2 * n = omega (arith, encode-length ns) in
      let room = le-leb (length (encode ns)) (length out) (omega arith) in
      (rw (room, size), rw room (sym (sets-written (encode ns) out (omega arith))))

-- ---- question 10, and the verdict

module _ (σ : Trace) (p out : List ℕ) where
  -- What is answered and what is written by what is decided: of bytes that are no pattern,
  pub witness_from-none : judged σ p ≡ None
      → (refused_witness 10 0 ≡ witness_from σ p (length out)) × (out ≡ witness_out_from σ p out)
  unfolding witness_from witness_out_from
  witness_from-none q = (rw q, rw q)

  -- of a pattern with the verdict "not",
  pub witness_from-not : judged σ p ≡ Some Not
      → (refused_witness 0 0 ≡ witness_from σ p (length out)) × (out ≡ witness_out_from σ p out)
  unfolding witness_from witness_out_from
  witness_from-not q = (rw q, rw q)

  -- and of a deadlock, whose schedule is delivered from the frontier of its predecessors.
  pub witness_from_deadlock : judged σ p ≡ Some Deadlock → (front : List ℕ) → Reached σ (numbers p) front
      → (answer_by (Some Deadlock) (delivered (encode (behind σ front)) (length out))
      ≡ witness_from σ p (length out))
      × (delivered_out (encode (behind σ front)) out ≡ witness_out_from σ p out)
  unfolding witness_from witness_out_from
  witness_from_deadlock q front z =
      let same = behind_schedule σ (numbers p) front z in (rw (q, same), rw (q, same))
