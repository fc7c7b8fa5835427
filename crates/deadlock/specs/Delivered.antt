-- The witness call of a recording that is accepted, from its trace on. That it is the call's answer and
-- output, which `model` defines from the bytes, is in proofs/Answers.
use Rattle.std.specs.Prelude.{ℕ, true, cond, List, leb, length, Option, Some, None, Result, Ok, Err}
use Rattle.model.specs.declared.Question.{Question}
use Rattle.model.specs.declared.Question.TheVariants.{OutputLength}
use Rattle.model.specs.declared.Verdict.{Verdict}
use Rattle.model.specs.declared.Verdict.TheVariants.{Not, Deadlock}
use Rattle.model.specs.Refused.{number}
use Rattle.model.specs.Answers.{Witness}
use Rattle.model.specs.Bytes.{encode, numbers, written}
use Rattle.model.specs.Trace.{Trace}
use Rattle.model.specs.Calls.Witness.{least_schedule}
use Rattle.laws.specs.Answered.{refused_witness}
use Rattle.deadlock.specs.Judged.{judged}

-- What is delivered of a schedule that takes these bytes, for an output of `room` bytes: their number, or
-- question 13.
unfoldable pub delivered : List ℕ → ℕ → Result ℕ Question
delivered bytes room = cond (leb (length bytes) room) (Ok (length bytes)) (Err OutputLength)

-- The output afterwards.
unfoldable pub delivered_out : List ℕ → List ℕ → List ℕ
delivered_out bytes out = cond (leb (length bytes) (length out)) (written bytes out) out

-- The answer where so much is decided, and where that is deadlock so much is delivered.
abbrev pub answer_by : Option Verdict → Result ℕ Question → Witness
answer_by None d = refused_witness 10 0
answer_by (Some Not) d = refused_witness 0 0
answer_by (Some Deadlock) (Ok bytes) = record { refusal = 0; event = 0; deadlock = true; bytes = bytes }
answer_by (Some Deadlock) (Err q) = refused_witness (number q) 0

-- The output where so much is decided, and where that is deadlock it is this one afterwards.
abbrev pub output_by : Option Verdict → List ℕ → List ℕ → List ℕ
output_by None after out = out
output_by (Some Not) after out = out
output_by (Some Deadlock) after out = after

-- The answer for the bytes of a pattern: question 10, and the verdict before question 13.
unfoldable pub witness_from : Trace → List ℕ → ℕ → Witness
witness_from σ p room = answer_by (judged σ p) (delivered (encode (least_schedule σ (numbers p))) room)

-- The output afterwards: as before, unless the verdict is deadlock.
unfoldable pub witness_out_from : Trace → List ℕ → List ℕ → List ℕ
witness_out_from σ p out =
    output_by (judged σ p) (delivered_out (encode (least_schedule σ (numbers p))) out) out
