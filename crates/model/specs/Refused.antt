-- The numbers of refusals.
use Rattle.std.specs.Prelude.{ℕ}
use Rattle.model.specs.declared.Question.{Question}
use Rattle.model.specs.declared.Question.TheVariants.{TwoBytes, Format, Length, Object, LockFree, LockHeld}
use Rattle.model.specs.declared.Question.TheVariants.{Written, LargestSize, EventNumber, Pattern, SetLength}
use Rattle.model.specs.declared.Question.TheVariants.{SpareBits, OutputLength, LockNumber, TaskNew, TaskOpen}
use Rattle.model.specs.declared.Refusal.{Refusal}

-- The number that 01 gives where a question is answered "no".
abbrev pub number : Question → ℕ
number TwoBytes = 1
number Format = 2
number Length = 3
number Object = 4
number LockFree = 5
number LockHeld = 6
number Written = 7
number LargestSize = 8
number EventNumber = 9
number Pattern = 10
number SetLength = 11
number SpareBits = 12
number OutputLength = 13
number LockNumber = 14
number TaskNew = 15
number TaskOpen = 16

-- A refusal by a question, with the event that caused it.
abbrev pub refusal : Question → ℕ → Refusal
refusal q e = record { question = q; event = e }
