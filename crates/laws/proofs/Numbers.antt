-- The numbers of questions: none is 0, which stands for no refusal. Assumes nothing.
use Rattle.std.specs.Prelude.{◌<◌}
use native.Mathlib.Omega.{arith}
use Rattle.model.specs.declared.Question.{Question}
use Rattle.model.specs.declared.Question.TheVariants.{TwoBytes, Format, Length, Object, LockFree, LockHeld}
use Rattle.model.specs.declared.Question.TheVariants.{Written, LargestSize, EventNumber, Pattern, SetLength}
use Rattle.model.specs.declared.Question.TheVariants.{SpareBits, OutputLength, LockNumber, TaskNew, TaskOpen}
use Rattle.model.specs.Refused.{number}

-- It is above 0,
pub number_positive : (q : Question) → 0 < number q
number_positive TwoBytes = omega arith
number_positive Format = omega arith
number_positive Length = omega arith
number_positive Object = omega arith
number_positive LockFree = omega arith
number_positive LockHeld = omega arith
number_positive Written = omega arith
number_positive LargestSize = omega arith
number_positive EventNumber = omega arith
number_positive Pattern = omega arith
number_positive SetLength = omega arith
number_positive SpareBits = omega arith
number_positive OutputLength = omega arith
number_positive LockNumber = omega arith
number_positive TaskNew = omega arith
number_positive TaskOpen = omega arith
