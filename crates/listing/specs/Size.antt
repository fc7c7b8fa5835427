-- The size that a listing's argument asks for.
use Rattle.std.specs.Prelude.{ℕ, cond, Result, Ok, Err}
use Rattle.model.specs.declared.Question.{Question}
use Rattle.model.specs.declared.Question.TheVariants.{LargestSize}
use Rattle.model.specs.Calls.Questions.{is_accepted, permits_size}
use Rattle.model.specs.Calls.List.{largest_size}
use Rattle.listing.specs.declared.size.Size.{Size}

-- The largest size, or question 8 where it is not permitted.
abbrev pub asked_size : ℕ → Result ℕ Question
asked_size k = cond (is_accepted (permits_size k)) (Ok (largest_size k)) (Err LargestSize)

-- How many events a size has, or why there is none.
abbrev pub asked_of : Result Size Question → Result ℕ Question
asked_of (Ok s) = Ok s.events
asked_of (Err q) = Err q
