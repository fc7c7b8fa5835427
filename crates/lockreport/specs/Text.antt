-- What the bytes of a listing are to the functions that print them, and how long their text gets.
use Rattle.std.specs.Prelude.{ℕ, ◌+◌, ◌*◌, ◌≡◌, List}
use Rattle.model.specs.Calls.List.{entries}

-- The bytes are the entries of some patterns.
pub record Entries (b : List ℕ) : Type 0 where
  pub patterns : List (List ℕ)
  pub are : b ≡ entries patterns

-- The most that the text of a listing of n bytes takes: five bytes for each, and thirty for the last line.
abbrev pub text_length : ℕ → ℕ
text_length n = 5 * n + 30
