-- Rows of bits, in elements of w bits: the first in the top bit of the first element, as in a lent event set
-- (w is 8) and in its words (w is 64). Places are counted from 0.
use Rattle.std.specs.Prelude.{ℕ, ◌-◌, ◌/◌, ◌%◌, Bool, List, get_or}
use Rattle.model.specs.Lists.{has_bit}

-- The bit at place i of a row in elements of w bits.
abbrev pub row_bit : ℕ → List ℕ → ℕ → Bool
row_bit w b i = has_bit (get_or b (i / w) 0) (w - 1 - i % w)
