-- Request 8 of 02, the statement alone: a lock's load is 100 × h / n rounded to nearest, halves to even. It
-- speaks of what the call returns; the quotient and the rest of the definition do not occur here.
use Rattle.std.specs.Prelude.{ℕ, ◌+◌, ◌-◌, ◌*◌, ◌%◌, ◌≤◌, ◌≡◌, ◌≢◌, List, length}
use Rattle.model.specs.Recording.{trace}
use Rattle.model.specs.Calls.Load.{held_events, load}

-- By how much two numbers differ; a difference of numbers is 0 where the second is the larger.
abbrev pub distance : ℕ → ℕ → ℕ
distance a b = (a - b) + (b - a)

-- The number x is 100 × h / n, rounded: both are taken n times, so that all are whole numbers.
pub record Rounded (h n x : ℕ) : Type 0 where
  -- It differs from 100 × h / n by at most a half,
  pub nearest : 2 * distance (x * n) (100 * h) ≤ n
  -- and is even where it differs by exactly a half.
  pub even : 2 * distance (x * n) (100 * h) ≡ n → x % 2 ≡ 0

-- The request's clauses, for the recording b and the lock l.
pub record Rounding (b : List ℕ) (l : ℕ) : Type 0 where
  -- The per cent is rounded so,
  pub rounded : length (trace b) ≢ 0 → Rounded (held_events (trace b) l) (length (trace b)) (load b l).percent
  -- which is said of no other number;
  pub only : length (trace b) ≢ 0 → (x : ℕ) → Rounded (held_events (trace b) l) (length (trace b)) x
      → x ≡ (load b l).percent
  -- and it is 0 where there is no event.
  pub empty : length (trace b) ≡ 0 → (load b l).percent ≡ 0

-- Request 8, of every load that is not refused.
abbrev pub Request8 : Type 0
Request8 = (b : List ℕ) (l : ℕ) → (load b l).refusal ≡ 0 → Rounding b l
