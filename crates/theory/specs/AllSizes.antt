-- Request 5 of 02, the statement alone: the size argument 0 stands for 16, so no deadlock is missing because
-- the size was left at 0. It speaks of what the calls return and write, by the definitions of `model`.
use Rattle.std.specs.Prelude.{ℕ, ◌+◌, ◌*◌, ◌≡◌, ◌↔◌, ◌≢◌, length, T}
use mathlib.Core.List.{List, Memᴰ}
use Rattle.model.specs.Recording.{trace}
use Rattle.model.specs.Pattern.{is_pattern}
use Rattle.model.specs.Schedule.{Witnessed}
use Rattle.model.specs.Calls.List.{listing, list, list_out}
use Rattle.model.specs.Calls.Entries.{list_entry}
use Rattle.theory.specs.Claim.{Compared, Claim}

-- The request's clauses, for the recording b and the output `out`.
pub record AllSizes (b out : List ℕ) : Type 0 where
  -- 0 stands for 16: the call returns and writes the same.
  pub answer : list b 0 (length out) ≡ list b 16 (length out)
  pub output : list_out b 0 out ≡ list_out b 16 out
  -- The entry for C passes on what it is given: with every size it returns the bytes that the call with this
  -- size has written, or the number of that call's refusal.
  pub entry_bytes : (k : ℕ) → (list b k (length out)).refusal ≡ 0
      → list_entry b k (length out) ≡ (list b k (length out)).bytes
  pub entry_refusal : (k : ℕ) → (list b k (length out)).refusal ≢ 0
      → list_entry b k (length out)
      ≡ 2 * (65536 * (list b k (length out)).refusal + (list b k (length out)).event) + 1
  -- In an unrefused listing with 0 stands every deadlock pattern, of whatever size, of which some
  -- order-keeping schedule leaves every event next; and nothing else stands there.
  pub stands : (list b 0 (length out)).refusal ≡ 0 → (p : List ℕ)
      → Memᴰ p (listing b 0) ↔ (T (is_pattern (trace b) p) × Witnessed (trace b) p)
  -- Demand 3 compares calls after 0 has been replaced: what it claims of two calls with 16, it claims where
  -- one of them has 0.
  pub short_zero : (long out' : List ℕ) → Compared b long out out' 16 16 → Claim b long out out' 0 16
  pub long_zero : (long out' : List ℕ) → Compared b long out out' 16 16 → Claim b long out out' 16 0

-- Request 5.
abbrev pub Request5 : Type 0
Request5 = (b out : List ℕ) → AllSizes b out
