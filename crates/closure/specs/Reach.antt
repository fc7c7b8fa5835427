-- The frontier of the closure of a set in words.
use Rattle.std.specs.Prelude.{ℕ, ◌-◌, ◌≤◌, ◌≡◌, List, leb, length, get_or}
use Rattle.model.specs.Trace.{Trace, task}
use Rattle.model.specs.EventSet.{has, lent_bit, lent_set}
use Rattle.model.specs.Closure.{closure}
use Rattle.laws.specs.BitRow.{row_bit}

-- Of a lent set that has the events of the words, the closure is what is behind the frontier.
pub record Closes (σ : Trace) (words front : List ℕ) : Type 0 where
  pub closes : (set : List ℕ) → ((e : ℕ) → 1 ≤ e → e ≤ length σ → lent_bit set e ≡ row_bit 64 words (e - 1))
      → (e : ℕ) → 1 ≤ e → e ≤ length σ → has (closure σ (lent_set σ set)) e
      ≡ leb e (get_or front (task σ e) 0)
