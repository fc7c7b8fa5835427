-- The latest event of each task in a lent set: a frontier, and advancing it gives the closure of the set.
-- Assumes nothing.
use Prim.Native.Nat.{ℕ, ◌+◌, ◌-◌, ◌≤◌, ◌<◌}
use mathlib.Core.Path.{◌≡◌, sym}
use mathlib.Core.Logic.{◌≢◌}
use mathlib.Core.Bool.{◌&&◌}
use mathlib.Core.List.{List}
use native.Mathlib.Omega.{arith}
use lib.Dec.{T, eqb, leb, eqb→eq, eqb_refl}
use lib.ListN.{length, get_or}
use Rattle.model.specs.Trace.{Trace, tasks, task}
use Rattle.model.specs.EventSet.{has, lent_bit, lent_set}
use Rattle.model.specs.Closure.{closure}
use Rattle.laws.specs.Walked.{LatestEvents}
use Rattle.laws.specs.BitRow.{row_bit}
use Rattle.laws.specs.Frontier.{Frontier, Advanced}
use Rattle.laws.proofs.Tests.{and_l, and_r, and_i}
use Rattle.laws.proofs.Searches.{Latest, last_before_latest}
use Rattle.laws.proofs.WellFormed.{WellFormed}
use Rattle.laws.proofs.EventSet.{has_lt, Sized}
use Rattle.laws.proofs.EventBytes.{lent_set_sized, lent_set-has}
use Rattle.laws.proofs.Closure.{closure_contains}
use Rattle.laws.proofs.Reached.{closure-behind}
use Rattle.closure.specs.Reach.{Closes}

module _ (σ : Trace) (words want : List ℕ) (long : length want ≡ tasks)
    (z : LatestEvents (λ f. row_bit 64 words (f - 1)) (task σ) (length σ + 1) want) where
  latest : (t : ℕ) → t < tasks
      → Latest (length σ + 1) (λ f. row_bit 64 words (f - 1) && eqb t (task σ f)) (get_or want t 0)
  latest t l = rw (z.at t (omega (arith, long))) (last_before_latest _ _)

  of-task : (t : ℕ) → t < tasks → get_or want t 0 ≢ 0 → t ≡ task σ (get_or want t 0)
  of-task t l d =
      let e = get_or want t 0 in
      eqb→eq t (task σ e) (and_r (row_bit 64 words (e - 1)) _ ((latest t l).passes d))

  -- The wanted events are those of their tasks.
  pub wanted_frontier : Frontier σ want
  wanted_frontier = record {
    long = long;
    own = λ t l d. (omega (arith, (latest t l).below d), sym (of-task t l d));
  }

  -- The frontier that they advance to is that of the closure.
  pub wanted-closes : WellFormed σ → (front last : List ℕ) → Advanced σ want front last → Closes σ words front
  wanted-closes ok front last a = record { closes = closes }
    where
      closes : (set : List ℕ) → ((e : ℕ) → 1 ≤ e → e ≤ length σ → lent_bit set e ≡ row_bit 64 words (e - 1))
          → (e : ℕ) → 1 ≤ e → e ≤ length σ
          → has (closure σ (lent_set σ set)) e ≡ leb e (get_or front (task σ e) 0)
      closes set same = closure-behind σ ok (lent_set σ set) sized want front last a reach tops
        where
          sized : Sized σ (lent_set σ set)
          sized = lent_set_sized σ set

          reach : (e : ℕ) → T (has (lent_set σ set) e) → e ≤ get_or want (task σ e) 0
          reach e h =
              let i : 1 ≤ e = sized.nonzero e h in
              let k : e ≤ length σ = omega (arith, has_lt (lent_set σ set) e h, sized.long) in
              let bit : T (row_bit 64 words (e - 1)) = rw (lent_set-has σ set e i k, same e i k) at h in
              (latest (task σ e) (ok.task_lt e i k)).latest e (omega arith)
              (and_i (row_bit 64 words (e - 1)) _ bit (eqb_refl (task σ e)))

          tops : (t : ℕ) → t < tasks → get_or want t 0 ≢ 0 → T
              (has (closure σ (lent_set σ set)) (get_or want t 0))
          tops t l d =
              let e = get_or want t 0 in
              let i : 1 ≤ e = omega arith in
              let k : e ≤ length σ = omega (arith, (latest t l).below d) in
              let bit = and_l (row_bit 64 words (e - 1)) _ ((latest t l).passes d) in
              closure_contains σ (lent_set σ set) e (rw (lent_set-has σ set e i k, same e i k) bit)
