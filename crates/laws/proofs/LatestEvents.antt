-- How one event changes a table of the latest event of each kind; what it holds is in specs/Walked.
-- Assumes nothing.
use Prim.Native.Nat.{ℕ, suc, ◌<◌}
use mathlib.Core.Path.{◌≡◌, ◌∙◌}
use mathlib.Core.Logic.{⊎_elim, ◌≢◌}
use mathlib.Core.Bool.{Bool, true, false, not, ◌&&◌, and-false}
use mathlib.Core.List.{List}
use lib.Dec.{T, eqb}
use lib.ListN.{length, get_or, set, replicate, length-set, length-replicate, get_or-replicate}
use lib.Seq.{get_or-set_same, get_or-set_other}
use borrow.Author.Tests.{eq-eqb, ne_eqb}
use Rattle.model.specs.Lists.{last_before}
use Rattle.model.specs.Trace.{Trace, task, object, is_read, is_write, same_object}
use Rattle.model.specs.Tasks.{is_start, is_join, target, starts, joins}
use Rattle.model.specs.Relations.{latest_of, start_of, join_of, writer}
use Rattle.model.specs.WellFormed.{is_new, is_over}
use Rattle.laws.specs.Walked.{LatestEvents}
use Rattle.laws.proofs.Tests.{decided, equal?, is_true}

module _ (test : ℕ → Bool) (key : ℕ → ℕ) where
  -- Before event 1 there is none.
  pub latest-start : (n : ℕ) → LatestEvents test key 1 (replicate n 0)
  latest-start n = record { at = λ x h. none x (rw (length-replicate {A = ℕ} n 0) at h) }
    where
      none : (x : ℕ) → x < n → get_or (replicate n 0) x 0 ≡ last_before 1 (λ f. test f && eqb x (key f))
      none x h =
          get_or-replicate n x 0 0 h
          ∙ decided (test 0 && eqb x (key 0)) (λ y. rw y) (λ y. rw y)

  -- An event that passes is the latest of its key.
  pub latest-set : (e : ℕ) (table : List ℕ) → LatestEvents test key e table → T (test e)
      → key e < length table → LatestEvents test key (suc e) (set table (key e) e)
  latest-set e table z t l = record {
    at = λ x h. ⊎_elim (same x) (other x (rw length-set at h))
        (equal? x (key e));
  }
    where
      same : (x : ℕ) → x ≡ key e
          → get_or (set table (key e) e) x 0 ≡ last_before (suc e) (λ f. test f && eqb x (key f))
      same x q = rw (is_true (test e) t, eq-eqb x (key e) q, q) (get_or-set_same table (key e) e 0 l)

      other : (x : ℕ) → x < length table → x ≢ key e
          → get_or (set table (key e) e) x 0 ≡ last_before (suc e) (λ f. test f && eqb x (key f))
      other x h d = rw (ne_eqb x (key e) d, and-false (test e))
          (get_or-set_other table (key e) x e 0 d ∙ z.at x h)

  -- An event that does not pass changes nothing.
  pub latest_keep : (e : ℕ) (table : List ℕ) → LatestEvents test key e table → test e ≡ false
      → LatestEvents test key (suc e) table
  latest_keep e table z f = record { at = λ x h. rw f (z.at x h) }

-- ---- what the tables of a trace give

module _ (σ : Trace) (e : ℕ) (table : List ℕ) where
  -- The latest write of a read's variable is its writer.
  pub latest-writer : LatestEvents (is_write σ) (object σ) e table → is_read σ e ≡ true → object σ e < length
      table
      → get_or table (object σ e) 0 ≡ writer σ e
  unfolding writer same_object
  latest-writer z r h = rw r (z.at (object σ e) h)

  -- The latest event of each task.
  pub latest_of_lem : LatestEvents (λ f. true) (task σ) e table → (t : ℕ) → t < length table
      → get_or table t 0 ≡ latest_of σ e t
  unfolding latest_of
  latest_of_lem z t h = z.at t h

  -- The start of each task.
  pub latest-start_of : LatestEvents (is_start σ) (target σ) e table → (t : ℕ) → t < length table
      → get_or table t 0 ≡ start_of σ e t
  unfolding start_of starts
  latest-start_of z t h = z.at t h

  -- The latest join of each task.
  pub latest-join_of : LatestEvents (is_join σ) (target σ) e table → (t : ℕ) → t < length table
      → get_or table t 0 ≡ join_of σ e t
  unfolding join_of joins
  latest-join_of z t h = z.at t h

  -- So the event's task is over where the table of joins has it.
  pub latest_over : LatestEvents (is_join σ) (target σ) e table → task σ e < length table
      → is_over σ e ≡ not (eqb (get_or table (task σ e) 0) 0)
  unfolding is_over
  latest_over z h = rw (latest-join_of z (task σ e) h)

module _ (σ : Trace) (e : ℕ) (table starting : List ℕ) (z : LatestEvents (λ f. true) (task σ) e table)
    (s : LatestEvents (is_start σ) (target σ) e starting) (joining : List ℕ)
    (j : LatestEvents (is_join σ) (target σ) e joining) where
  -- A start's task is new where no table has it, and it is not the start's own.
  pub latest_new : target σ e < length table → target σ e < length starting → target σ e < length joining
      → is_new σ e ≡ (not (eqb (target σ e) (task σ e)) && eqb (get_or starting (target σ e) 0) 0
      && eqb (get_or joining (target σ e) 0) 0 && eqb (get_or table (target σ e) 0) 0)
  unfolding is_new
  latest_new h k l =
      rw (
        latest_of_lem σ e table z (target σ e) h,
        latest-start_of σ e starting s (target σ e) k,
        latest-join_of σ e joining j (target σ e) l,
      )
