-- The chains of one event with which the search begins, and the walk over them. Assumes nothing.
use Prim.Native.Nat.{ℕ, suc, ◌-◌, ◌≤◌}
use mathlib.Core.Path.{◌≡◌, refl, subst, ◌∙◌}
use mathlib.Core.Logic.{◌≢◌}
use mathlib.Core.Bool.{false}
use mathlib.Core.List.{List, [], ◌++◌}
use native.Mathlib.Omega.{arith}
use native.Mathlib.Nat.{sub-zero}
use lib.Dec.{T}
use Rattle.std.specs.Prelude.{Result, Ok, Err, Option, Some, None}
use Rattle.std.specs.Option.{is_some}
use lib.ListN.{length}
use Rattle.model.specs.Lists.{from, each}
use Rattle.model.specs.Trace.{Trace, is_acquire}
use Rattle.model.specs.Pattern.{largest_pattern}
use Rattle.model.specs.Listing.{deadlocks}
use Rattle.laws.specs.Chain.{signature, start}
use Rattle.laws.specs.Walk.{beginning}
use Rattle.entries.specs.declared.found.Found.{Found}
use Rattle.entries.specs.declared.Full.{Full}
use Rattle.entries.specs.Taken.{Taken, Adds}
use Rattle.entries.proofs.Laws.{taken_over}
use Rattle.pruning.specs.Linked.{is_nested, Link, Unreturned, WaysBack}
use Rattle.pruning.proofs.Nested.{acquire_free}
use Rattle.laws.proofs.Lists.{from_split}
use Rattle.laws.proofs.Filters.{each_append}
use Rattle.laws.proofs.Firsts.{each_first, each_last}
use Rattle.laws.proofs.Tests.{is_true, decided}
use Rattle.laws.proofs.Extensions.{beginning_acquire, beginning-none, beginning-unheld, deadlocks-beginning}
use Rattle.laws.proofs.Returning.{start_rooted}

-- An acquire whose lock does not lead back begins nothing.
pub beginning_nowhere : (σ : Trace) (a largest : ℕ) → T (is_acquire σ a) → 2 ≤ largest
    → Unreturned σ a largest → beginning σ (largest - 1) a ≡ []
beginning_nowhere σ a largest t h z =
    beginning_acquire σ (largest - 1) a (is_true (is_acquire σ a) t)
    ∙ z.returning.nowhere (largest - 1) (omega arith) (start (signature σ) a) refl (start_rooted σ a) z.apart

-- Where no ways back are given, it does not.
pub unreturned : (σ : Trace) (a count : ℕ) (r : Option (List ℕ)) → is_some r ≡ false → WaysBack σ a count r
    → Unreturned σ a count
unreturned σ a count None n z = z
unreturned σ a count (Some back) n z = cc

-- ---- the walk over the first events

-- The walk has come to a place: what the events to there begin has been taken.
pub record Searching (σ : Trace) (k room at : ℕ) (out₀ out : List ℕ) (f : Found) : Type 0 where
  pub high : at ≤ length σ
  pub taken : Taken room (each (beginning σ k) (from 1 at)) out₀ out (Ok f)

-- An event that is not nested begins nothing.
pub beginning_free : (σ : Trace) (k e : ℕ) → is_nested σ e ≡ false → beginning σ k e ≡ []
beginning_free σ k e n =
    decided (is_acquire σ e) (λ y. beginning-unheld σ k e (acquire_free σ e (rw y tt) n)) (beginning-none σ k
    e)

module _ {σ : Trace} {k room at : ℕ} {out₀ out : List ℕ} {f : Found}
    (z : Searching σ k room at out₀ out f) where
  -- Where no event is left that is nested, all is taken.
  pub searching_end : Link σ at 0 → suc k ≤ largest_pattern → Taken room (deadlocks σ (suc k)) out₀ out (Ok f)
  searching_end y l =
      let all : each (beginning σ k) (from 1 (length σ)) ≡ each (beginning σ k) (from 1 at) =
      rw (sub-zero (length σ), sub-zero at) at (each_last (is_nested σ) (beginning σ k) (length σ) 0 at
      (omega arith) (λ e h i. beginning_free σ k e) y z.high) in
      rw (deadlocks-beginning σ k l, all) z.taken

  module _ {a : ℕ} (d : a ≢ 0) (y : Link σ at a) {out' : List ℕ} where
    more : {r : Result Found Full} → Adds (beginning σ k a) out out' f r
        → Taken room (each (beginning σ k) (from 1 a)) out₀ out' r
    more {r} b =
        let one : each (beginning σ k) (from 1 a) ≡ each (beginning σ k) (from 1 at) ++ beginning σ k a =
        rw (sub-zero a, sub-zero at) at (each_first (is_nested σ) (beginning σ k) (length σ) 0 at
        (omega arith) (λ e h i. beginning_free σ k e) a y d) in
        let within : f.room ≡ room = z.taken.within in
        rw one (subst (λ (n : ℕ). Taken n (each (beginning σ k) (from 1 at)) out₀ out (Ok f)
        → Taken n (each (beginning σ k) (from 1 at) ++ beginning σ k a) out₀ out' r) within
        (b.adds _ out₀) z.taken)

    -- The walk goes on behind the next one,
    pub searching-next : {f' : Found} → Adds (beginning σ k a) out out' f (Ok f')
        → Searching σ k room a out₀ out' f'
    searching-next b = record { high = (y.passes d).1; taken = more b }

    -- or where what is taken exceeds the room, so does all.
    pub searching_over : suc k ≤ largest_pattern → {x : Full} → Adds (beginning σ k a) out out' f (Err x)
        → Taken room (deadlocks σ (suc k)) out₀ out' (Err x)
    searching_over l {x} b =
        rw (deadlocks-beginning σ k l, whole) (taken_over room _ _ out₀ out' x (more b))
      where
        whole : each (beginning σ k) (from 1 (length σ))
            ≡ each (beginning σ k) (from 1 a) ++ each (beginning σ k) (from (suc a) (length σ - a))
        whole = rw (from_split 1 a (length σ) (suc a) (y.passes d).1 (omega arith), each_append)
