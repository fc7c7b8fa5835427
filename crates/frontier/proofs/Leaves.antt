-- What visiting an event leaves, by its operation and the latest acquire of its lock. Assumes nothing.
use Prim.Native.Nat.{ℕ, ◌*◌, ◌≤◌, min}
use mathlib.Core.Path.{◌≡◌, refl, ◌∙◌}
use mathlib.Core.Bool.{true, false}
use mathlib.Core.Logic.{◌≢◌}
use mathlib.Core.List.{List}
use native.Mathlib.Omega.{arith}
use lib.ListN.{length, get_or}
use borrow.Author.Tests.{eq-eqb, ne_eqb}
use Rattle.model.specs.Trace.{Trace, task, object, is_acquire}
use Rattle.model.specs.Recording.{decode_all}
use Rattle.laws.specs.EventKinds.{marked}
use Rattle.laws.specs.Order.{awaited}
use Rattle.laws.specs.Frontier.{raised, wanted}
use Rattle.laws.proofs.Operations.{is_read_op, is_join-none, is_acquire-none}
use Rattle.laws.proofs.Awaited.{awaited-none, awaited_below}
use Rattle.laws.proofs.Marks.{WithMark, marked_uncounted, marked_outer}
use Rattle.frontier.specs.Visit.{wanted_earlier, latest_with, wanted_with}

-- ---- by what the event is

-- The lists that a visit leaves.
abbrev pub Leaves : Trace → ℕ → List ℕ → List ℕ → List ℕ → List ℕ → Type 0
Leaves σ f want latest want' latest' =
    (want' ≡ wanted_with σ want latest f) × (latest' ≡ latest_with σ latest f)

module _ (σ : Trace) (f : ℕ) (want latest : List ℕ) where
  -- An outer acquire is noted, and the match of the earlier one is wanted.
  pub acquire-leaves : is_acquire σ f ≡ true → {want' latest' : List ℕ}
      → (want' ≡ wanted_earlier σ want (get_or latest (object σ f) 0) f)
      × (latest' ≡ raised latest (object σ f) f)
      → Leaves σ f want latest want' latest'
  unfolding wanted_with latest_with
  acquire-leaves a q = rw a q

  -- Another event wants what it awaits.
  pub other-leaves : is_acquire σ f ≡ false → {want' : List ℕ} → want' ≡ wanted σ want (awaited σ f)
      → Leaves σ f want latest want' latest
  unfolding wanted_with latest_with
  other-leaves n q = rw n (q, refl)

-- ---- by the operation and the mark

module _ {σ : Trace} {f op m : ℕ} (k : WithMark σ f op m) (want latest : List ℕ) where
  -- What is no acquire by its operation wants what it awaits.
  pub other_visited : op ≢ 2 → {w : ℕ} → w ≡ awaited σ f → {want' : List ℕ} → want' ≡ wanted σ want w
      → Leaves σ f want latest want' latest
  other_visited d q r =
      other-leaves σ f want latest (is_acquire-none σ f k.op_is d) (rw (← q) r)

  -- An acquire by its operation that is none by its mark awaits nothing.
  pub uncounted_visited : op ≡ 2 → m ≡ f → Leaves σ f want latest want latest
  uncounted_visited a q =
      let read = is_read_op σ f k.op_is ∙ ne_eqb op 0 (omega arith) in
      let join = is_join-none σ f k.op_is (omega arith) in
      other-leaves σ f want latest (marked_uncounted k a q) (rw (awaited-none σ f read join))

  -- An outer acquire by both is noted, and the match of the earlier one is wanted.
  pub acquire_visited : op ≡ 2 → m ≢ f → {want' latest' : List ℕ}
      → (want' ≡ wanted_earlier σ want (get_or latest (object σ f) 0) f)
      × (latest' ≡ raised latest (object σ f) f)
      → Leaves σ f want latest want' latest'
  acquire_visited a d q = acquire-leaves σ f want latest (marked_outer k a d) q

-- ---- an event of whatever task

module _ (σ : Trace) (want : List ℕ) {x : ℕ} where
  -- 0 is not wanted,
  pub wanted-none : x ≡ 0 → wanted σ want x ≡ want
  wanted-none q = rw (eq-eqb x 0 q)

  -- and another event of its task.
  pub wanted_some : x ≢ 0 → wanted σ want x ≡ raised want (task σ x) x
  wanted_some d = rw (ne_eqb x 0 d)

-- What an event awaits is an earlier one.
pub awaited_in : (b : List ℕ) (f : ℕ) → (1 ≤ f) × (2 * f ≤ length b) → (w : ℕ)
    → w ≡ awaited (decode_all b) f → 2 * w ≤ length b
awaited_in b f inside w q = omega (arith, awaited_below (decode_all b) f, inside)

-- ---- the earlier one of two acquires

module _ (σ : Trace) (want : List ℕ) (top f : ℕ) where
  -- With no acquire before, nothing more is wanted.
  pub wanted_earlier-none : top ≡ 0 → wanted_earlier σ want top f ≡ want
  unfolding wanted_earlier
  wanted_earlier-none n = rw (eq-eqb top 0 n)

  -- The match of the earlier one is wanted.
  pub wanted_earlier_some : top ≢ 0 → {e : ℕ} → e ≡ min top f
      → wanted_earlier σ want top f ≡ raised want (task σ e) (marked σ e)
  unfolding wanted_earlier
  wanted_earlier_some d q = rw (ne_eqb top 0 d, q)
