-- Which chains of a search lead nowhere: the ways back from each lock to the held locks of the first event,
-- by the number of further events. That they are such is in proofs/Returning.
use Rattle.std.specs.Prelude.{ℕ, suc, ◌+◌, ◌<◌, ◌≡◌, ◌≢◌, false, List, [], T, eqb, length, get_or}
use Rattle.std.specs.Prelude.{Option, Some, None}
use Rattle.std.specs.Int.Bits.{bit_and}
use Rattle.model.specs.Lists.{has_bit}
use Rattle.model.specs.Trace.{Trace, locks, task, object, is_acquire}
use Rattle.model.specs.Relations.{held}
use Rattle.model.specs.Pattern.{largest_pattern}
use Rattle.laws.specs.Chain.{Chain}
use Rattle.laws.specs.Walk.{extensions}

-- The chain has its first event's task and held locks in its masks.
pub record Rooted (σ : Trace) (c : Chain) : Type 0 where
  pub first_task : T (has_bit c.tasks (task σ c.first))
  pub guarded : (m : ℕ) → T (eqb (bit_and c.guards m) 0) → T (eqb (bit_and (held σ c.first) m) 0)

-- The first mask's locks are in the second.
abbrev pub Covers : ℕ → ℕ → Type 0
Covers inner outer = (l : ℕ) → T (has_bit inner l) → T (has_bit outer l)

-- Which acquires may stand beside the first event of a chain: those after an event, by other tasks than one,
-- if any, and at which none of some locks is held.
pub record Candidates : Type 0 where
  pub after : ℕ
  pub other_than : Option ℕ
  pub guards : ℕ

-- All acquires.
abbrev pub all_acquires : Candidates
all_acquires = record { after = 0; other_than = None; guards = 0 }

-- Those that may stand beside event a.
abbrev pub beside : Trace → ℕ → Candidates
beside σ a = record { after = a; other_than = Some (task σ a); guards = held σ a }

-- Event e is one of them.
pub record IsCandidate (σ : Trace) (c : Candidates) (e : ℕ) : Type 0 where
  pub later : c.after < e
  pub acquires : T (is_acquire σ e)
  pub other : c.other_than ≢ Some (task σ e)
  pub apart : T (eqb (bit_and c.guards (held σ e)) 0)

-- For each lock, the locks held at those of its acquires that are candidates and come before event `stop`.
-- The table may have more.
pub record Led (σ : Trace) (c : Candidates) (stop : ℕ) (lead : List ℕ) : Type 0 where
  pub long : length lead ≡ locks
  pub leads : (e : ℕ) → e < stop → IsCandidate σ c e → Covers (held σ e) (get_or lead (object σ e) 0)

-- The same for all candidates.
abbrev pub Leading : Trace → Candidates → List ℕ → Type 0
Leading σ c lead = Led σ c (length σ + 1) lead

-- Each entry has the locks of the one before it, and those that lead to them. The table may have more.
pub record Spread (lead : List ℕ) (count : ℕ) (back : List ℕ) : Type 0 where
  pub long : length back ≡ largest_pattern
  pub grows : (i : ℕ) → suc i < count → Covers (get_or back i 0) (get_or back (suc i) 0)
  pub leads : (i : ℕ) → suc i < count → (m : ℕ) → m < locks → T (has_bit (get_or back i 0) m)
      → Covers (get_or lead m 0) (get_or back (suc i) 0)

-- Entry i has the locks from which a chain that begins with event a may be completed by i more events: a
-- chain whose last lock is not there leads nowhere. Entry 0 has the locks that complete it.
pub record Returning (σ : Trace) (a count : ℕ) (back : List ℕ) : Type 0 where
  pub long : length back ≡ largest_pattern
  pub complete : get_or back 0 0 ≡ held σ a
  pub covers : (i : ℕ) → i < count → Covers (held σ a) (get_or back i 0)
  pub nowhere : (i : ℕ) → i < count → (c : Chain) → c.first ≡ a → Rooted σ c
      → has_bit (get_or back i 0) (object σ c.last) ≡ false → extensions σ i c ≡ []
