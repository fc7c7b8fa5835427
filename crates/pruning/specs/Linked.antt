-- The acquires that can stand in a pattern, as links from each event to the next of them and by the locks
-- that are held in blocks of 64 events.
use Rattle.std.specs.Prelude.{ℕ, ◌-◌, ◌/◌, ◌≤◌, ◌≡◌, ◌≢◌, Bool, true, false, not, ◌&&◌, cond, List, T, eqb}
use Rattle.std.specs.Prelude.{length, get_or}
use Rattle.std.specs.Prelude.{Option, Some, None}
use Rattle.model.specs.Lists.{has_bit}
use Rattle.model.specs.Trace.{Trace, object, is_acquire}
use Rattle.model.specs.Relations.{held}
use Rattle.laws.specs.Sizes.{table_length}
use Rattle.laws.specs.Walk.{First}
use Rattle.laws.specs.Returning.{Covers, Returning}

-- An outer acquire at which its task holds a lock: another one, then.
abbrev pub is_nested : Trace → ℕ → Bool
is_nested σ e = is_acquire σ e && not (eqb (held σ e) 0)

-- The number x is that of the first nested acquire after event e, or 0.
abbrev pub Link : Trace → ℕ → ℕ → Type 0
Link σ e x = First (is_nested σ) (length σ) e x

-- The event that a number of the table stands for: none where it is 0.
abbrev pub event_of : ℕ → Option ℕ
event_of x = cond (eqb x 0) None (Some x)

-- The table has the link of each event, and of number 0.
pub record Linked (σ : Trace) (next : List ℕ) : Type 0 where
  pub long : length next ≡ table_length
  pub link : (e : ℕ) → e ≤ length σ → Link σ e (get_or next e 0)

-- For each 64 events in turn, the locks held at their acquires. The table may have more.
pub record Marked (σ : Trace) (blocks : List ℕ) : Type 0 where
  pub long : length blocks ≡ 64
  pub marks : (e : ℕ) → e ≤ length σ → T (is_nested σ e) → Covers (held σ e) (get_or blocks (e / 64) 0)

-- A nested acquire, in a block where some acquire holds lock l.
abbrev pub is_near : Trace → List ℕ → ℕ → ℕ → Bool
is_near σ blocks l e = is_nested σ e && has_bit (get_or blocks (e / 64) 0) l

-- What is found is the first number after e, and at most n, that passes the test, or none where no such
-- number does.
abbrev pub Earliest : (ℕ → Bool) → ℕ → ℕ → Option ℕ → Type 0
Earliest p n e None = First p n e 0
Earliest p n e (Some x) = (x ≢ 0) × First p n e x

-- No chain of at most `count` events that begins with event a returns to it: its lock is not among those that
-- lead back.
pub record Unreturned (σ : Trace) (a count : ℕ) : Type 0 where
  pub back : List ℕ
  pub returning : Returning σ a count back
  pub apart : has_bit (get_or back (count - 1) 0) (object σ a) ≡ false

-- The ways back to event a of the chains of at most `count` events that begin with it, or none where they
-- do not return.
abbrev pub WaysBack : Trace → ℕ → ℕ → Option (List ℕ) → Type 0
WaysBack σ a count None = Unreturned σ a count
WaysBack σ a count (Some back) =
    Returning σ a count back × (has_bit (get_or back (count - 1) 0) (object σ a) ≡ true)
