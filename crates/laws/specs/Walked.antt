-- What the tables of a walk hold right before event e, in terms of the relations: the holder and the depth of
-- a lock, the locks of each task, the latest event of each kind, and the matches. How one event changes them
-- is in proofs/LatestEvents, Holders, Kept, LockDepth, Locksets and Matches.
use Rattle.std.specs.Prelude.{ℕ, suc, ◌-◌, ◌^◌, ◌≤◌, ◌<◌, ◌≡◌, Bool, cond, ◌&&◌, List, eqb, length}
use Rattle.std.specs.Prelude.{get_or}
use Rattle.model.specs.Lists.{last_before, first_from, has_bit}
use Rattle.model.specs.Trace.{Trace, tasks, locks, same_task, same_object, depth, is_acquire, is_release}
use Rattle.model.specs.Relations.{acquire_of, holds}
use Rattle.laws.specs.EventKinds.{is_uncounted}

-- Lock l has task h - 1 at depth d as its holder, or none where h and d are 0 (02: the record kept for each
-- lock is holder and depth).
pub record Holder (σ : Trace) (e l h d : ℕ) : Type 0 where
  pub bound : h ≤ tasks
  pub at : (t : ℕ) → t < tasks → depth σ e t l ≡ cond (eqb h (suc t)) d 0
  pub none : eqb h 0 ≡ eqb d 0

-- What a table has for depth d: the depth, and for 0 the 1 that an acquire makes of it. So an outer acquire
-- or release changes no entry.
abbrev pub kept : ℕ → ℕ
kept d = cond (eqb d 0) 1 d

-- Lock l has the holder h, and x is kept for its depth.
pub record Kept (σ : Trace) (e l h x : ℕ) : Type 0 where
  pub depth : ℕ
  pub at : Holder σ e l h depth
  pub is : x ≡ kept depth

-- For each lock its holder, and what is kept for its depth.
pub record Holders (σ : Trace) (e : ℕ) (holders depths : List ℕ) : Type 0 where
  pub holders_long : length holders ≡ locks
  pub depths_long : length depths ≡ locks
  pub at : (l : ℕ) → l < locks → Kept σ e l (get_or holders l 0) (get_or depths l 0)

-- Lock l has a holder at depth d, whichever task that is, or none where d is 0.
pub record LockDepth (σ : Trace) (e l d : ℕ) : Type 0 where
  pub holder : ℕ
  pub at : Holder σ e l holder d

-- For each lock what is kept for its depth.
pub record KeptDepths (σ : Trace) (e : ℕ) (table : List ℕ) : Type 0 where
  pub long : length table ≡ locks
  pub at : (l : ℕ) → l < locks → (h : ℕ) × Kept σ e l h (get_or table l 0)

-- For each task the mask of the locks that it holds.
pub record Locksets (σ : Trace) (e : ℕ) (table : List ℕ) : Type 0 where
  pub long : length table ≡ tasks
  pub fits : (t : ℕ) → t < tasks → get_or table t 0 < 2 ^ locks
  pub at : (t l : ℕ) → t < tasks → l < locks → has_bit (get_or table t 0) l ≡ holds σ e t l

-- For each key x the latest event before e that passes the test and has this key, or 0.
pub record LatestEvents (test : ℕ → Bool) (key : ℕ → ℕ) (e : ℕ) (table : List ℕ) : Type 0 where
  pub at : (x : ℕ) → x < length table → get_or table x 0 ≡ last_before e (λ f. test f && eqb x (key f))

-- The match of event f, as far as the events before e show it: of an acquire, the first release of it there.
unfoldable pub matching_before : Trace → ℕ → ℕ → ℕ
matching_before σ e f =
    cond (is_acquire σ f)
    (first_from (suc f) (e - suc f) (λ g. is_release σ g && same_object σ f g && same_task σ f g))
    (cond (is_release σ f) (acquire_of σ f) 0)

-- The same, but that a record that does not count has its own number, which is no match.
unfoldable pub marked_before : Trace → ℕ → ℕ → ℕ
marked_before σ e f = cond (is_uncounted σ f) f (matching_before σ e f)
