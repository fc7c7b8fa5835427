-- A lock's section gets another depth or another latest acquire: what that makes of the tables of these.
-- Assumes nothing.
use Prim.Native.Nat.{ℕ}
use mathlib.Core.Path.{◌≡◌, refl}
use mathlib.Core.List.{List, []}
use lib.ListN.{get_or, set, get_or-map}
use lib.Seq.{map-set, map-set_same}
use Rattle.sections.specs.declared.Section.{Section}
use Rattle.sections.specs.Kept.{of_lock, depths, acquires}

-- The table with another depth of lock l, or another acquire.
abbrev pub with_depth : List Section → ℕ → ℕ → List Section
with_depth table l x = set table l (record { depth = x; acquire = (of_lock table l).acquire })

abbrev pub with_acquire : List Section → ℕ → ℕ → List Section
with_acquire table l e = set table l (record { depth = (of_lock table l).depth; acquire = e })

-- Each sets the one and leaves the other.
module _ (table : List Section) (l x : ℕ) where
  pub depth_set : depths (with_depth table l x) ≡ set (depths table) l x
  depth_set = map-set _ table l _

  pub acquire_left : acquires (with_depth table l x) ≡ acquires table
  acquire_left = map-set_same _ table l _ (of_lock [] l) refl

  pub acquire_set : acquires (with_acquire table l x) ≡ set (acquires table) l x
  acquire_set = map-set _ table l _

  pub depth_left : depths (with_acquire table l x) ≡ depths table
  depth_left = map-set_same _ table l _ (of_lock [] l) refl

-- What the tables have of a lock.
module _ (table : List Section) (l : ℕ) where
  pub depth_at : get_or (depths table) l 0 ≡ (of_lock table l).depth
  depth_at = get_or-map _ table l (of_lock [] l)

  pub acquire_at : get_or (acquires table) l 0 ≡ (of_lock table l).acquire
  acquire_at = get_or-map _ table l (of_lock [] l)
