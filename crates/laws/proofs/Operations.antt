-- The tests for an event, by its operation and by whether the object is a lock. Assumes nothing.
use Prim.Native.Nat.{ℕ, ◌≤◌, ◌<◌}
use mathlib.Core.Path.{◌≡◌}
use mathlib.Core.Logic.{◌≢◌}
use mathlib.Core.Bool.{true, false, not, ◌&&◌, and-false}
use native.Mathlib.Omega.{arith}
use lib.Dec.{T, eqb, ltb}
use borrow.Author.Tests.{eq-eqb, ne_eqb, lt-ltb, le-ltb}
use Rattle.model.specs.Trace.{Trace, locks, at, object, is_read, is_write, has_acquire_op, has_release_op}
use Rattle.model.specs.Trace.{names_lock, enters, leaves, own_depth, is_acquire, is_release}
use Rattle.model.specs.Tasks.{is_start, is_join}

module _ (σ : Trace) (e : ℕ) {op : ℕ} (q : op ≡ (at σ e).op) where
  -- ---- the tests compare operation and object

  -- For a read.
  pub is_read_op : is_read σ e ≡ eqb op 0
  unfolding is_read
  is_read_op = rw q

  -- For a write.
  pub is_write_op : is_write σ e ≡ eqb op 1
  unfolding is_write
  is_write_op = rw q

  -- For the record of an acquire.
  pub has_acquire_op_op : has_acquire_op σ e ≡ eqb op 2
  unfolding has_acquire_op
  has_acquire_op_op = rw q

  -- For the record of a release.
  pub has_release_op_op : has_release_op σ e ≡ eqb op 3
  unfolding has_release_op
  has_release_op_op = rw q

  -- For an acquire of a lock, from whatever depth.
  pub enters_op : enters σ e ≡ (eqb op 2 && ltb (object σ e) locks)
  unfolding enters names_lock
  enters_op = rw has_acquire_op_op

  -- For a release, to whatever depth.
  pub leaves_op : leaves σ e ≡ (eqb op 3 && ltb (object σ e) locks)
  unfolding leaves names_lock
  leaves_op = rw has_release_op_op

  -- For an outer acquire also the depth.
  pub is_acquire_op : is_acquire σ e ≡ ((eqb op 2 && ltb (object σ e) locks) && eqb (own_depth σ e) 0)
  unfolding is_acquire
  is_acquire_op = rw enters_op

  -- For an outer release.
  pub is_release_op : is_release σ e ≡ ((eqb op 3 && ltb (object σ e) locks) && eqb (own_depth σ e) 1)
  unfolding is_release
  is_release_op = rw leaves_op

  -- For a start, whose object is none.
  pub is_start_op : is_start σ e ≡ (eqb op 2 && not (ltb (object σ e) locks))
  unfolding is_start names_lock
  is_start_op = rw has_acquire_op_op

  -- For a join.
  pub is_join_op : is_join σ e ≡ (eqb op 3 && not (ltb (object σ e) locks))
  unfolding is_join names_lock
  is_join_op = rw has_release_op_op

  -- ---- another operation

  -- No other operation than an acquire's is an outer acquire
  pub is_acquire-none : op ≢ 2 → is_acquire σ e ≡ false
  is_acquire-none d = rw (is_acquire_op, ne_eqb op 2 d)

  -- or a start,
  pub is_start-none : op ≢ 2 → is_start σ e ≡ false
  is_start-none d = rw (is_start_op, ne_eqb op 2 d)

  -- and none than a release's an outer release
  pub is_release-none : op ≢ 3 → is_release σ e ≡ false
  is_release-none d = rw (is_release_op, ne_eqb op 3 d)

  -- or a join.
  pub is_join-none : op ≢ 3 → is_join σ e ≡ false
  is_join-none d = rw (is_join_op, ne_eqb op 3 d)

  -- A read or a write neither enters a lock nor leaves one.
  pub accesses_is : op < 2 → (enters σ e ≡ false) × (leaves σ e ≡ false)
  accesses_is h = (rw (enters_op, ne_eqb op 2 (omega arith)), rw (leaves_op, ne_eqb op 3 (omega arith)))

  -- ---- the object

  module _ (l : object σ e < locks) where
    -- With a lock as object, the record of an acquire enters it,
    pub enters_is : op ≡ 2 → T (enters σ e)
    enters_is a = rw (enters_op, eq-eqb op 2 a, lt-ltb (object σ e) locks l) tt

    -- that of a release leaves it,
    pub leaves_is : op ≡ 3 → T (leaves σ e)
    leaves_is a = rw (leaves_op, eq-eqb op 3 a, lt-ltb (object σ e) locks l) tt

    -- and none starts a task
    pub is_start_lock : is_start σ e ≡ false
    is_start_lock = rw (is_start_op, lt-ltb (object σ e) locks l, and-false)

    -- or joins one.
    pub is_join_lock : is_join σ e ≡ false
    is_join_lock = rw (is_join_op, lt-ltb (object σ e) locks l, and-false)

  module _ (l : locks ≤ object σ e) where
    -- With another object, the record of an acquire starts a task,
    pub starts_is : op ≡ 2 → is_start σ e ≡ true
    starts_is a = rw (is_start_op, eq-eqb op 2 a, le-ltb (object σ e) locks l)

    -- that of a release joins one,
    pub joins_is : op ≡ 3 → is_join σ e ≡ true
    joins_is a = rw (is_join_op, eq-eqb op 3 a, le-ltb (object σ e) locks l)

    -- and none enters a lock or leaves one,
    pub tasks_is : (enters σ e ≡ false) × (leaves σ e ≡ false)
    tasks_is = (
      rw (enters_op, le-ltb (object σ e) locks l, and-false),
      rw (leaves_op, le-ltb (object σ e) locks l, and-false),
    )

    -- is an outer acquire
    pub is_acquire-task : is_acquire σ e ≡ false
    is_acquire-task = rw (is_acquire_op, le-ltb (object σ e) locks l, and-false)

    -- or an outer release.
    pub is_release-task : is_release σ e ≡ false
    is_release-task = rw (is_release_op, le-ltb (object σ e) locks l, and-false)
