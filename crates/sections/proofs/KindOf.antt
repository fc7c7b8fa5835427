-- The kind of one event, of an acquire by its held locks and of a release by the depth of its lock, and the
-- depths after it. Assumes nothing.
use Prim.Native.Nat.{ℕ, zero, suc, ◌+◌, ◌-◌, ◌≤◌, ◌<◌}
use mathlib.Core.Path.{◌≡◌, refl, sym, ap, ◌∙◌}
use mathlib.Core.Logic.{⊎_elim, ◌≢◌}
use mathlib.Core.Bool.{true, false, cond, ◌||◌}
use mathlib.Core.List.{List}
use native.Mathlib.Numerals.{add-one}
use native.Mathlib.Omega.{arith}
use lib.Dec.{T, eqb, eqb→eq, eqb-suc-zero}
use lib.ListN.{length}
use borrow.Author.Tests.{eq-eqb, ne_eqb, eqb-true}
use Rattle.sections.specs.declared.Kind as K
use Rattle.sections.specs.declared.Kind.TheVariants.{Read, Write, Acquire, Release, Uncounted}
use Rattle.sections.specs.declared.Section.{Section}
use Rattle.sections.specs.Kinds.{kind_code, IsKind}
use Rattle.sections.specs.Kept.{of_lock, depths}
use Rattle.sections.proofs.Fields.{with_depth, depth_set, depth_at}
use Rattle.model.specs.Lists.{has_bit}
use Rattle.model.specs.Trace.{Trace, tasks, locks, at, task, object, enters, leaves}
use Rattle.model.specs.Relations.{held}
use Rattle.laws.specs.Walked.{Kept, KeptDepths}
use Rattle.laws.specs.EventKinds.{uncounted_kind, kind}
use Rattle.laws.proofs.Tests.{decided, equal?}
use Rattle.laws.proofs.Operations.{enters_is, leaves_is, accesses_is, tasks_is}
use Rattle.laws.proofs.EventKinds.{kind_enter, kind_leave, kind-task}
use Rattle.laws.proofs.Relations.{held_bit}
use Rattle.laws.proofs.Kept.{kept-fits, kept-holds, kept_free, kept_first, kept_own, kept_again, kept_freed}
use Rattle.laws.proofs.Kept.{kept_lowered, kept_depths_keep, kept_depths-set, kept_depths_access}
use Rattle.laws.proofs.WellFormed.{WellFormed, enter-is_free, leave-held}

-- Event e of a well-formed trace, with its operation and object, and what is kept before it of the depths.
pub record Coming (σ : Trace) (e op o : ℕ) (table : List Section) : Type 0 where
  pub sound : WellFormed σ
  pub event : (1 ≤ e) × (e ≤ length σ)
  pub op_is : (op < 4) × (op ≡ (at σ e).op)
  pub object_is : o ≡ object σ e
  pub depths_are : KeptDepths σ e (depths table)

module _ {σ : Trace} {e op o : ℕ} {table : List Section} (u : Coming σ e op o table) where
  -- The table has the depths after event e.
  abbrev After : List Section → Type 0
  After t = KeptDepths σ (e + 1) (depths t)

  -- What is kept for the depth of the event's lock.
  abbrev kept_depth : ℕ
  kept_depth = (of_lock table o).depth

  -- What its kind is.
  pub of_kind : (k : K.Kind) → kind_code k ≡ kind σ e → IsKind σ e k
  of_kind k q = record { op_lt = omega (arith, u.op_is); code_is = q }

  is_op : op ≡ (at σ e).op
  is_op = u.op_is.1

  small : task σ e < tasks
  small = u.sound.task_lt e u.event.0 u.event.1

  -- A read or a write changes no depth,
  pub access_depths : op < 2 → After table
  access_depths h =
      let (no-enter, no-leave) = accesses_is σ e is_op h in
      rw (add-one e) (kept_depths_access no-enter no-leave u.depths_are)

  -- nor does a start or a join,
  pub task_depths : locks ≤ o → After table
  task_depths l =
      let (no-enter, no-leave) = tasks_is σ e is_op (rw u.object_is at l) in
      rw (add-one e) (kept_depths_access no-enter no-leave u.depths_are)

  -- whose kind this is.
  pub task_kind : 2 ≤ op → locks ≤ o → uncounted_kind ≡ kind σ e
  task_kind h l = kind-task σ e is_op h u.op_is.0 (rw u.object_is at l)

  module _ (b : o < locks) where
    lock : object σ e < locks
    lock = rw u.object_is at b

    kept_at : (h : ℕ) × Kept σ e (object σ e) h kept_depth
    kept_at = rw (← (depth_at table o), u.object_is) (u.depths_are.at (object σ e) lock)

    -- What is kept for its lock's depth is at most the event's number.
    pub depth_fits : kept_depth ≤ e
    depth_fits = kept-fits u.event.0 kept_at.1

    unmoved : (h : ℕ) → Kept σ (suc e) (object σ e) h kept_depth → After table
    unmoved h z = rw (add-one e) (kept_depths_keep u.depths_are (rw (← (depth_at table o), u.object_is) at z))

    moved : (h x : ℕ) → Kept σ (suc e) (object σ e) h x → After (with_depth table o x)
    moved h x z = rw (add-one e, depth_set table o x, u.object_is) (kept_depths-set u.depths_are lock z)

    -- ---- acquires

    module _ (a : op ≡ 2) where
      entered : T (enters σ e)
      entered = enters_is σ e is_op lock a

      -- The lock is held at the event where the event's task is its holder; no other task is.
      holder_is : (h : ℕ) → Kept σ e (object σ e) h kept_depth
          → T (eqb h 0 || eqb h (suc (task σ e))) × (has_bit (held σ e) o ≡ eqb h (suc (task σ e)))
      holder_is h z = (
        rw (kept_free z) at (enter-is_free σ u.sound e entered),
        held_bit σ e o b ∙ rw u.object_is (kept-holds z (task σ e) small),
      )

      -- The kind of an acquire whose lock is not held, which changes no depth,
      pub enter_outer : has_bit (held σ e) o ≡ false → (2 ≡ kind σ e) × After table
      enter_outer n = go kept_at.0 kept_at.1
        where
          go : (h : ℕ) → Kept σ e (object σ e) h kept_depth
              → (2 ≡ kind σ e) × After table
          go zero z =
              let (own, after) = kept_first small entered z in
              (kind_enter σ e is_op a lock 0 own, unmoved _ after)
          go (suc t) z =
              let (free, bit) = holder_is (suc t) z in
              absurd (rw (sym bit ∙ n, eqb-suc-zero t) at free)

      -- and of one whose lock is, which goes one deeper.
      pub enter_inner : has_bit (held σ e) o ≡ true
          → (uncounted_kind ≡ kind σ e) × After (with_depth table o (kept_depth + 1))
      enter_inner y =
          let (h, z) = kept_at in
          let own : h ≡ suc (task σ e) = eqb-true h (suc (task σ e)) (sym (holder_is h z).1 ∙ y) in
          let z : Kept σ e (object σ e) (suc (task σ e)) kept_depth = rw own at z in
          let (depth, deep) = kept_own small z in (
            rw (ne_eqb kept_depth 0 (omega arith)) at
                (kind_enter σ e is_op a lock kept_depth depth),
            rw (add-one kept_depth) (moved _ _ (kept_again small z entered)),
          )

      -- So an outer acquire leaves the depths,
      pub outer_acquire : 2 ≡ kind σ e → After table
      outer_acquire k =
          decided (has_bit (held σ e) o) (λ y. absurd (omega (arith, k, (enter_inner y).0)))
          (λ n. (enter_outer n).1)

      -- and an inner one changes its lock's.
      pub inner_acquire : uncounted_kind ≡ kind σ e
          → After (with_depth table o (kept_depth + 1))
      inner_acquire k =
          decided (has_bit (held σ e) o) (λ y. (enter_inner y).1)
          (λ n. absurd (omega (arith, k, (enter_outer n).0)))

    -- ---- releases

    module _ (a : op ≡ 3) where
      left : T (leaves σ e)
      left = leaves_is σ e is_op lock a

      own : Kept σ e (object σ e) (suc (task σ e)) kept_depth
      own =
          let (h, z) = kept_at in
          let held = rw (kept-holds z (task σ e) small) at (leave-held σ u.sound e left) in
          rw (eqb→eq h (suc (task σ e)) held) at z

      leave-kind : cond (eqb kept_depth 1) 3 uncounted_kind ≡ kind σ e
      leave-kind = kind_leave σ e is_op a lock _ (kept_own small own).0

      -- A release's lock has a depth above 0.
      pub leave_deep : 0 < kept_depth
      leave_deep = (kept_own small own).1

      -- The kind of a release to depth 0, which leaves what is kept,
      pub leave_outer : kept_depth ≡ 1 → (3 ≡ kind σ e) × After table
      leave_outer d = (
        rw (eq-eqb kept_depth 1 d) at leave-kind,
        unmoved 0 (kept_freed small own left d),
      )

      -- and of one to above.
      pub leave_inner : kept_depth ≢ 1
          → (uncounted_kind ≡ kind σ e) × After (with_depth table o (kept_depth - 1))
      leave_inner d = (
        rw (ne_eqb kept_depth 1 d) at leave-kind,
        moved _ _ (kept_lowered small own left d),
      )

      -- So an outer release leaves the depths,
      pub outer_release : 3 ≡ kind σ e → After table
      outer_release k =
          ⊎_elim (λ d. (leave_outer d).1) (λ d. absurd (omega (arith, k, (leave_inner d).0)))
          (equal? kept_depth 1)

      -- and an inner one changes its lock's.
      pub inner_release : uncounted_kind ≡ kind σ e
          → After (with_depth table o (kept_depth - 1))
      inner_release k =
          ⊎_elim (λ d. absurd (omega (arith, k, (leave_outer d).0))) (λ d. (leave_inner d).1)
          (equal? kept_depth 1)

-- ---- numbers of kinds

-- The kind with a number.
kind_at : ℕ → K.Kind
kind_at n =
    cond (eqb n 0) Read (cond (eqb n 1) Write (cond (eqb n 2) Acquire (cond (eqb n 3) Release Uncounted)))

kind_at_code : (k : K.Kind) → kind_at (kind_code k) ≡ k
unfolding kind_at
kind_at_code Read = refl
kind_at_code Write = refl
kind_at_code Acquire = refl
kind_at_code Release = refl
kind_at_code Uncounted = refl

-- Two kinds have two numbers.
pub kind_apart : (k l : K.Kind) → k ≢ l → kind_code k ≢ kind_code l
kind_apart k l d q = d (sym (kind_at_code k) ∙ ap kind_at q ∙ kind_at_code l)
