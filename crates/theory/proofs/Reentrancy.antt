-- Request 9 holds: an inner acquire or release is none that closure, match, schedules and patterns name, and
-- question 5 looks at other tasks only. Assumes nothing.
use Prim.Native.Nat.{ℕ, ◌<◌}
use mathlib.Core.Path.{◌≡◌, refl, ◌∙◌}
use mathlib.Core.Logic.{◌↔◌, ◌≢◌}
use mathlib.Core.Bool.{false}
use mathlib.Core.List.{List}
use lib.Dec.{T, T_not, not_T, eqb→eq}
use Rattle.model.specs.Trace.{Trace, locks, at, is_event, object, has_acquire_op, enters, own_depth, is_inner}
use Rattle.model.specs.Recording.{trace}
use Rattle.model.specs.Relations.{holds, predecessor}
use Rattle.model.specs.WellFormed.{is_free, fault}
use Rattle.model.specs.Closed.{Direct, predecessor_is, writer_is, joined_is}
use Rattle.model.specs.Calls.Check.{check}
use Rattle.laws.proofs.Tests.{is_false, and_l, and_r}
use Rattle.laws.proofs.Lists.{all_iff}
use Rattle.laws.proofs.Depth.{is_acquire_iff}
use Rattle.laws.proofs.Relations.{writer-none, joined-none, matching-none, held_bit}
use Rattle.laws.proofs.Holds.{is_free_iff, is_free_fails}
use Rattle.laws.proofs.Faults.{fault_acquire, fault_five}
use Rattle.laws.proofs.WellFormed.{is_release_to}
use Rattle.laws.proofs.Tasks.{inner-join}
use Rattle.laws.proofs.EventKinds.{uncounted_acquire, uncounted_release, uncounted_read, inner_uncounted}
use Rattle.laws.proofs.EventKinds.{acquire_inner}
use Rattle.laws.proofs.Nesting.{holder_sole, depth-count, held_to_match, freed_by_match}
use Rattle.laws.proofs.Questions.{check_sound}
use Rattle.laws.proofs.Pattern.{is_pattern_iff}
use Rattle.laws.proofs.Schedule.{may_follow_inner}
use Rattle.theory.specs.Reentrancy.{HeldByAnother, Reentrancy, Request9}

-- A lock that another task holds is not free.
taken : (σ : Trace) (e : ℕ) → HeldByAnother σ e → is_free σ e ≡ false
taken σ e (t, b, other, h) =
    is_false (is_free σ e) (not_T (is_free σ e) (λ free.
    T_not (holds σ e t (object σ e)) ((is_free_iff σ e).0 free t b other) h))

-- So 5 is given where another task holds the lock of an acquire, and nowhere else.
five : (σ : Trace) (e : ℕ) → (fault σ e ≡ 5) ↔ (T (enters σ e) × (object σ e < locks) × HeldByAnother σ e)
unfolding enters has_acquire_op
five σ e = (
  λ q. let (a, l, n) = fault_five σ e q in (a, l, is_free_fails σ e n),
  λ r.
      let acquires = eqb→eq (at σ e).op 2 (and_l (has_acquire_op σ e) _ r.0) in
      fault_acquire σ e refl acquires r.1 ∙ rw (taken σ e r.2),
)

-- What an inner event needs itself is its predecessor, since it has no writer and joins no task.
direct : (σ : Trace) (e x : ℕ) → T (is_inner σ e) → Direct σ e x → x ≢ 0 → x ≡ predecessor σ e
direct σ e x i (predecessor_is q) d = q
direct σ e x i (writer_is q) d = absurd (d (q ∙ writer-none σ e (uncounted_read σ e (inner_uncounted σ e i))))
direct σ e x i (joined_is q) d = absurd (d (q ∙ joined-none σ e (inner-join σ e i)))

clauses : (b : List ℕ) → (check b).refusal ≡ 0 → Reentrancy (trace b)
unfolding own_depth
clauses b q =
    let σ = trace b in
    let ok = check_sound b q in
    record {
      one_holder = holder_sole σ ok;
      depth_is = depth-count σ ok;
      held_set = held_bit σ;
      from_0 = is_acquire_iff σ;
      to_0 = is_release_to σ ok;
      held_to_match = λ e f a. held_to_match σ e a f;
      freed_by_match = freed_by_match σ;
      unmatched = λ e i.
          let y = inner_uncounted σ e i in
          matching-none σ e (uncounted_acquire σ e y) (uncounted_release σ e y);
      needs_predecessor = direct σ;
      unpaired = λ e f a. (acquire_inner σ e a.first, acquire_inner σ f a.second);
      follows = may_follow_inner σ;
      in_no_pattern = λ p e t m.
          let r = (all_iff _ p).0 ((is_pattern_iff σ p).0 t).acquires e m in
          acquire_inner σ e (and_r (is_event σ e) _ r);
    }

-- Request 9 holds.
pub request9 : Request9
request9 = record { question_5 = five; reentrancy = clauses }
