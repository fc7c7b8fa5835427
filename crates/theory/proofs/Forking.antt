-- Request 1 holds: what 15 and 16 refuse keeps starts before and joins after the events of their task, and
-- schedules, next events and closed sets ask for them. Assumes nothing.
use Prim.Native.Nat.{ℕ, suc, ◌≤◌, ◌<◌}
use mathlib.Core.Path.{◌≡◌, refl, ◌∙◌}
use mathlib.Core.Logic.{◌⊎◌, inl, inr, ⊎_elim, ◌↔◌, ◌≢◌}
use mathlib.Core.Bool.{false, ◌||◌}
use mathlib.Core.List.Memᴰ
use mathlib.Core.List.{List, [], ◌∷◌, ◌++◌, Memᴰ}
use native.Mathlib.Omega.{arith}
use lib.Dec.{T, T_not, not_T, eqb→eq}
use lib.ListN.{length}
use Rattle.model.specs.Trace.{Trace, tasks, sync_objects, acquire_op, release_op, at, task, object, depth}
use Rattle.model.specs.Trace.{is_event, is_acquire, is_release, has_acquire_op, has_release_op, same_task}
use Rattle.model.specs.Tasks.{is_start, is_join, target, starts}
use Rattle.model.specs.Recording.{trace}
use Rattle.model.specs.Relations.{predecessor}
use Rattle.model.specs.WellFormed.{is_over, joins_own, fault}
use Rattle.model.specs.EventSet.{has}
use Rattle.model.specs.Schedule.{may_follow, continues, sync_preserving}
use Rattle.model.specs.Calls.Check.{check}
use Rattle.laws.specs.Order.{previous, start_in}
use Rattle.laws.proofs.Tests.{and_l, and_r, or_l, or_r, or_elim, is_false, equal?}
use Rattle.laws.proofs.Lists.{all_iff}
use Rattle.laws.proofs.Depth.{is_acquire_iff, is_release_iff, Moved, stays, deeper, back, depth_moved}
use Rattle.laws.proofs.Tasks.{task_unlocked, starts_iff, start-event, start-object, starts_record}
use Rattle.laws.proofs.Tasks.{joins_record}
use Rattle.laws.proofs.Relations.{matching-none, previous_latest}
use Rattle.laws.proofs.LastEvents.{start_of_latest}
use Rattle.laws.proofs.Forks.{is_new_fails, is_over_iff, joins_own_iff}
use Rattle.laws.proofs.Faults.{fault-object, fault-start, fault_four, fault_fifteen, fault_sixteen}
use Rattle.laws.proofs.WellFormed.{WellFormed, faultless_answers}
use Rattle.laws.proofs.TaskOrder.{start_first, start_once, join_last, predecessor_first}
use Rattle.laws.proofs.Questions.{check_sound}
use Rattle.laws.proofs.Pattern.{is_pattern_iff}
use Rattle.laws.proofs.Schedule.{MayFollow, may_follow_iff, enabled_iff}
use Rattle.theory.specs.Forking.{Known, Over, Forking, Request1}
use Rattle.theory.proofs.ScheduleLaws.{schedule_laws, ended_closed}

-- ---- locks

module _ (σ : Trace) (e : ℕ) (s : T (is_start σ e || is_join σ e)) where
  -- What starts or joins a task is no outer acquire
  no_acquire : is_acquire σ e ≡ false
  no_acquire =
      is_false (is_acquire σ e) (not_T (is_acquire σ e) (λ a.
      rw (task_unlocked σ e s).0 at ((is_acquire_iff σ e).0 a).0))

  -- or release.
  no_release : is_release σ e ≡ false
  no_release =
      is_false (is_release σ e) (not_T (is_release σ e) (λ a.
      rw (task_unlocked σ e s).1 at ((is_release_iff σ e).0 a).0))

  untouched : (t l : ℕ) → depth σ (suc e) t l ≡ depth σ e t l
  untouched t l = go (depth_moved σ e t l)
    where
      go : Moved σ e t l → depth σ (suc e) t l ≡ depth σ e t l
      go (stays n q) = q
      go (deeper a p r q) = absurd (rw (task_unlocked σ e s).0 at a)
      go (back a p r q) = absurd (rw (task_unlocked σ e s).1 at a)

-- ---- schedules

-- An event of a schedule may follow those before it.
may_follow_lem : (σ : Trace) (ρ ρ' : List ℕ) (e : ℕ) → T (sync_preserving σ (ρ ++ e ∷ ρ'))
    → (seen : List ℕ) × MayFollow σ seen e × ((f : ℕ) → Memᴰ f seen → Memᴰ f ρ)
unfolding sync_preserving continues
may_follow_lem σ ρ ρ' e t =
    let (seen, may, all) = go ρ [] t in
    (seen, may, λ f m. ⊎_elim (λ n. absurd (Memᴰ.not-nil n)) (λ n. n) (all f m))
  where
    go : (ρ before : List ℕ) → T (continues σ before (ρ ++ e ∷ ρ'))
        → (seen : List ℕ) × MayFollow σ seen e
        × ((f : ℕ) → Memᴰ f seen → Memᴰ f before ⊎ Memᴰ f ρ)
    go [] before t = (before, (may_follow_iff σ before e).0 (and_l (may_follow σ before e) _ t), λ f m. inl m)
    go (x ∷ ρ) before t =
        let (seen, may, all) = go ρ (x ∷ before) (and_r (may_follow σ before x) _ t) in (
          seen,
          may,
          λ f m. ⊎_elim
              (λ n. ⊎_elim (λ q. inr (Memᴰ.head q)) inl (Memᴰ.cases_cons n))
              (λ n. inr (Memᴰ.tail n)) (all f m),
        )

-- ---- the clauses

clauses : (b : List ℕ) → (check b).refusal ≡ 0 → Forking (trace b)
clauses b q =
    let σ = trace b in
    let ok = check_sound b q in
    record {
      untouched = λ e t l s. untouched σ e s t l;
      unmatched = λ e s. matching-none σ e (no_acquire σ e s) (no_release σ e s);
      in_no_pattern = λ p e t m s.
          let r = (all_iff _ p).0 ((is_pattern_iff σ p).0 t).acquires e m in
          rw (no_acquire σ e s) at (and_r (is_event σ e) _ r);
      before_events = λ s e h k t. start_first σ ok s e t h k;
      after_events = λ j e h k a t. join_last σ ok j e a h k t;
      lists_start = λ ρ ρ' e s t u.
          let (seen, may, all) = may_follow_lem σ ρ ρ' e t in all s (may.started s u);
      lists_joined = λ ρ ρ' j e t a h k u.
          let (seen, may, all) = may_follow_lem σ ρ ρ' j t in all e (may.ended a e h k u);
      first_predecessor = first σ ok;
      next_started = λ ρ e s t u. ((enabled_iff σ ρ e).0 t).2 s u;
      closed_joined = λ c closed j e m a h k u.
          ended_closed σ (schedule_laws σ ok) (λ x. T (has c x)) closed j m a e h k u;
    }
  where
    first : (σ : Trace) → WellFormed σ → (s e : ℕ) → 1 ≤ e → e ≤ length σ → T (starts σ (task σ e) s)
        → ((f : ℕ) → 1 ≤ f → f < e → T (same_task σ e f) → ⊥) → predecessor σ e ≡ s
    first σ ok s e h k t alone =
        let found = previous_latest σ e in
        let none : previous σ e ≡ 0 =
        ⊎_elim (λ z. z) (λ d. absurd (alone (previous σ e) (omega arith) (found.below d) (found.passes d)))
        (equal? (previous σ e) 0) in
        let all = start_of_latest σ (suc (length σ)) (task σ e) in
        let (positive, inside) = start-event σ s ((starts_iff σ (task σ e) s).0 t).0 in
        let high = all.latest s (omega arith) t in
        predecessor_first σ ok e h k none
        ∙ start_once σ ok (task σ e) (start_in σ (task σ e)) s (all.passes (omega arith)) t

-- ---- the questions

-- 4: an acquire or release record whose object is above 79.
four : (σ : Trace) (e : ℕ) → (fault σ e ≡ 4)
    ↔ ((((at σ e).op ≡ acquire_op) ⊎ ((at σ e).op ≡ release_op)) × (sync_objects ≤ object σ e))
unfolding has_acquire_op has_release_op
four σ e = (
  λ q.
      let (r, l) = fault_four σ e q in (
        or_elim (has_acquire_op σ e) (has_release_op σ e) (λ t. inl (eqb→eq (at σ e).op acquire_op t))
            (λ t. inr (eqb→eq (at σ e).op release_op t)) r,
        l,
      ),
  λ (r, l). ⊎_elim (λ (a : (at σ e).op ≡ 2). fault-object σ e refl (omega arith) (omega arith) l)
      (λ (a : (at σ e).op ≡ 3). fault-object σ e refl (omega arith) (omega arith) l) r,
)

-- 15: a start of the own task or of one that is known.
fifteen : (σ : Trace) (e : ℕ) → (fault σ e ≡ 15)
    ↔ ((t : ℕ) × (t < tasks) × T (starts σ t e) × ((t ≡ task σ e) ⊎ Known σ t e))
unfolding target
fifteen σ e = (
  λ q.
      let (start, small, known) = fault_fifteen σ e q in
      let l = start-object σ e start in
      (target σ e, omega arith, (starts_iff σ (target σ e) e).1 (start, refl), (is_new_fails σ e).0 known),
  λ (t, l, s, w).
      let (start, q) = (starts_iff σ t e).0 s in
      let (a, o) = (starts_record σ t e).0 s in
      let old = (is_new_fails σ e).1 (rw q at w) in
      fault-start σ e refl a (omega arith) (omega arith) ∙ rw old,
)

-- 16: a join of the own task, or an event of a task that was joined.
sixteen : (σ : Trace) (e : ℕ) → fault σ e ≡ 16 → Over σ e
sixteen σ e q =
    or_elim (joins_own σ e) (is_over σ e) (λ t. inl ((joins_own_iff σ e).0 t))
    (λ t. inr ((is_over_iff σ e).0 t))
    (fault_sixteen σ e q)

refused : (σ : Trace) (e : ℕ) → Over σ e → fault σ e ≢ 0
refused σ e w none =
    T_not (joins_own σ e || is_over σ e) (faultless_answers σ e none).going
    (⊎_elim (λ t. or_l (joins_own σ e) _ ((joins_own_iff σ e).1 t))
    (λ t. or_r (joins_own σ e) _ ((is_over_iff σ e).1 t)) w)

-- Request 1 holds.
pub request1 : Request1
request1 = record {
  start_record = starts_record;
  join_record = joins_record;
  question_4 = four;
  question_15 = fifteen;
  question_16 = sixteen;
  refused_16 = refused;
  forking = clauses;
}
