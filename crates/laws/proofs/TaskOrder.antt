-- Starts and joins of a well-formed trace: a task is started once, before its events, and none of these comes
-- after its join. Assumes nothing.
use Prim.Native.Nat.{ℕ, zero, suc, ◌≤◌, ◌<◌}
use mathlib.Core.Path.{◌≡◌, refl, sym, ap, ◌∙◌}
use mathlib.Core.Logic.{◌⊎◌, inl, inr, ⊎_elim, ◌≢◌}
use mathlib.Core.Bool.{Bool, true, false, not, ◌&&◌}
use native.Mathlib.Omega.{arith}
use lib.ListN.{length}
use lib.Dec.{T, T_not, eqb, eqb→eq}
use Rattle.model.specs.Trace.{Trace, tasks, task, has_acquire_op, has_release_op}
use Rattle.model.specs.Tasks.{is_start, is_join, target, starts, joins, belongs}
use Rattle.model.specs.Relations.{latest_of, start_of, join_of, last_of, predecessor, joined}
use Rattle.model.specs.WellFormed.{is_new, is_over, joins_own}
use Rattle.laws.proofs.Tests.{parts, and_l, and_i, or_l, or_r, not-or, eq→eqb, equal?, at-most?}
use Rattle.laws.specs.Order.{previous, start_in}
use Rattle.model.specs.Closed.{Closed}
use Rattle.laws.proofs.Searches.{Latest}
use Rattle.laws.proofs.Trace.{task-event, same_task_iff}
use Rattle.laws.proofs.Tasks.{start-event, join-event, starts_iff, joins_iff, belongs_iff, start-join}
use Rattle.laws.proofs.LastEvents.{latest_of_most, latest_of_latest, latest_of-task, start_of_latest}
use Rattle.laws.proofs.LastEvents.{join_of_latest, last_of_own, last_of-start}
use Rattle.laws.proofs.Relations.{previous_own, joined_last, predecessor-previous, predecessor-start}
use Rattle.laws.proofs.Relations.{previous_latest, predecessor_below}
use Rattle.laws.proofs.Closed.{closed-predecessor}
use Rattle.laws.proofs.WellFormed.{WellFormed, unless_not, answers, sync_lt}

not-not : (a : Bool) → T (not (not a)) → T a
not-not true h = tt
not-not false h = elim h [ ]

module _ (σ : Trace) (ok : WellFormed σ) where
  -- The task that a start or a join names is one of the sixteen.
  pub start-target : (e : ℕ) → T (is_start σ e) → target σ e < tasks
  unfolding is_start target
  start-target e t =
      let small = sync_lt σ ok e (or_l (has_acquire_op σ e) _ (and_l (has_acquire_op σ e) _ t)) in omega arith

  -- Of a join too.
  pub join-target : (e : ℕ) → T (is_join σ e) → target σ e < tasks
  unfolding is_join target
  join-target e t =
      let small = sync_lt σ ok e (or_r (has_acquire_op σ e) _ (and_l (has_release_op σ e) _ t)) in omega arith

  -- A start names a task that is not its own, and that had no start, no join and no event before it.
  pub start_new : (e : ℕ) → T (is_start σ e) → (target σ e ≢ task σ e) × (start_of σ e (target σ e) ≡ 0)
      × (join_of σ e (target σ e) ≡ 0) × (latest_of σ e (target σ e) ≡ 0)
  unfolding is_new
  start_new e t =
      let (h, k) = start-event σ e t in
      let new : T (is_new σ e) = unless_not (is_start σ e) (is_new σ e) (answers σ ok e h k).new t in
      let other : T (not (eqb (target σ e) (task σ e))) = search parts in
      let unstarted : T (eqb (start_of σ e (target σ e)) 0) = search parts in
      let unjoined : T (eqb (join_of σ e (target σ e)) 0) = search parts in
      let idle : T (eqb (latest_of σ e (target σ e)) 0) = search parts in (
        λ q. T_not (eqb (target σ e) (task σ e)) other (eq→eqb (target σ e) (task σ e) q),
        eqb→eq (start_of σ e (target σ e)) 0 unstarted,
        eqb→eq (join_of σ e (target σ e)) 0 unjoined,
        eqb→eq (latest_of σ e (target σ e)) 0 idle,
      )

  -- A task that has an event was not joined before it, and the event does not join its own task.
  pub task_going : (e : ℕ) → 1 ≤ e → e ≤ length σ → (T (joins_own σ e) → ⊥) × (join_of σ e (task σ e) ≡ 0)
  unfolding is_over
  task_going e h k =
      let going = (answers σ ok e h k).going in
      let both = not-or (joins_own σ e) (is_over σ e) in
      let apart : T (not (joins_own σ e) && not (is_over σ e)) = rw (← both) going in
      let own : T (not (joins_own σ e)) = search parts in
      let on : T (not (is_over σ e)) = search parts in
      let none = not-not (eqb (join_of σ e (task σ e)) 0) on in
      (T_not (joins_own σ e) own, eqb→eq (join_of σ e (task σ e)) 0 none)

  -- A start comes before every event of its task.
  pub start_first : (s e : ℕ) → T (starts σ (task σ e) s) → 1 ≤ e → e ≤ length σ → s < e
  start_first s e t h k =
      let (start, q) = (starts_iff σ (task σ e) s).0 t in
      let (other, unstarted, unjoined, idle) = start_new s start in
      ⊎_elim (λ l. l) (λ m. absurd (⊎_elim
      (λ (x : e ≡ s). other (sym q ∙ ap (task σ) x))
      (λ (d : e ≢ s). omega (arith, idle, latest_of_most σ s (target σ s) e (omega arith) q)) (equal? e s)))
      (at-most? (suc s) e)

  -- A task is started once.
  pub start_once : (t s r : ℕ) → T (starts σ t s) → T (starts σ t r) → s ≡ r
  start_once t s r a b =
      ⊎_elim (λ l. ⊎_elim (λ m. omega arith) (λ m. absurd (twice r s b a m)) (at-most? r s))
      (λ m. absurd (twice s r a b m)) (at-most? s r)
    where
      twice : (s r : ℕ) → T (starts σ t s) → T (starts σ t r) → r < s → ⊥
      twice s r a b l =
          let (start, q) = (starts_iff σ t s).0 a in
          let (other, unstarted, unjoined, idle) = start_new s start in
          let m = (start_of_latest σ s t).latest r l b in
          omega (arith, rw (← q) at unstarted, start-event σ r ((starts_iff σ t r).0 b).0)

  -- A join comes after every event of its task, and after its start.
  pub join_last : (j e : ℕ) → T (is_join σ j) → 1 ≤ e → e ≤ length σ → T (belongs σ (target σ j) e) → e < j
  unfolding joins_own
  join_last j e a h k t =
      ⊎_elim (λ l. l) (λ m. absurd (⊎_elim (of-task m) (of-start m) ((belongs_iff σ (target σ j) e).0 t)))
      (at-most? (suc e) j)
    where
      named : T (joins σ (target σ j) j)
      named = (joins_iff σ (target σ j) j).1 (a, refl)

      of-task : j < suc e → target σ j ≡ task σ e → ⊥
      of-task m q =
          let (own, on) = task_going e h k in
          ⊎_elim (λ (x : e ≡ j). own (rw x (and_i (is_join σ j) _ a
          (eq→eqb (target σ j) (task σ j) (q ∙ ap (task σ) x)))))
          (λ (d : e ≢ j). omega (
            arith,
            rw (← q) at on,
            (join_of_latest σ e (target σ j)).latest j (omega arith) named,
            join-event σ j a,
          ))
          (equal? e j)

      of-start : j < suc e → T (starts σ (target σ j) e) → ⊥
      of-start m s =
          let (start, q) = (starts_iff σ (target σ j) e).0 s in
          let (other, unstarted, unjoined, idle) = start_new e start in
          ⊎_elim (λ (x : e ≡ j). start-join σ j (rw x at start) a)
          (λ (d : e ≢ j). omega (
            arith,
            rw (← q) at unjoined,
            (join_of_latest σ e (target σ j)).latest j (omega arith) named,
            join-event σ j a,
          ))
          (equal? e j)

  -- ---- what an event needs of its own task, and a join of another

  -- Only an event has a task that is started.
  pub started-event : (e s : ℕ) → T (starts σ (task σ e) s) → (0 < e) × (e ≤ length σ)
  started-event e s t =
      let (start, q) = (starts_iff σ (task σ e) s).0 t in
      task-event σ e (rw q (start-target s start))

  -- The start of an event's task is earlier, and it is the predecessor, or that one's task is the same.
  pub predecessor_begun : (e s : ℕ) → T (starts σ (task σ e) s)
      → (0 < s) × (s < e)
      × ((s ≡ predecessor σ e) ⊎ ((0 < predecessor σ e) × (task σ (predecessor σ e) ≡ task σ e)))
  predecessor_begun e s t =
      let (h, k) = started-event e s t in
      let early = start_first s e t h k in
      let positive = (start-event σ s ((starts_iff σ (task σ e) s).0 t).0).0 in (
        positive,
        early,
        ⊎_elim
            (λ (q : previous σ e ≡ 0).
            let found = start_of_latest σ e (task σ e) in
            let high = found.latest s early t in
            let same = start_once (task σ e) s (start_of σ e (task σ e)) t (found.passes (omega arith)) in
            inl (same ∙ sym (predecessor-start σ e q)))
            (λ (d : previous σ e ≢ 0).
            rw (predecessor-previous σ e d) (inr (omega arith, previous_own σ e d)))
            (equal? (previous σ e) 0),
      )

  -- The predecessor of a task's first event is the task's start, where it has one.
  pub predecessor_first : (e : ℕ) → 1 ≤ e → e ≤ length σ → previous σ e ≡ 0
      → predecessor σ e ≡ start_in σ (task σ e)
  predecessor_first e h k none = ⊎_elim unstarted started (equal? (start_in σ (task σ e)) 0)
    where
      all : Latest (suc (length σ)) (starts σ (task σ e)) (start_in σ (task σ e))
      all = start_of_latest σ (suc (length σ)) (task σ e)

      unstarted : start_in σ (task σ e) ≡ 0 → predecessor σ e ≡ start_in σ (task σ e)
      unstarted q =
          let earlier = start_of_latest σ e (task σ e) in
          predecessor-start σ e none ∙ ⊎_elim (λ z. z ∙ sym q)
          (λ d. absurd (omega (
            arith,
            earlier.below d,
            all.latest (start_of σ e (task σ e)) (omega (arith, earlier.below d)) (earlier.passes d),
          )))
          (equal? (start_of σ e (task σ e)) 0)

      started : start_in σ (task σ e) ≢ 0 → predecessor σ e ≡ start_in σ (task σ e)
      started d =
          let (_, _, r) = predecessor_begun e (start_in σ (task σ e)) (all.passes d) in
          ⊎_elim sym (λ (some, same). absurd (omega (
            arith,
            (previous_latest σ e).latest (predecessor σ e) (omega (arith, predecessor_below σ e))
                ((same_task_iff σ e (predecessor σ e)).1 (sym same)),
          ))) r

  -- A closed set has, with an event, the start of its task.
  pub closed-start : {v : ℕ → Type 0} → Closed σ v → (e s : ℕ) → v e → T (starts σ (task σ e) s) → v s
  closed-start {v} c e s h t = go e e h t (omega arith)
    where
      go : (n e : ℕ) → v e → T (starts σ (task σ e) s) → e ≤ n → v s
      go zero e h t b = absurd (omega (arith, predecessor_begun e s t))
      go (suc n) e h t b =
          let (positive, early, r) = predecessor_begun e s t in
          let p = predecessor σ e in
          ⊎_elim (λ (q : s ≡ p). rw q (closed-predecessor σ c e h (omega arith)))
          (λ (some, q). go n p (closed-predecessor σ c e h (omega arith)) (rw q t)
          (omega (arith, predecessor_below σ e))) r

  -- An event of a joined task, or its start, is earlier than the join, and it is what the join waits for, or
  -- belongs to that one's task and is earlier.
  pub joined-waits : (j e : ℕ) → T (is_join σ j) → 0 < e → e ≤ length σ → T (belongs σ (target σ j) e)
      → (e < j) × ((e ≡ joined σ j)
      ⊎ ((0 < joined σ j) × (e < joined σ j) × T (belongs σ (task σ (joined σ j)) e)))
  joined-waits j e a h k t =
      let early = join_last j e a h k t in (
        early,
        rw (joined_last σ j a)
            (⊎_elim (idle early) (busy early) (equal? (latest_of σ j (target σ j)) 0)),
      )
    where
      u : ℕ
      u = target σ j

      idle : e < j → latest_of σ j u ≡ 0 → (e ≡ last_of σ j u)
          ⊎ ((0 < last_of σ j u) × (e < last_of σ j u) × T (belongs σ (task σ (last_of σ j u)) e))
      idle early q =
          let found = start_of_latest σ j u in
          rw (last_of-start σ j u q) (⊎_elim
          (λ (r : u ≡ task σ e). absurd (omega (arith, latest_of_most σ j u e early (sym r))))
          (λ s. let high = found.latest e early s in
          inl (start_once u e (start_of σ j u) s (found.passes (omega arith)))) ((belongs_iff σ u e).0 t))

      busy : e < j → latest_of σ j u ≢ 0 → (e ≡ last_of σ j u)
          ⊎ ((0 < last_of σ j u) × (e < last_of σ j u) × T (belongs σ (task σ (last_of σ j u)) e))
      busy early d =
          let last = latest_of σ j u in
          let own = latest_of-task σ j u d in
          let low = (latest_of_latest σ j u).below d in
          rw (last_of_own σ j u d, own) (⊎_elim
          (λ (r : u ≡ task σ e).
          let high = latest_of_most σ j u e early (sym r) in
          ⊎_elim inl (λ (n : e ≢ last). inr (omega arith, omega arith, t)) (equal? e last))
          (λ s. inr (omega arith, before s (omega arith) (omega (arith, join-event σ j a)) own, t))
          ((belongs_iff σ u e).0 t))
        where
          before : T (starts σ u e) → 1 ≤ latest_of σ j u → latest_of σ j u ≤ length σ
              → task σ (latest_of σ j u) ≡ u → e < latest_of σ j u
          before s x y own = start_first e (latest_of σ j u) (rw own s) x y
