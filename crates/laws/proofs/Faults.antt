-- The faults of an event by its operation, and which event's fault decides the check. Assumes nothing.
use Prim.Native.Nat.{ℕ, ◌≤◌, ◌<◌}
use mathlib.Core.Path.{◌≡◌, ◌∙◌}
use mathlib.Core.Logic.{⊎_elim, ◌≢◌}
use mathlib.Core.Bool.{Bool, true, false, cond, not, ◌&&◌, ◌||◌}
use native.Mathlib.Omega.{arith}
use lib.ListN.{length}
use lib.Dec.{T, T_not, eqb, ltb, ltb→lt, lt→ltb}
use borrow.Author.Tests.{eq-eqb, ne_eqb, lt-ltb, le-ltb}
use Rattle.model.specs.Trace.{Trace, locks, sync_objects, at, task, object, is_read}
use Rattle.model.specs.Trace.{has_acquire_op, has_release_op, enters, leaves}
use Rattle.model.specs.Tasks.{target, is_start}
use Rattle.model.specs.Relations.{holds, writer}
use Rattle.model.specs.WellFormed.{is_free, is_new, is_over, joins_own, fault, first_fault}
use Rattle.model.specs.Calls.Questions.{outcome}
use Rattle.model.specs.Calls.Check.{check_events}
use Rattle.laws.proofs.Tests.{decided, equal?, at-most?, and_iff, and_l, or_l, is_true, is_false}
use Rattle.laws.proofs.Trace.{enters-object}
use Rattle.laws.proofs.Operations.{is_read_op, has_acquire_op_op, has_release_op_op, enters_op, leaves_op}
use Rattle.laws.proofs.Operations.{is_start_op, is_join_op}
use Rattle.laws.proofs.Searches.{Earliest, first_from_earliest}

-- ---- one event, by its operation

module _ (σ : Trace) (e : ℕ) {op : ℕ} (q : op ≡ (at σ e).op) where
  -- The questions in terms of operation and object.
  fault_op : fault σ e
      ≡ cond ((eqb op 2 || eqb op 3) && not (ltb (object σ e) sync_objects)) 4
      (cond ((eqb op 2 && ltb (object σ e) locks) && not (is_free σ e)) 5
      (cond ((eqb op 3 && ltb (object σ e) locks) && not (holds σ e (task σ e) (object σ e))) 6
      (cond (eqb op 0 && eqb (writer σ e) 0) 7
      (cond ((eqb op 2 && not (ltb (object σ e) locks)) && not (is_new σ e)) 15
      (cond ((eqb op 3 && not (ltb (object σ e) locks)) && eqb (target σ e) (task σ e) || is_over σ e) 16
      0)))))
  unfolding fault joins_own
  fault_op =
      rw (
        has_acquire_op_op σ e q,
        has_release_op_op σ e q,
        enters_op σ e q,
        leaves_op σ e q,
        is_start_op σ e q,
        is_join_op σ e q,
        is_read_op σ e q,
      )

  -- 4: an acquire or release record with an object that is too large.
  pub fault-object : 2 ≤ op → op ≤ 3 → sync_objects ≤ object σ e → fault σ e ≡ 4
  fault-object a b l =
      fault_op ∙ rw (le-ltb (object σ e) sync_objects l)
      (⊎_elim (λ (z : op ≡ 2). rw (eq-eqb op 2 z))
      (λ (d : op ≢ 2). rw (ne_eqb op 2 d, eq-eqb op 3 (omega arith))) (equal? op 2))

  -- 5: an acquire's lock is held by no other task, and its own is not over.
  pub fault_acquire : op ≡ 2 → object σ e < locks → fault σ e ≡ cond (is_free σ e) (cond (is_over σ e) 16 0) 5
  fault_acquire a l =
      fault_op ∙ rw (a, lt-ltb (object σ e) locks l, lt-ltb (object σ e) sync_objects (omega arith))
      (decided (is_free σ e) (λ y. rw y) (λ y. rw y))

  -- 6: a release's lock is held by its task, which is not over.
  pub fault_release : op ≡ 3 → object σ e < locks
      → fault σ e ≡ cond (holds σ e (task σ e) (object σ e)) (cond (is_over σ e) 16 0) 6
  fault_release a l =
      fault_op ∙ rw (a, lt-ltb (object σ e) locks l, lt-ltb (object σ e) sync_objects (omega arith))
      (decided (holds σ e (task σ e) (object σ e)) (λ y. rw y) (λ y. rw y))

  -- 15: a start's task is new, and its own is not over.
  pub fault-start : op ≡ 2 → locks ≤ object σ e → object σ e < sync_objects
      → fault σ e ≡ cond (is_new σ e) (cond (is_over σ e) 16 0) 15
  fault-start a l m =
      fault_op ∙ rw (a, le-ltb (object σ e) locks l, lt-ltb (object σ e) sync_objects m)
      (decided (is_new σ e) (λ y. rw y) (λ y. rw y))

  -- 16: a join is not of its own task, which is not over.
  pub fault-join : op ≡ 3 → locks ≤ object σ e → object σ e < sync_objects
      → fault σ e ≡ cond (eqb (target σ e) (task σ e)) 16 (cond (is_over σ e) 16 0)
  fault-join a l m =
      fault_op ∙ rw (a, le-ltb (object σ e) locks l, lt-ltb (object σ e) sync_objects m)
      (decided (eqb (target σ e) (task σ e)) (λ y. rw y) (λ y. rw y))

  -- A write's task is not over,
  pub fault_write : op ≡ 1 → fault σ e ≡ cond (is_over σ e) 16 0
  fault_write a = fault_op ∙ rw a

  -- and 7: a read has a writer.
  pub fault_read : op ≡ 0 → fault σ e ≡ cond (eqb (writer σ e) 0) 7 (cond (is_over σ e) 16 0)
  fault_read a = fault_op ∙ rw a

-- ---- one event, by its fault

-- A question whose number is not given is passed, and a later one decides.
pub passed : (b : Bool) (n : ℕ) {m : ℕ} (r : ℕ) → n ≢ m → cond b n r ≡ m → T (not b) × (r ≡ m)
passed true n r d e = absurd (d e)
passed false n r d e = (tt, e)

-- The questions of an event, by what is asked, and the number of the first "no".
abbrev asks : Bool → Bool → Bool → Bool → Bool → Bool → ℕ
asks a b c d f g = cond a 4 (cond b 5 (cond c 6 (cond d 7 (cond f 15 (cond g 16 0)))))

-- Each number is given by its own question.
module _ (a b c d f g : Bool) where
  asks_four : asks a b c d f g ≡ 4 → T a
  asks_four q = decided a (λ y. rw y tt) (λ n. absurd (others (rw n at q)))
    where
      others : ◌≡◌ {A = ℕ} (cond b 5 (cond c 6 (cond d 7 (cond f 15 (cond g 16 0))))) 4 → ⊥
      others q =
          let five = passed b 5 _ (omega arith) q in
          let six = passed c 6 _ (omega arith) five.1 in
          let seven = passed d 7 _ (omega arith) six.1 in
          let fifteen = passed f 15 _ (omega arith) seven.1 in
          omega (arith, (passed g 16 0 (omega arith) fifteen.1).1)

  asks_five : asks a b c d f g ≡ 5 → T b
  asks_five q =
      let four = passed a 4 _ (omega arith) q in
      decided b (λ y. rw y tt) (λ n. absurd (others (rw n at four.1)))
    where
      others : ◌≡◌ {A = ℕ} (cond c 6 (cond d 7 (cond f 15 (cond g 16 0)))) 5 → ⊥
      others q =
          let six = passed c 6 _ (omega arith) q in
          let seven = passed d 7 _ (omega arith) six.1 in
          let fifteen = passed f 15 _ (omega arith) seven.1 in
          omega (arith, (passed g 16 0 (omega arith) fifteen.1).1)

  past_seven : {n : ℕ} → 7 < n → asks a b c d f g ≡ n → cond f 15 (cond g 16 0) ≡ n
  past_seven h q =
      let four = passed a 4 _ (omega arith) q in
      let five = passed b 5 _ (omega arith) four.1 in
      let six = passed c 6 _ (omega arith) five.1 in
      (passed d 7 _ (omega arith) six.1).1

  asks_fifteen : asks a b c d f g ≡ 15 → T (not a) × T f
  asks_fifteen q = (
    (passed a 4 _ (omega arith) q).0,
    decided f (λ y. rw y tt) (λ n. absurd (omega (
      arith,
      (passed g 16 0 (omega arith) (rw n at (past_seven (omega arith) q))).1,
    ))),
  )

  asks_sixteen : asks a b c d f g ≡ 16 → T g
  asks_sixteen q =
      let fifteen = passed f 15 _ (omega arith) (past_seven (omega arith) q) in
      decided g (λ y. rw y tt) (λ n. absurd (omega (arith, rw n at fifteen.1)))

module _ (σ : Trace) (e : ℕ) where
  abbrev big : Bool
  big = (has_acquire_op σ e || has_release_op σ e) && not (ltb (object σ e) sync_objects)

  abbrev taken : Bool
  taken = enters σ e && not (is_free σ e)

  abbrev unheld : Bool
  unheld = leaves σ e && not (holds σ e (task σ e) (object σ e))

  abbrev unwritten : Bool
  unwritten = is_read σ e && eqb (writer σ e) 0

  abbrev old : Bool
  old = is_start σ e && not (is_new σ e)

  -- Only an acquire or release record has the fault 4.
  pub fault_four : fault σ e ≡ 4 → T (has_acquire_op σ e || has_release_op σ e) × (sync_objects ≤ object σ e)
  unfolding fault
  fault_four q =
      let h = asks_four big taken unheld unwritten old (joins_own σ e || is_over σ e) q in
      let sync = has_acquire_op σ e || has_release_op σ e in
      let (r, large) = (and_iff sync (not (ltb (object σ e) sync_objects))).0 h in (
        r,
        ⊎_elim (λ l. l) (λ l. absurd (T_not (ltb (object σ e) sync_objects) large
            (lt→ltb (object σ e) sync_objects l))) (at-most? sync_objects (object σ e)),
      )

  -- Only an acquire has the fault 5, and only of a lock that is not free for it.
  pub fault_five : fault σ e ≡ 5 → T (enters σ e) × (object σ e < locks) × (is_free σ e ≡ false)
  unfolding fault
  fault_five q =
      let h = asks_five big taken unheld unwritten old (joins_own σ e || is_over σ e) q in
      let (a, free) = (and_iff (enters σ e) (not (is_free σ e))).0 h in
      (a, enters-object σ e a, is_false (is_free σ e) free)

  -- Only a start has the fault 15, and only of a task that is not new.
  pub fault_fifteen : fault σ e ≡ 15 → T (is_start σ e) × (object σ e < sync_objects) × (is_new σ e ≡ false)
  unfolding fault is_start
  fault_fifteen q =
      let (small, h) = asks_fifteen big taken unheld unwritten old (joins_own σ e || is_over σ e) q in
      let (start, known) = (and_iff (is_start σ e) (not (is_new σ e))).0 h in
      let r = or_l (has_acquire_op σ e) (has_release_op σ e) (and_l (has_acquire_op σ e) _ start) in
      let sync = is_true (has_acquire_op σ e || has_release_op σ e) r in (
        start,
        ⊎_elim (λ l. absurd (rw (sync, le-ltb (object σ e) sync_objects l) at small)) (λ l. l)
            (at-most? sync_objects (object σ e)),
        is_false (is_new σ e) known,
      )

  -- The fault 16 is that of a join of the own task, or of an event of a task that is over.
  pub fault_sixteen : fault σ e ≡ 16 → T (joins_own σ e || is_over σ e)
  unfolding fault
  fault_sixteen q = asks_sixteen big taken unheld unwritten old (joins_own σ e || is_over σ e) q

-- ---- the event that decides

module _ (σ : Trace) where
  first : Earliest 1 (length σ) (λ e. ltb 0 (fault σ e)) (first_fault σ)
  unfolding first_fault
  first = first_from_earliest 1 (length σ) (λ e. ltb 0 (fault σ e))

  -- The earliest event with a fault decides.
  pub check_events-fault : (e : ℕ) → 1 ≤ e → e ≤ length σ → ((f : ℕ) → 1 ≤ f → f < e → fault σ f ≡ 0)
      → fault σ e ≢ 0 → check_events σ ≡ outcome (fault σ e) e
  unfolding check_events
  check_events-fault e h k none d = rw (same, ne_eqb e 0 (omega arith))
    where
      fails : T (ltb 0 (fault σ e))
      fails = lt→ltb 0 (fault σ e) (omega arith)

      found : first_fault σ ≢ 0
      found = omega (arith, first.found e (omega arith) h (omega arith) fails)

      same : first_fault σ ≡ e
      same =
          ⊎_elim (λ z. z)
          (λ x. absurd (omega (
            arith,
            ltb→lt 0 (fault σ (first_fault σ)) (first.passes found),
            none (first_fault σ) (omega (arith, first.from found))
                (omega (arith, first.earliest e h (omega arith) fails)),
          )))
          (equal? (first_fault σ) e)

  -- Where no event has a fault, nothing is refused.
  pub check_events-none : ((f : ℕ) → 1 ≤ f → f ≤ length σ → fault σ f ≡ 0) → check_events σ ≡ outcome 0 0
  unfolding check_events
  check_events-none none = rw same
    where
      same : first_fault σ ≡ 0
      same =
          ⊎_elim (λ z. z)
          (λ x. absurd (omega (
            arith,
            ltb→lt 0 (fault σ (first_fault σ)) (first.passes x),
            none (first_fault σ) (omega (arith, first.from x)) (omega (arith, first.below x)),
          )))
          (equal? (first_fault σ) 0)
