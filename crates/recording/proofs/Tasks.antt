-- How the check goes on after one event with what is noted of the tasks: a start, a join, or another event.
-- Assumes nothing.
use Prim.Native.Nat.{ℕ, ◌+◌, ◌≤◌, ◌<◌}
use mathlib.Core.Path.{◌≡◌, refl, sym, ◌∙◌}
use mathlib.Core.Logic.{⊎_elim, ◌≢◌}
use mathlib.Core.Bool.{Bool, true, false, cond, ◌&&◌, ◌||◌}
use mathlib.Core.List.{List}
use native.Mathlib.Numerals.{add-one}
use native.Mathlib.Omega.{arith}
use borrow.Author.Tests.{eq-eqb, ne_eqb}
use lib.Dec.{T, not_T, eqb}
use lib.ListN.{get_or, set, length-set}
use lib.Seq.{get_or-set_same, get_or-set_other}
use Rattle.model.specs.Trace.{Trace, tasks, locks, sync_objects, at, task, object}
use Rattle.model.specs.Tasks.{is_start, is_join, target, starts, joins}
use Rattle.model.specs.Relations.{start_of, join_of, latest_of}
use Rattle.model.specs.WellFormed.{is_new, is_over, fault}
use Rattle.laws.proofs.Tests.{equal?, is_true, is_false, or_l, or_r}
use Rattle.laws.proofs.Tasks.{start-object, join-object, starts_iff, joins_iff, starts_record, joins_record}
use Rattle.laws.proofs.Operations.{is_start-none, is_join-none}
use Rattle.laws.proofs.Faults.{fault-start, fault-join}
use Rattle.recording.specs.declared.Life.{Life}
use Rattle.recording.specs.declared.Forked.{Forked}
use Rattle.recording.specs.Asked.{blank, Done, Lived, Lives, AllDone, IsTarget, Passes}
use Rattle.recording.proofs.Laws.{unlocked}

-- Of two tests of which none is passed each gives a "no".
neither : (a b : Bool) → (a || b) ≡ false → (a ≡ false) × (b ≡ false)
neither a b q =
    (is_false a (not_T a (λ t. rw q at (or_l a b t))), is_false b (not_T b (λ t. rw q at (or_r a b t))))

-- One task has another entry, and those of the other tasks are right after the event as well.
lives_set : {σ : Trace} {g h f k u : ℕ} {lives : List Life} {life : Life} → Lives σ g f lives → u < tasks
    → Lived σ h k u life
    → ((t : ℕ) → t ≢ u → Lived σ g f t (get_or lives t blank) → Lived σ h k t (get_or lives t blank))
    → Lives σ h k (set lives u life)
lives_set {u = u} {lives} {life} z b n others = record {
  long = length-set lives u life ∙ z.long;
  at = λ t i. ⊎_elim
      (λ (q : t ≡ u). rw (q, get_or-set_same lives u life blank (omega (arith, b, z.long))) n)
      (λ d. rw (get_or-set_other lives u t life blank d) (others t d (z.at t i)))
      (equal? t u);
}

module _ {σ : Trace} {e : ℕ} where
  -- ---- what is noted of the tasks

  module _ {seen : ℕ} {lives : List Life} where
    -- An event that is no start and no join leaves starts and joins.
    pub lives_plain : (is_start σ e || is_join σ e) ≡ false → Lives σ e seen lives
        → Lives σ (e + 1) seen lives
    unfolding start_of join_of starts joins
    lives_plain n z =
        let (no-start, no-join) = neither (is_start σ e) (is_join σ e) n in record {
          long = z.long;
          at = λ t h.
              let y = z.at t h in record {
                start_is = rw (add-one e, no-start) y.start_is;
                join_is = rw (add-one e, no-join) y.join_is;
                latest_is = y.latest_is;
              };
        }

    module _ {u : ℕ} (target_is : IsTarget σ e u) (z : Lives σ e seen lives) where
      other : {t : ℕ} → t ≢ u → eqb t (target σ e) ≡ false
      other {t} d = ne_eqb t (target σ e) (λ q. d (q ∙ sym target_is.1))

      own : eqb u (target σ e) ≡ true
      own = eq-eqb u (target σ e) target_is.1

      old : Lived σ e seen u (get_or lives u blank)
      old = z.at u target_is.0

      -- A start is the one of its task,
      pub start_noted : is_start σ e ≡ true → is_join σ e ≡ false
          → Lives σ (e + 1) seen (set lives u (record {
            start = e;
            join = (get_or lives u blank).join;
            latest = (get_or lives u blank).latest;
          }))
      unfolding start_of join_of starts joins
      start_noted s n =
          lives_set z target_is.0
          (record {
            start_is = rw (add-one e, s, own) refl;
            join_is = rw (add-one e, n) old.join_is;
            latest_is = old.latest_is;
          })
          (λ t d y. record {
            start_is = rw (add-one e, s, other d) y.start_is;
            join_is = rw (add-one e, n) y.join_is;
            latest_is = y.latest_is;
          })

      -- and a join the latest one of its task.
      pub join_noted : is_start σ e ≡ false → is_join σ e ≡ true
          → Lives σ (e + 1) seen (set lives u (record {
            start = (get_or lives u blank).start;
            join = e;
            latest = (get_or lives u blank).latest;
          }))
      unfolding start_of join_of starts joins
      join_noted n s =
          lives_set z target_is.0
          (record {
            start_is = rw (add-one e, n) old.start_is;
            join_is = rw (add-one e, s, own) refl;
            latest_is = old.latest_is;
          })
          (λ t d y. record {
            start_is = rw (add-one e, n) y.start_is;
            join_is = rw (add-one e, s, other d) y.join_is;
            latest_is = y.latest_is;
          })

  -- Each event is the latest one of its task.
  pub latest_noted : {t : ℕ} {lives : List Life} → (t < tasks) × (t ≡ task σ e) → Lives σ (e + 1) e lives
      → Lives σ (e + 1) (e + 1) (set lives t (record {
        start = (get_or lives t blank).start;
        join = (get_or lives t blank).join;
        latest = e;
      }))
  unfolding latest_of
  latest_noted {t} (b, q) z =
      lives_set z b
      (record {
        start_is = (z.at t b).start_is;
        join_is = (z.at t b).join_is;
        latest_is = rw (add-one e, eq-eqb t (task σ e) q) refl;
      })
      (λ u d y. record {
        start_is = y.start_is;
        join_is = y.join_is;
        latest_is = rw (add-one e, ne_eqb u (task σ e) (λ r. d (r ∙ sym q))) y.latest_is;
      })

-- ---- starts and joins

-- Event e starts or joins task u, and what earlier events have done.
module _ {σ : Trace} {e u : ℕ} {forked : Forked} (target_is : IsTarget σ e u) (z : AllDone σ e e forked) where
  -- What is noted of the task.
  noted : Lived σ e e u (get_or forked.lives u blank)
  noted = z.lives.at u target_is.0

  small : locks ≤ object σ e → object σ e < sync_objects
  unfolding target
  small h = omega (arith, h, target_is)

  done : {op : ℕ} → op ≡ (at σ e).op → 2 ≤ op → locks ≤ object σ e → Done σ (e + 1) forked.past
  done q h beyond =
      let bound = small beyond in
      unlocked (record { op_is = q; object_is = (omega (arith, bound), refl); done = z.past }) beyond h

  module _ (a : T (is_start σ e)) where
    start_op : 2 ≡ (at σ e).op
    start_op = sym ((starts_record σ (target σ e) e).0 ((starts_iff σ (target σ e) e).1 (a, refl))).0

    start_fault : fault σ e ≡ cond (is_new σ e) (cond (is_over σ e) 16 0) 15
    start_fault =
        let beyond = start-object σ e a in fault-start σ e start_op refl beyond (small beyond)

    -- A start of another task is of a new one where nothing is noted of this,
    pub new_is : u ≢ task σ e → {b : Bool}
        → b ≡ (eqb (get_or forked.lives u blank).start 0 && eqb (get_or forked.lives u blank).join 0
        && eqb (get_or forked.lives u blank).latest 0)
        → is_new σ e ≡ b
    unfolding is_new
    new_is d q =
        rw (
          q,
          noted.start_is,
          noted.join_is,
          noted.latest_is,
          target_is.1,
          ne_eqb (target σ e) (task σ e) (λ r. d (target_is.1 ∙ r)),
        )

    -- and one of its own task is not.
    pub not_own : u ≡ task σ e → is_new σ e ≡ false
    unfolding is_new
    not_own q = rw (eq-eqb (target σ e) (task σ e) (sym target_is.1 ∙ q))

    -- A start of a task that is not new is refused,
    pub start_refused : is_new σ e ≡ false → fault σ e ≡ 15
    start_refused n = start_fault ∙ rw n

    -- and one of a new task is noted.
    pub start_passed : is_new σ e ≡ true
        → Passes σ e × AllDone σ (e + 1) e (record {
          past = forked.past;
          lives = set forked.lives u (record {
            start = e;
            join = (get_or forked.lives u blank).join;
            latest = (get_or forked.lives u blank).latest;
          });
        })
    start_passed n = (
      start_fault ∙ rw n,
      record {
        past = done start_op (omega (arith, start_op)) (start-object σ e a);
        lives = start_noted target_is z.lives (is_true _ a)
            (is_join-none σ e start_op (omega (arith, start_op)));
      },
    )

  module _ (a : T (is_join σ e)) where
    join_op : 3 ≡ (at σ e).op
    join_op = sym ((joins_record σ (target σ e) e).0 ((joins_iff σ (target σ e) e).1 (a, refl))).0

    join_fault : fault σ e ≡ cond (eqb (target σ e) (task σ e)) 16 (cond (is_over σ e) 16 0)
    join_fault =
        let beyond = join-object σ e a in fault-join σ e join_op refl beyond (small beyond)

    -- A join of the own task,
    pub join_own : u ≡ task σ e → fault σ e ≡ 16
    join_own q = join_fault ∙ rw (eq-eqb (target σ e) (task σ e) (sym target_is.1 ∙ q))

    -- and of another one.
    pub join_other : u ≢ task σ e
        → Passes σ e × AllDone σ (e + 1) e (record {
          past = forked.past;
          lives = set forked.lives u (record {
            start = (get_or forked.lives u blank).start;
            join = e;
            latest = (get_or forked.lives u blank).latest;
          });
        })
    join_other d = (
      join_fault ∙ rw (ne_eqb (target σ e) (task σ e) (λ r. d (target_is.1 ∙ r))),
      record {
        past = done join_op (omega (arith, join_op)) (join-object σ e a);
        lives = join_noted target_is z.lives (is_start-none σ e join_op (omega (arith, join_op)))
            (is_true _ a);
      },
    )
