-- How the check goes on from event to event: that a task is over is asked last, and the first fault decides.
-- Assumes nothing.
use Prim.Native.Nat.{ℕ, ◌+◌, ◌/◌, ◌≤◌, ◌<◌}
use mathlib.Core.Path.{◌≡◌, refl, sym, ◌∙◌}
use mathlib.Core.Logic.{⊎_elim, ◌≢◌}
use mathlib.Core.Bool.{Bool, false, not, ◌||◌}
use mathlib.Core.List.{List}
use native.Mathlib.Omega.{arith}
use lib.Dec.{not_T, eqb}
use lib.ListN.{get_or-replicate, length, get_or, set, replicate, length-replicate}
use borrow.Author.Tests.{eq-eqb, ne_eqb}
use Rattle.model.specs.Trace.{Trace, tasks, locks, variables, task, object, is_write}
use Rattle.model.specs.Tasks.{is_start, is_join, starts, joins}
use Rattle.model.specs.Relations.{start_of, join_of, latest_of}
use Rattle.model.specs.Lists.{last_before}
use Rattle.model.specs.Recording.{decode_all}
use Rattle.model.specs.WellFormed.{is_over, fault}
use Rattle.model.specs.Calls.Questions.{outcome}
use Rattle.model.specs.Calls.Check.{check_events}
use Rattle.laws.proofs.Tests.{decided, equal?, is_false, or_r}
use Rattle.laws.proofs.Tasks.{joins_iff}
use Rattle.laws.proofs.Forks.{is_over_iff}
use Rattle.laws.proofs.Trace.{decode_all-length}
use Rattle.laws.proofs.LatestEvents.{latest-start}
use Rattle.laws.proofs.Kept.{holders-start}
use Rattle.laws.proofs.Faults.{check_events-fault, check_events-none}
use Rattle.recording.specs.declared.Past.{Past}
use Rattle.recording.specs.declared.Life.{Life}
use Rattle.recording.specs.declared.Forked.{Forked}
use Rattle.recording.specs.Asked.{blank, Done, Lives, AllDone, Passes, Faultless, Plain, Asking}
use Rattle.recording.proofs.Tasks.{latest_noted}

-- ---- one event

-- One event more without a fault.
faultless_next : (σ : Trace) (e : ℕ) → Faultless σ e → fault σ e ≡ 0 → Faultless σ (e + 1)
faultless_next σ e z none f a b =
    ⊎_elim (λ (s : f ≡ e). rw s none) (λ d. z f a (omega arith)) (equal? f e)

-- Event e of task t, to which the check has come and that no question before the last refuses.
module _ {σ : Trace} {e t : ℕ} {before after : Forked} (y : Asking σ e before)
    (task_is : (t < tasks) × (t ≡ task σ e)) (z : Passes σ e × AllDone σ (e + 1) e after) where
  over_is : is_over σ e ≡ not (eqb (get_or before.lives t blank).join 0)
  unfolding is_over
  over_is = rw ((y.done.lives.at t task_is.0).join_is, task_is.1)

  -- An event of a task that is over.
  pub answer_over : (get_or before.lives t blank).join ≢ 0 → ◌≡◌ {A = ℕ} 16 (fault σ e)
  answer_over d = sym (z.0 ∙ rw (over_is, ne_eqb (get_or before.lives t blank).join 0 d))

  -- An event without a fault is the latest of its task.
  pub answer_passed : (get_or before.lives t blank).join ≡ 0
      → (◌≡◌ {A = ℕ} 0 (fault σ e))
      × Asking σ (e + 1) (record {
        past = after.past;
        lives = set after.lives t (record {
          start = (get_or after.lives t blank).start;
          join = (get_or after.lives t blank).join;
          latest = e;
        });
      })
  answer_passed n =
      let none : fault σ e ≡ 0 = z.0 ∙ rw (over_is, eq-eqb (get_or before.lives t blank).join 0 n) in (
        sym none,
        record {
          faultless = faultless_next σ e y.faultless none;
          done = record { past = z.1.past; lives = latest_noted task_is z.1.lives };
        },
      )

-- ---- before the first start or join

-- Before event 1 nothing is done,
pub done-start : (σ : Trace)
    → Done σ 1 (record {
      locks = record { holders = replicate locks 0; depths = replicate locks 1 };
      writes = replicate variables 0;
    })
done-start σ = record {
  holder = holders-start;
  writes_long = length-replicate {A = ℕ} variables 0;
  written = latest-start (is_write σ) (object σ) variables;
}

-- since none is earlier.
none_earlier : (p : ℕ → Bool) → ◌≡◌ {A = ℕ} 0 (last_before 1 p)
none_earlier p = decided (p 0) (λ y. rw y refl) (λ y. rw y refl)

-- Nor is anything noted of a task.
pub lives-start : (σ : Trace) → Lives σ 1 1 (replicate tasks blank)
unfolding start_of join_of latest_of starts joins
lives-start σ = record {
  long = length-replicate {A = Life} tasks blank;
  at = λ t h. rw (get_or-replicate {A = Life} tasks t blank blank h) (record {
    start_is = none_earlier (starts σ t);
    join_is = none_earlier (joins σ t);
    latest_is = none_earlier (λ f. eqb t (task σ f));
  });
}

module _ {σ : Trace} {e : ℕ} {past : Past} (z : Plain σ e past) where
  -- While no task was joined, none is over.
  pub plain-over : is_over σ e ≡ false
  plain-over = is_false (is_over σ e) (not_T (is_over σ e) (λ t.
      let (f, h, k, j) = (is_over_iff σ e).0 t in
      rw (z.unforked f h k) at (or_r (is_start σ f) (is_join σ f) ((joins_iff σ (task σ e) f).0 j).0)))

  -- An event that is neither and has no fault leaves it so.
  pub plain-next : {next : Past} → (is_start σ e || is_join σ e) ≡ false → Passes σ e → Done σ (e + 1) next
      → Plain σ (e + 1) next
  plain-next n fault_is done = record {
    faultless = faultless_next σ e z.faultless (fault_is ∙ rw plain-over refl);
    unforked = λ f a b. ⊎_elim (λ (s : f ≡ e). rw s n) (λ d. z.unforked f a (omega arith)) (equal? f e);
    done = done;
  }

-- ---- all events

module _ (b : List ℕ) (e : ℕ) (faultless : Faultless (decode_all b) e) where
  -- A refusal at event e decides.
  pub asked_refused : (r : ℕ) → 1 ≤ e → e ≤ length b / 2 → r ≡ fault (decode_all b) e → r ≢ 0
      → outcome r e ≡ check_events (decode_all b)
  asked_refused r h k q d =
      rw q (sym (check_events-fault (decode_all b) e h (omega (arith, decode_all-length b)) faultless
      (λ n. d (q ∙ n))))

  -- After the last event nothing is refused.
  pub asked_passed : length b / 2 < e → outcome 0 0 ≡ check_events (decode_all b)
  asked_passed k =
      sym (check_events-none (decode_all b) (λ f i j. faultless f i (omega (arith, decode_all-length b))))
