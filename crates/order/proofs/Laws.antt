-- The order of one event off what is kept of the earlier ones, and how the event changes that.
-- Assumes nothing.
use Prim.Native.Nat.{ℕ, ◌+◌, ◌-◌, ◌≤◌, ◌<◌}
use mathlib.Core.Path.{◌≡◌, refl, sym, ◌∙◌}
use mathlib.Core.Logic.{◌≢◌}
use mathlib.Core.Bool.{true, false}
use mathlib.Core.List.{List}
use native.Mathlib.Numerals.{add-one}
use native.Mathlib.Omega.{arith}
use lib.ListN.{length, get_or, set, length-set, length-map, get_or-map}
use lib.Seq.{map-set, map-set_same}
use borrow.Author.Tests.{eq-eqb, ne_eqb}
use Rattle.model.specs.Trace.{Trace, tasks, variables, at, task, object, is_write}
use Rattle.model.specs.Recording.{decode_all}
use Rattle.model.specs.Tasks.{is_start, target}
use Rattle.model.specs.Relations.{latest_of, start_of, last_of, joined}
use Rattle.model.specs.Calls.Check.{check_events}
use Rattle.laws.specs.Order.{awaited}
use Rattle.laws.specs.Walked.{LatestEvents}
use Rattle.laws.proofs.Relations.{joined_last}
use Rattle.laws.proofs.LatestEvents.{latest-set, latest_keep, latest-writer, latest_of_lem, latest-start_of}
use Rattle.laws.proofs.Operations.{is_read_op, is_write_op, is_start-none, starts_is, joins_is}
use Rattle.laws.proofs.Awaited.{awaited_read}
use Rattle.laws.proofs.WellFormed.{sync-object}
use Rattle.laws.proofs.Questions.{events_sound}
use Rattle.order.specs.declared.TaskEvents.{TaskEvents}
use Rattle.order.specs.declared.Latest.{Latest}
use Rattle.order.specs.Kept.{none, of_task, events, starts, LatestBefore}

-- The table with e as the latest event of task t, or as its start.
abbrev pub with_event : List TaskEvents → ℕ → ℕ → List TaskEvents
with_event table t e = set table t (record { event = e; start = (of_task table t).start })

abbrev pub with_start : List TaskEvents → ℕ → ℕ → List TaskEvents
with_start table t e = set table t (record { event = (of_task table t).event; start = e })

-- Each sets the one and leaves the other.
module _ (table : List TaskEvents) (t e : ℕ) where
  event_set : events (with_event table t e) ≡ set (events table) t e
  event_set = map-set _ table t _

  start_left : starts (with_event table t e) ≡ starts table
  start_left = map-set_same _ table t _ none refl

  start_set : starts (with_start table t e) ≡ set (starts table) t e
  start_set = map-set _ table t _

  event_left : events (with_start table t e) ≡ events table
  event_left = map-set_same _ table t _ none refl

module _ {σ : Trace} {e : ℕ} {latest : Latest} (z : LatestBefore σ e latest) where
  events_long : length (events latest.tasks) ≡ tasks
  events_long = length-map latest.tasks _ ∙ z.tasks_long

  starts_long : length (starts latest.tasks) ≡ tasks
  starts_long = length-map latest.tasks _ ∙ z.tasks_long

  -- ---- the last event of a task

  module _ {t : ℕ} (h : t < tasks) where
    event_is : (of_task latest.tasks t).event ≡ latest_of σ e t
    event_is =
        sym (get_or-map _ latest.tasks t none)
        ∙ latest_of_lem σ e (events latest.tasks) z.event t (omega (arith, h, events_long))

    -- What is kept as the task's start is that.
    pub start_is : (of_task latest.tasks t).start ≡ start_of σ e t
    start_is =
        sym (get_or-map _ latest.tasks t none)
        ∙ latest-start_of σ e (starts latest.tasks) z.start t (omega (arith, h, starts_long))

    -- Without an event it is the start,
    pub last_start : (of_task latest.tasks t).event ≡ 0 → (of_task latest.tasks t).start ≡ last_of σ e t
    unfolding last_of
    last_start q = start_is ∙ rw (eq-eqb (latest_of σ e t) 0 (sym event_is ∙ q))

    -- and otherwise the latest one.
    pub last_event : (of_task latest.tasks t).event ≢ 0 → (of_task latest.tasks t).event ≡ last_of σ e t
    unfolding last_of
    last_event d = event_is ∙ rw (ne_eqb (latest_of σ e t) 0 (rw event_is at d))

  module _ {op o : ℕ} (q : op ≡ (at σ e).op) (p : (o < variables) × (o ≡ object σ e)) where
    -- A read awaits the latest write of its variable.
    pub read_awaits : op ≡ 0 → get_or latest.writes o 0 ≡ awaited σ e
    read_awaits a =
        let read = is_read_op σ e q ∙ eq-eqb op 0 a in
        rw p.1 (latest-writer σ e latest.writes z.write read (omega (arith, p, z.writes_long))
        ∙ sym (awaited_read σ e read))

    -- ---- an event is noted

    module _ {t : ℕ} (is-task : (t < tasks) × (t ≡ task σ e)) where
      abbrev noted : List TaskEvents
      noted = with_event latest.tasks t e

      noted_long : length noted ≡ tasks
      noted_long = length-set latest.tasks t _ ∙ z.tasks_long

      event_noted : LatestEvents (λ f. true) (task σ) (e + 1) (events noted)
      event_noted =
          rw (add-one e, event_set latest.tasks t e, is-task.1)
          (latest-set (λ f. true) (task σ) e (events latest.tasks) z.event tt
          (omega (arith, is-task, events_long)))

      unwritten : op ≢ 1 → LatestEvents (is_write σ) (object σ) (e + 1) latest.writes
      unwritten d =
          rw (add-one e)
          (latest_keep (is_write σ) (object σ) e latest.writes z.write (is_write_op σ e q ∙ ne_eqb op 1 d))

      unstarted : is_start σ e ≡ false → LatestEvents (is_start σ) (target σ) (e + 1) (starts noted)
      unstarted n =
          rw (add-one e, start_left latest.tasks t e)
          (latest_keep (is_start σ) (target σ) e (starts latest.tasks) z.start n)

      -- A write is the latest of its variable,
      pub write_noted : op ≡ 1
          → LatestBefore σ (e + 1) (record { tasks = noted; writes = set latest.writes o e })
      write_noted a = record {
        tasks_long = noted_long;
        event = event_noted;
        start = unstarted (is_start-none σ e q (omega arith));
        writes_long = length-set latest.writes o e ∙ z.writes_long;
        write = rw (add-one e, p.1)
            (latest-set (is_write σ) (object σ) e latest.writes z.write
            (rw (is_write_op σ e q, eq-eqb op 1 a) tt) (omega (arith, p, z.writes_long)));
      }

      -- a start the one of its task,
      pub start_noted : op ≡ 2 → 64 ≤ o → o < 80
          → LatestBefore σ (e + 1) (record { tasks = with_start noted (o - 64) e; writes = latest.writes })
      unfolding target
      start_noted a h k = record {
        tasks_long = length-set noted (o - 64) _ ∙ noted_long;
        event = rw (event_left noted (o - 64) e) event_noted;
        start = rw (add-one e, start_set noted (o - 64) e, start_left latest.tasks t e, p.1)
            (latest-set (is_start σ) (target σ) e (starts latest.tasks) z.start
            (rw (starts_is σ e q (rw p.1 at h) a) tt) (omega (arith, p, k, starts_long)));
        writes_long = z.writes_long;
        write = unwritten (omega arith);
      }

      -- and another event none of these.
      pub event_alone : op ≢ 1 → is_start σ e ≡ false
          → LatestBefore σ (e + 1) (record { tasks = noted; writes = latest.writes })
      event_alone d n = record {
        tasks_long = noted_long;
        event = event_noted;
        start = unstarted n;
        writes_long = z.writes_long;
        write = unwritten d;
      }

-- What a join waits for.
pub join_awaits : (σ : Trace) (e : ℕ) {op o : ℕ} → op ≡ (at σ e).op → (o < variables) × (o ≡ object σ e)
    → op ≡ 3 → 64 ≤ o → {r : ℕ} → r ≡ last_of σ e (o - 64) → r ≡ joined σ e
unfolding target
join_awaits σ e q p a h r =
    r ∙ rw p.1 (sym (joined_last σ e (rw (joins_is σ e q (rw p.1 at h) a) tt)))

-- The object of an accepted acquire or release record is a lock, or it stands for a task.
pub names_task : (b : List ℕ) → (check_events (decode_all b)).refusal ≡ 0 → (e : ℕ) {op o : ℕ}
    → op ≡ (at (decode_all b) e).op → (o < variables) × (o ≡ object (decode_all b) e) → 2 ≤ op → op ≤ 3
    → o < 80
names_task b accepted e {op} q p h k = rw p.1 (sync-object _ (events_sound b accepted) e op q h k)
