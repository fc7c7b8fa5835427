-- What is kept right before an event: the latest event of each task, its start, and the latest write of each
-- variable.
use Rattle.std.specs.Prelude.{ℕ, ◌≡◌, true, List, length, get_or, map}
use Rattle.model.specs.Trace.{Trace, tasks, variables, task, object, is_write}
use Rattle.model.specs.Tasks.{is_start, target}
use Rattle.laws.specs.Walked.{LatestEvents}
use Rattle.order.specs.declared.TaskEvents.{TaskEvents}
use Rattle.order.specs.declared.Latest.{Latest}

-- The events of a task that has none,
abbrev pub none : TaskEvents
none = record { event = 0; start = 0 }

-- and of task t.
abbrev pub of_task : List TaskEvents → ℕ → TaskEvents
of_task table t = get_or table t none

-- The latest events of tasks, and their starts.
abbrev pub events : List TaskEvents → List ℕ
events = map (λ (t : TaskEvents). t.event)

abbrev pub starts : List TaskEvents → List ℕ
starts = map (λ (t : TaskEvents). t.start)

-- These are the latest ones before event e.
pub record LatestBefore (σ : Trace) (e : ℕ) (latest : Latest) : Type 0 where
  pub tasks_long : length latest.tasks ≡ tasks
  pub event : LatestEvents (λ f. true) (task σ) e (events latest.tasks)
  pub start : LatestEvents (is_start σ) (target σ) e (starts latest.tasks)
  pub writes_long : length latest.writes ≡ variables
  pub write : LatestEvents (is_write σ) (object σ) e latest.writes
