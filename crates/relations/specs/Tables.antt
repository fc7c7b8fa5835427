-- The tables of a recording: for each event 1 to n what the definitions say of it, but that a row has what
-- the event awaits, a read its writer and a join what it waits for, and as the match of an inner event, a
-- start or a join its own number.
use Rattle.std.specs.Prelude.{ℕ, ◌≤◌, ◌<◌, ◌≡◌, length, get_or, set}
use Rattle.model.specs.Trace.{Trace, tasks}
use Rattle.model.specs.Relations.{predecessor, held}
use Rattle.laws.specs.Order.{awaited, start_in}
use Rattle.laws.specs.Walked.{marked_before}
use Rattle.laws.specs.EventKinds.{marked}
use Rattle.order.specs.Kept.{of_task, LatestBefore}
use Rattle.sections.specs.Kept.{OpenBefore}
use Rattle.relations.specs.declared.Row.{Row}
use Rattle.relations.specs.declared.Tables.{Tables}
use Rattle.relations.specs.declared.Walk.{Walk}

-- The row of event e, at its index.
abbrev pub row : Tables → ℕ → Row
row tables e = record {
  held = get_or tables.held e 0;
  predecessor = get_or tables.predecessors e 0;
  awaited = get_or tables.awaited e 0;
  matching = get_or tables.matches e 0;
}

-- The row of an event of which nothing is noted.
abbrev pub blank_row : Row
blank_row = record { held = 0; predecessor = 0; awaited = 0; matching = 0 }

-- The tables with another row of event e.
abbrev pub with_row : Tables → ℕ → Row → Tables
with_row tables e r = record {
  held = set tables.held e r.held;
  predecessors = set tables.predecessors e r.predecessor;
  awaited = set tables.awaited e r.awaited;
  matches = set tables.matches e r.matching;
  tasks = tables.tasks;
}

-- Each row has the relations of its event, its match with a mark, and for each task there is its start.
pub record Tabled (σ : Trace) (tables : Tables) : Type 0 where
  pub held_at : (e : ℕ) → (1 ≤ e) × (e ≤ length σ) → (row tables e).held ≡ held σ e
  pub predecessor_at : (e : ℕ) → (1 ≤ e) × (e ≤ length σ) → (row tables e).predecessor ≡ predecessor σ e
  pub start_at : (t : ℕ) → t < tasks → (of_task tables.tasks t).start ≡ start_in σ t
  pub awaited_at : (e : ℕ) → (1 ≤ e) × (e ≤ length σ) → (row tables e).awaited ≡ awaited σ e
  pub matching_at : (e : ℕ) → (1 ≤ e) × (e ≤ length σ) → (row tables e).matching ≡ marked σ e

-- The row is that of event f, but that its match is as far as the events before e show it.
pub record IsRow (σ : Trace) (e f : ℕ) (r : Row) : Type 0 where
  pub held_is : r.held ≡ held σ f
  pub predecessor_is : r.predecessor ≡ predecessor σ f
  pub awaited_is : r.awaited ≡ awaited σ f
  pub matching_is : r.matching ≡ marked_before σ e f

-- Right before event e is noted each earlier event has its row,
pub record Noted (σ : Trace) (e : ℕ) (tables : Tables) : Type 0 where
  pub at : (f : ℕ) → 1 ≤ f → f < e → IsRow σ e f (row tables f)

-- and the walk has what noting event e asks for.
pub record Walked (σ : Trace) (e : ℕ) (walk : Walk) : Type 0 where
  pub section : OpenBefore σ e walk.sections.now
  pub latest : LatestBefore σ e walk.latest.now
