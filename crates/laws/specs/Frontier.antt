-- Closures as frontiers: a set that has all earlier events of a task with each event of it is given by the
-- latest event that it has of each task. How a frontier advances to a closure is stated here, for the
-- contracts of inner functions.
use Rattle.std.specs.Prelude.{ℕ, ◌≤◌, ◌<◌, ◌≡◌, ◌≢◌, Bool, cond, List, T, eqb, leb, ltb, length, get_or, set}
use Rattle.model.specs.Trace.{Trace, tasks, locks, task, object, is_acquire}
use Rattle.model.specs.Relations.{matching}
use Rattle.model.specs.EventSet.{has}
use Rattle.model.specs.Closed.{Direct, Closed}
use Rattle.model.specs.Pattern.{closure_before}

-- The table has the event of each task, or 0.
pub record Frontier (σ : Trace) (front : List ℕ) : Type 0 where
  pub long : length front ≡ tasks
  pub own : (t : ℕ) → t < tasks → get_or front t 0 ≢ 0
      → (get_or front t 0 ≤ length σ) × (task σ (get_or front t 0) ≡ t)

-- The event is in the set of the frontier: it is no later than the one of its task.
pub record Behind (σ : Trace) (front : List ℕ) (e : ℕ) : Type 0 where
  pub event : (1 ≤ e) × (e ≤ length σ)
  pub within : e ≤ get_or front (task σ e) 0

-- The event is in the set, and has been visited: of task t the events after `old` and up to f have not.
pub record Visited (σ : Trace) (front : List ℕ) (t old f e : ℕ) : Type 0 where
  pub behind : Behind σ front e
  pub passed : task σ e ≡ t → e ≤ f → e ≤ old

-- The frontier on its way: what visited events need is in the set of `want`, which is what is to be reached.
-- For each lock `latest` has the latest visited acquire of it, or 0.
pub record Advancing (σ : Trace) (front want latest : List ℕ) (t old f : ℕ) : Type 0 where
  pub front_ok : Frontier σ front
  pub want_ok : Frontier σ want
  pub ahead : (u : ℕ) → u < tasks → get_or front u 0 ≤ get_or want u 0
  pub latest_long : length latest ≡ locks
  pub direct_wanted : (e x : ℕ) → Visited σ front t old f e → Direct σ e x → x ≢ 0
      → x ≤ get_or want (task σ x) 0
  pub latest_visited : (l : ℕ) → l < locks → get_or latest l 0 ≢ 0
      → Visited σ front t old f (get_or latest l 0) × T (is_acquire σ (get_or latest l 0))
      × (object σ (get_or latest l 0) ≡ l)
  pub latest_most : (e : ℕ) → Visited σ front t old f e → T (is_acquire σ e) → e
      ≤ get_or latest (object σ e) 0
  pub match_wanted : (e : ℕ) → Visited σ front t old f e → T (is_acquire σ e)
      → e < get_or latest (object σ e) 0 → matching σ e ≤ get_or want (task σ e) 0

-- The frontier at rest: all of its set has been visited.
abbrev pub Settled : Trace → List ℕ → List ℕ → List ℕ → Type 0
Settled σ front want latest = Advancing σ front want latest 0 0 0

-- Every closed set that has the events of the first frontier has those of the second.
pub record Entails (σ : Trace) (given want : List ℕ) : Type 0 where
  pub entailed : (v : ℕ → Bool) → Closed σ (λ e. T (v e))
      → ((t : ℕ) → t < tasks → get_or given t 0 ≢ 0 → T (v (get_or given t 0)))
      → (t : ℕ) → t < tasks → get_or want t 0 ≢ 0 → T (v (get_or want t 0))

-- The table with event e at entry t, where it is later: a frontier at a task, or the latest acquires at a
-- lock.
abbrev pub raised : List ℕ → ℕ → ℕ → List ℕ
raised want t e = cond (ltb (get_or want t 0) e) (set want t e) want

-- The frontier with event x of whatever task, where not 0.
abbrev pub wanted : Trace → List ℕ → ℕ → List ℕ
wanted σ want x = cond (eqb x 0) want (raised want (task σ x) x)

-- The frontier is that of the smallest closed set that has the given one's events.
pub record Advanced (σ : Trace) (given front latest : List ℕ) : Type 0 where
  pub settled : Settled σ front front latest
  pub reached : (t : ℕ) → t < tasks → get_or given t 0 ≤ get_or front t 0
  pub least : Entails σ given front

-- After a turn of task t: it has come to its wanted event, and more may be wanted.
pub record Turned (σ : Trace) (front want : List ℕ) (t : ℕ) (front' want' latest' : List ℕ) : Type 0 where
  pub settled : Settled σ front' want' latest'
  pub entailed : Entails σ want want'
  pub grows : (u : ℕ) → get_or want u 0 ≤ get_or want' u 0
  pub passed : front' ≡ set front t (get_or want t 0)

-- The frontier's set is the closure of the predecessors of the events of p.
abbrev pub FrontOf : Trace → List ℕ → List ℕ → Type 0
FrontOf σ p front =
    (e : ℕ) → 1 ≤ e → e ≤ length σ → has (closure_before σ p) e ≡ leb e (get_or front (task σ e) 0)

-- A settled frontier, whose set is the closure of the predecessors of the events of p.
pub record Before (σ : Trace) (p front latest : List ℕ) : Type 0 where
  pub settled : Settled σ front front latest
  pub members : FrontOf σ p front
