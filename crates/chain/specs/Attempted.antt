-- Paths of the search, and one event more: what is decided of it.
use Rattle.std.specs.Prelude.{ℕ, ◌^◌, ◌≤◌, ◌<◌, ◌≡◌, ◌≢◌, true, cond, not, List, [], ◌∷◌, ◌++◌, Option, Some}
use Rattle.std.specs.Prelude.{None, eqb, leb, length, take, get_or}
use Rattle.std.specs.Int.Bits.{bit_or}
use Rattle.model.specs.Lists.{all}
use Rattle.model.specs.Trace.{Trace, task}
use Rattle.model.specs.Pattern.{is_deadlock}
use Rattle.laws.specs.Chain.{Chain}
use Rattle.laws.specs.Walk.{branch}
use Rattle.laws.specs.Returning.{Rooted}
use Rattle.laws.specs.Frontier.{Before}
use Rattle.frontier.specs.declared.Frontier.{Frontier}
use Rattle.deadlock.specs.declared.Chain.{Chain as Kept}
use Rattle.deadlock.specs.Judged.{of_events}
use Rattle.chain.specs.declared.path.Path.{Path}
use Rattle.chain.specs.declared.Grown.{Grown}
use Rattle.chain.specs.declared.Trial.{Trial}
use Rattle.chain.specs.declared.Trial.TheVariants.{Success, Failure, TaskFailure, Skipped}

-- The chain of a path, with its events.
abbrev pub chain_of : Path → Chain
chain_of path = of_events (take path.len path.events) path.chain

-- The frontier of the last attempt, where this was at an event of the task of e, is that of the predecessors
-- of the events p and of an event of this task before e.
pub record Reusable (σ : Trace) (p : List ℕ) (e : ℕ) (grown : Grown) : Type 0 where
  pub again : (f : Frontier) → grown.last ≡ Some (task σ e, f) → (d : ℕ) × (1 ≤ d) × (d < e)
      × (task σ d ≡ task σ e) × Before σ (p ++ d ∷ []) f.front f.latest

-- The last attempt, where it was at an event of task t.
abbrev pub kept_of : ℕ → Option (ℕ × Frontier) → Option (ℕ × Frontier)
kept_of t None = None
kept_of t (Some (u, f)) = cond (eqb u t) (Some (u, f)) None

-- What the frontier of the closure of the predecessors of the events p and e decides of e: where its set has
-- one of p, it has it for later events of the task as well.
abbrev pub judged : Trace → List ℕ → Frontier → ℕ → Trial
judged σ p f e =
    cond (all (λ d. not (leb d (get_or f.front (task σ d) 0))) p)
    (cond (leb e (get_or f.front (task σ e) 0)) Failure (Success f)) TaskFailure

-- A chain c' has the events and the first event of the chain c, and its masks are rooted in that one.
pub record Along (σ : Trace) (c c' : Chain) : Type 0 where
  pub events : c'.events ≡ c.events
  pub first : c'.first ≡ c.first
  pub rooted : Rooted σ c'

-- Event e after a chain: with success they make a deadlock so far; otherwise e adds nothing along the chain,
-- and where its task fails no later event of the task does. The frontier of a success is that of their
-- predecessors, and so is that of the last attempt, whose task is that of e, unless e is skipped.
pub record Attempted (σ : Trace) (k : ℕ) (c : Chain) (e : ℕ) (r : Trial) (old new : Grown) : Type 0 where
  pub deadlock : (f : Frontier) → r ≡ Success f → is_deadlock σ (c.events ++ e ∷ []) ≡ true
  pub reached : (f : Frontier) → r ≡ Success f → Before σ (c.events ++ e ∷ []) f.front f.latest
  pub grows : r ≢ Skipped → (f : Frontier) × (new.last ≡ Some (task σ e, f))
      × Before σ (c.events ++ e ∷ []) f.front f.latest
  pub unchanged : r ≡ Skipped → new ≡ old
  pub dropped : ((f : Frontier) → r ≢ Success f) → (c' : Chain) → Along σ c c' → branch σ k c' e ≡ []
  pub later : r ≡ TaskFailure → (c' : Chain) → Along σ c c' → (f : ℕ) → e < f → f ≤ length σ
      → task σ f ≡ task σ e → branch σ k c' f ≡ []

-- The chain whose later events are sought after an attempt at event e: with the task of e, where that fails.
abbrev pub excluded_after : Trace → Kept → Trial → ℕ → Kept
excluded_after σ c TaskFailure e = record {
  first = c.first;
  last = c.last;
  tasks = bit_or c.tasks (2 ^ (task σ e));
  guards = c.guards;
}
excluded_after σ c _ e = c
