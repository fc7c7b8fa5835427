-- Question 10's test of each number, what is decided of a lent pattern, and the events in the set of a
-- frontier.
use Rattle.std.specs.Prelude.{ℕ, ◌+◌, ◌-◌, ◌<◌, ◌≡◌, Bool, cond, ◌&&◌, List, [], ◌∷◌, leb, ltb, length}
use Rattle.std.specs.Prelude.{get_or, Option, Some, None, Result, Ok, Err}
use Rattle.model.specs.declared.Question.{Question}
use Rattle.model.specs.declared.Question.TheVariants.{Pattern}
use Rattle.model.specs.declared.Verdict.{Verdict}
use Rattle.model.specs.declared.Verdict.TheVariants.{Not, Deadlock}
use Rattle.model.specs.Lists.{filter, from}
use Rattle.model.specs.Bytes.{numbers, is_whole}
use Rattle.model.specs.Trace.{Trace, tasks, task, is_event}
use Rattle.model.specs.Pattern.{is_pattern, is_deadlock}
use Rattle.laws.specs.Chain.{Chain, signature, fits}
use Rattle.laws.specs.Frontier.{FrontOf}
use Rattle.frontier.specs.declared.Frontier.{Frontier}
use Rattle.deadlock.specs.declared.Chain.{Chain as Kept}

-- The chain of these events, of which the code keeps so much.
abbrev pub of_events : List ℕ → Kept → Chain
of_events p c = record { events = p; first = c.first; last = c.last; tasks = c.tasks; guards = c.guards }

-- Event e may come next in a chain that may become a pattern: an event later than the first one, which fits.
unfoldable pub joins : Trace → Chain → ℕ → Bool
joins σ c e = is_event σ e && ltb c.first e && fits (signature σ) c e

-- What is decided of the bytes of a pattern: its verdict, or none where they are no pattern (question 10 is
-- answered "no").
unfoldable pub judged : Trace → List ℕ → Option Verdict
judged σ p =
    cond (is_whole p && is_pattern σ (numbers p)) (Some (cond (is_deadlock σ (numbers p)) Deadlock Not)) None

-- The frontier of the closure of the predecessors of the events of p.
pub record Reached (σ : Trace) (p front : List ℕ) : Type 0 where
  pub long : length front ≡ tasks
  pub members : FrontOf σ p front

-- What is said of the bytes of a pattern: that they are none, that the verdict is "not", or that it is
-- deadlock, where f is the frontier of the closure of the predecessors.
abbrev pub Decided : Trace → List ℕ → Result Verdict Question → Frontier → Type 0
Decided σ p (Err q) f = (q ≡ Pattern) × (judged σ p ≡ None)
Decided σ p (Ok Not) f = judged σ p ≡ Some Not
Decided σ p (Ok Deadlock) f = (judged σ p ≡ Some Deadlock) × Reached σ (numbers p) f.front

-- Whatever is given by the places of a list below `count`, its length, are the numbers there.
abbrev pub Gives : (ℕ → ℕ → Type 0) → ℕ → List ℕ → Type 0
Gives given count ns =
    (length ns ≡ count) × ((i : ℕ) (e : ℕ) → i < count → given i e → e ≡ get_or ns i 0)

-- Event e where it is in the set of a frontier, and otherwise none.
abbrev pub behind_at : Trace → List ℕ → ℕ → List ℕ
behind_at σ front e = filter (λ f. leb f (get_or front (task σ f) 0)) (e ∷ [])

-- The events in the set of a frontier that are below e, in recording order.
abbrev pub behind_below : Trace → List ℕ → ℕ → List ℕ
behind_below σ front e = filter (λ f. leb f (get_or front (task σ f) 0)) (from 1 (e - 1))

-- The events in the set of a frontier.
abbrev pub behind : Trace → List ℕ → List ℕ
behind σ front = behind_below σ front (length σ + 1)
