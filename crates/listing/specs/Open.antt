-- The state of the search: the path that it extends.
use Rattle.std.specs.Prelude.{ℕ, ◌+◌, ◌≤◌, ◌≡◌, cond, List, [], ◌∷◌, T, length}
use Rattle.model.specs.Lists.{all}
use Rattle.model.specs.Trace.{Trace, is_event, is_acquire}
use Rattle.laws.specs.Chain.{Chain, signature, closes}
use Rattle.laws.specs.Frontier.{Before}
use Rattle.laws.specs.Walk.{extensions}
use Rattle.laws.specs.Returning.{Rooted}
use Rattle.frontier.specs.declared.Frontier.{Frontier}
use Rattle.chain.specs.declared.path.Path.{Path}
use Rattle.chain.specs.Attempted.{chain_of}

-- The chain is one of the trace: its events, first and last are events, the last one acquires, and the masks
-- have the first one's task and held locks.
pub record Traced (σ : Trace) (c : Chain) : Type 0 where
  pub events : T (all (is_event σ) c.events)
  pub first_event : (1 ≤ c.first) × (c.first ≤ length σ)
  pub last_event : (1 ≤ c.last) × (c.last ≤ length σ)
  pub acquires : T (is_acquire σ c.last)
  pub rooted : Rooted σ c

-- A path of the search for patterns of at most `largest` events that begin with the event `first`: it may be
-- extended by `left` events, and the frontier is that of the closure of its predecessors.
pub record Open (σ : Trace) (first largest : ℕ) (path : Path) (left : ℕ) (frontier : Frontier) : Type 0 where
  pub begins : path.chain.first ≡ first
  pub sized : path.len + left ≤ largest
  pub traced : Traced σ (chain_of path)
  pub before : Before σ (chain_of path).events frontier.front frontier.latest

-- The deadlocks that begin with a chain that is one so far and have at most k events more: it alone where it
-- is complete, and otherwise what extends it.
abbrev pub completions : Trace → ℕ → Chain → List (List ℕ)
completions σ k c = cond (closes (signature σ) c) (c.events ∷ []) (extensions σ k c)
