-- Chains of acquires, as the search for deadlock patterns keeps them: on masks of tasks and of held locks.
-- That a chain that closes is a pattern is in proofs/Search.
use Rattle.std.specs.Prelude.{ℕ, ◌^◌, Bool, not, ◌&&◌, List, [], ◌∷◌, ◌++◌, eqb, ltb}
use Rattle.std.specs.Int.Bits.{bit_and, bit_or}
use Rattle.model.specs.Lists.{all, pairwise, has_bit}
use Rattle.model.specs.Trace.{Trace, task, object, is_event, is_acquire, same_task}
use Rattle.model.specs.Relations.{held}
use Rattle.model.specs.Pattern.{unguarded, chained}

-- What the search reads of an event: whether it acquires, its task, its lock, and its held locks as a mask.
pub record Signature : Type 0 where
  pub acquires : Bool
  pub task : ℕ
  pub lock : ℕ
  pub held : ℕ

-- Events in order, the first and the last one, their tasks and their held locks, each as a mask.
pub record Chain : Type 0 where
  pub events : List ℕ
  pub first : ℕ
  pub last : ℕ
  pub tasks : ℕ
  pub guards : ℕ

-- What the search reads of a trace's event.
abbrev pub signature : Trace → ℕ → Signature
signature σ e = record { acquires = is_acquire σ e; task = task σ e; lock = object σ e; held = held σ e }

module _ (sig : ℕ → Signature) where
  -- The chain of one event.
  abbrev pub start : ℕ → Chain
  start a = record { events = a ∷ []; first = a; last = a; tasks = 2 ^ (sig a).task; guards = (sig a).held }

  -- A chain and one event more.
  abbrev pub add : Chain → ℕ → Chain
  add c e = record {
    events = c.events ++ e ∷ [];
    first = c.first;
    last = e;
    tasks = bit_or c.tasks (2 ^ (sig e).task);
    guards = bit_or c.guards (sig e).held;
  }

  -- The event may follow: its task is new, and its held locks have the last event's lock and no guard.
  abbrev pub fits : Chain → ℕ → Bool
  fits c e =
      (sig e).acquires && has_bit (sig e).held (sig c.last).lock
      && not (has_bit c.tasks (sig e).task) && eqb (bit_and c.guards (sig e).held) 0

  -- The chain is complete: the last event's lock is held at the first.
  abbrev pub closes : Chain → Bool
  closes c = has_bit (sig c.first).held (sig c.last).lock

module _ (σ : Trace) where
  -- The list closes the chain c: its events are acquires after the first one, and so on as for a pattern.
  abbrev pub closing : Chain → List ℕ → Bool
  closing c q =
      all (ltb c.first) q && all (is_acquire σ) q
      && all (λ e. not (has_bit c.tasks (task σ e))) q && pairwise (λ e f. not (same_task σ e f)) q
      && all (λ e. eqb (bit_and c.guards (held σ e)) 0) q && pairwise (unguarded σ) q
      && chained σ c.first (c.last ∷ q)

  -- The list is of events, and closes the chain.
  abbrev pub completing : Chain → List ℕ → Bool
  completing c q = all (is_event σ) q && closing c q
