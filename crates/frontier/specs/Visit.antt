-- An advance, and visiting one event: what it adds to the wanted events, and to the latest acquires.
use Rattle.std.specs.Prelude.{ℕ, ◌<◌, ◌≤◌, min, cond, List, Option, Some, None, eqb, get_or}
use Rattle.model.specs.Trace.{Trace, tasks, task, object, is_acquire}
use Rattle.laws.specs.Order.{awaited}
use Rattle.laws.specs.EventKinds.{marked}
use Rattle.laws.specs.Frontier.{Settled, raised, wanted}
use Rattle.frontier.specs.declared.Advance.{Advance}

-- The advance goes on: what it wants is ahead of its frontier, all of whose set has been visited.
abbrev pub Underway : Trace → Advance → Type 0
Underway σ a = Settled σ a.front a.want a.latest

-- The advance, when event e of task t is wanted as well,
abbrev pub after_raise : Advance → ℕ → ℕ → Advance
after_raise a t e = record a { want = raised a.want t e }

-- and when event x of whatever task is wanted, unless it is 0.
abbrev pub after_want : Trace → Advance → ℕ → Advance
after_want σ a x = record a { want = wanted σ a.want x }

-- The wanted events with the marked match of the earlier one of `top` and f, unless `top` is 0. Of two outer
-- acquires that is the match.
unfoldable pub wanted_earlier : Trace → List ℕ → ℕ → ℕ → List ℕ
wanted_earlier σ want top f =
    cond (eqb top 0) want (raised want (task σ (min top f)) (marked σ (min top f)))

-- The wanted events with what event f needs besides its predecessor: of an acquire and the latest one of its
-- lock, the match of the earlier one; of another event what it awaits.
unfoldable pub wanted_with : Trace → List ℕ → List ℕ → ℕ → List ℕ
wanted_with σ want latest f =
    cond (is_acquire σ f) (wanted_earlier σ want (get_or latest (object σ f) 0) f)
    (wanted σ want (awaited σ f))

-- The latest acquires with event f.
unfoldable pub latest_with : Trace → List ℕ → ℕ → List ℕ
latest_with σ latest f = cond (is_acquire σ f) (raised latest (object σ f) f) latest

-- The advance, when the outer acquire f is visited,
abbrev pub after_acquire : Trace → Advance → ℕ → Advance
after_acquire σ a f = record a {
  latest = raised a.latest (object σ f) f;
  want = wanted_earlier σ a.want (get_or a.latest (object σ f) 0) f;
}

-- and when event f is.
abbrev pub after_visit : Trace → Advance → ℕ → Advance
after_visit σ a f = record a {
  latest = latest_with σ a.latest f;
  want = wanted_with σ a.want a.latest f;
}

-- The first task whose wanted event the frontier has not reached, or that there is none.
abbrev pub Unreached : List ℕ → List ℕ → Option ℕ → Type 0
Unreached front want (Some t) =
    (t < tasks) × (get_or front t 0 < get_or want t 0)
    × ((u : ℕ) → u < t → get_or want u 0 ≤ get_or front u 0)
Unreached front want None = (t : ℕ) → t < tasks → get_or want t 0 ≤ get_or front t 0
