-- What the tables tell of an event, as the checker asks them. That it is what the definitions of `model` say
-- is in proofs/Laws.
use Rattle.std.specs.Prelude.{ℕ, Bool, true, false, cond, List, eqb, leb, get_or}
use Rattle.model.specs.Trace.{Trace, task, object}
use Rattle.model.specs.Relations.{predecessor}
use Rattle.laws.specs.EventKinds.{marked}

-- The event is listed: it is no later than the latest listed event of its task. 0 is none.
unfoldable pub is_listed : Trace → List ℕ → ℕ → Bool
is_listed σ last e = cond (eqb e 0) false (leb e (get_or last (task σ e) 0))

-- What an event awaits is there: it is 0, or listed.
unfoldable pub is_ready : Trace → List ℕ → ℕ → Bool
is_ready σ last x = cond (eqb x 0) true (is_listed σ last x)

-- The event is enabled (01: next): its predecessor is the latest listed event of its task, or where none of
-- that is listed, a listed event of another one, its start.
unfoldable pub is_next : Trace → List ℕ → ℕ → Bool
is_next σ last e =
    let own = get_or last (task σ e) 0 in
    cond (eqb (predecessor σ e) own) true (cond (eqb own 0) (is_listed σ last (predecessor σ e)) false)

-- The outer acquire finds its lock free and keeps lock order: no outer acquire of the lock is listed, or the
-- latest one is earlier and its match is listed.
unfoldable pub is_unlocked : Trace → List ℕ → List ℕ → ℕ → Bool
is_unlocked σ last acquires e =
    let latest = get_or acquires (object σ e) 0 in
    cond (eqb latest 0) true (cond (leb e latest) false (is_listed σ last (marked σ latest)))
