-- How tables tell the records of acquires and releases that do not count as such (inner ones, starts and
-- joins), which change no holder and have no match, from those that do: by a kind of their own, or by a mark
-- among the matches. Laws are in proofs/EventKinds and proofs/Marks.
use Rattle.std.specs.Prelude.{ℕ, Bool, cond, not, ◌&&◌, ◌||◌}
use Rattle.model.specs.Trace.{Trace, at, has_acquire_op, has_release_op, is_acquire, is_release}
use Rattle.model.specs.Relations.{matching}

-- The record of an acquire or a release that is no outer one: an inner one, a start or a join.
unfoldable pub is_uncounted : Trace → ℕ → Bool
is_uncounted σ e =
    (has_acquire_op σ e && not (is_acquire σ e)) || (has_release_op σ e && not (is_release σ e))

-- The kind of such a record, which is no operation's number.
abbrev pub uncounted_kind : ℕ
uncounted_kind = 4

-- An event's kind: its operation, unless it is such a record.
unfoldable pub kind : Trace → ℕ → ℕ
kind σ e = cond (is_uncounted σ e) uncounted_kind (at σ e).op

-- An event's match, but that such a record has its own number, which is no match.
unfoldable pub marked : Trace → ℕ → ℕ
marked σ e = cond (is_uncounted σ e) e (matching σ e)
