-- What orders events, taken apart or together: thread order without starts, the start of a task, and what an
-- event awaits besides its predecessor. Laws are in proofs/Relations, LastEvents and Awaited.
use Rattle.std.specs.Prelude.{ℕ, suc, cond, length}
use Rattle.model.specs.Trace.{Trace, task, is_read}
use Rattle.model.specs.Relations.{latest_of, start_of, writer, joined}

-- Thread order alone: the latest earlier event of the event's task, or 0. The predecessor is this, or where
-- it is 0 the task's start.
abbrev pub previous : Trace → ℕ → ℕ
previous σ e = latest_of σ e (task σ e)

-- The start of task t, or 0.
abbrev pub start_in : Trace → ℕ → ℕ
start_in σ t = start_of σ (suc (length σ)) t

-- What an event awaits besides its predecessor: a read its writer, a join what it waits for, and another
-- event nothing, 0. One table has both, since no read is a join.
unfoldable pub awaited : Trace → ℕ → ℕ
awaited σ e = cond (is_read σ e) (writer σ e) (joined σ e)
