-- `lockreport::put_events`: each event passed has taken at most six bytes of text.
use Rattle.std.proofs.Common.{◌+◌, ◌*◌, ◌≤◌, length}
use Rattle.std.specs.Prelude.{string_bytes}
use Rattle.lockreport.proofs.put_events.Given as goal

abbrev pub invariant-loop-number : goal.invariant-loop-number
invariant-loop-number l =
    length (string_bytes l.text) ≤ length (string_bytes l.initial.text) + 6 * l.number-index
