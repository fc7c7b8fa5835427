-- `lockreport::put_patterns`: what is left are entries, and a byte passed has taken at most five bytes of
-- text.
use Rattle.std.proofs.Common.{◌+◌, ◌*◌, ◌≤◌, length}
use Rattle.std.specs.Prelude.{string_bytes}
use Rattle.lockreport.specs.Text.{Entries}
use Rattle.lockreport.proofs.put_patterns.Given as goal

abbrev pub invariant-loop-left : goal.invariant-loop-left
invariant-loop-left l =
    Entries l.left
    × (length (string_bytes l.text) + 5 * length l.left
    ≤ length (string_bytes l.initial.text) + 5 * length l.entries)

abbrev pub decreases-loop-left : goal.decreases-loop-left
decreases-loop-left l = length l.left
