-- `vectors::text::put_numbers`: each number passed has taken at most 21 bytes.
use Rattle.std.proofs.Common.{◌+◌, ◌*◌, ◌≤◌, length, string_bytes}
use Rattle.vectors.proofs.text.put_numbers.Given as goal

abbrev pub invariant-loop-number : goal.invariant-loop-number
invariant-loop-number l =
    length (string_bytes l.text) ≤ length (string_bytes l.initial.text) + 21 * l.number-index
