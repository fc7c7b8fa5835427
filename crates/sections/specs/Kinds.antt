-- An event's kinds and their numbers.
use Rattle.std.specs.Prelude.{ℕ, ◌<◌, ◌≡◌}
use Rattle.model.specs.Trace.{Trace, at}
use Rattle.laws.specs.EventKinds.{kind}
use Rattle.sections.specs.declared.Kind.{Kind}
use Rattle.sections.specs.declared.Kind.TheVariants.{Read, Write, Acquire, Release, Uncounted}

-- The number of a kind: its operation's, and 4 for a record that does not count.
abbrev pub kind_code : Kind → ℕ
kind_code Read = 0
kind_code Write = 1
kind_code Acquire = 2
kind_code Release = 3
kind_code Uncounted = 4

-- Event e has an operation and is of kind k.
pub record IsKind (σ : Trace) (e : ℕ) (k : Kind) : Type 0 where
  pub op_lt : (at σ e).op < 4
  pub code_is : kind_code k ≡ kind σ e
