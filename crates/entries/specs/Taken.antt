-- What is found so far: how many patterns, how many bytes their entries take, and the output with them.
use Rattle.std.specs.Prelude.{ℕ, ◌≤◌, ◌<◌, ◌≡◌, List, ◌++◌, length, Result, Ok, IfOk, OnErr}
use Rattle.std.proofs.lemmas.List.Edits.{sets}
use Rattle.model.specs.Calls.List.{entries}
use Rattle.entries.specs.declared.found.Found.{Found}
use Rattle.entries.specs.declared.Full.{Full}

-- The patterns ps are found, in their order, with an output that was out₀ before any of them: either they are
-- counted, in this room, and written where all of them fit the output, or their entries take more than it.
pub record Taken (room : ℕ) (ps : List (List ℕ)) (out₀ out : List ℕ) (r : Result Found Full) : Type 0 where
  pub long : length out ≡ length out₀
  pub within : IfOk r (λ f. f.room ≡ room)
  pub counted : IfOk r (λ f. (f.patterns ≡ length ps) × (f.bytes ≡ length (entries ps)))
  pub written : IfOk r (λ f. f.bytes ≤ length out → out ≡ sets out₀ 0 (entries ps))
  pub over : OnErr r (room < length (entries ps))

-- What was found before, and then the patterns `more`, in the same room.
pub record Adds (more : List (List ℕ)) (out out' : List ℕ) (f : Found) (r : Result Found Full) : Type 0 where
  pub adds : (ps : List (List ℕ)) (out₀ : List ℕ) → Taken f.room ps out₀ out (Ok f)
      → Taken f.room (ps ++ more) out₀ out' r
