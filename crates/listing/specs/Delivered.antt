-- What a listing leaves in the output: all entries or nothing.
use Rattle.std.specs.Prelude.{ℕ, ◌≤◌, ◌<◌, ◌≡◌, List, length, Result, IfOk, OnErr}
use Rattle.std.proofs.lemmas.List.Edits.{sets}
use Rattle.model.specs.Calls.List.{entries}
use Rattle.entries.specs.declared.found.Found.{Found}
use Rattle.entries.specs.declared.Full.{Full}

-- The entries of the patterns ps do not fit the output, and it is as before; or they are counted, and
-- written at its front.
pub record Delivered (ps : List (List ℕ)) (out out' : List ℕ) (r : Result Found Full) : Type 0 where
  pub refused : OnErr r ((length out < length (entries ps)) × (out' ≡ out))
  pub counted : IfOk r (λ f. (f.patterns ≡ length ps) × (f.bytes ≡ length (entries ps)))
  pub written : IfOk r (λ f. (length (entries ps) ≤ length out) × (out' ≡ sets out 0 (entries ps)))
