-- The acquires that may stand beside the first event of a chain, as the code keeps them.
use Rattle.laws.specs.Returning.{Candidates}
use Rattle.pruning.specs.declared.candidates.Candidates.{Candidates as Kept}

-- The candidates that are kept.
abbrev pub candidates_of : Kept → Candidates
candidates_of c = record { after = c.after; other_than = c.other_than; guards = c.guards }
