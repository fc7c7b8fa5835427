-- What is known of the records of an accepted recording. Assumes nothing.
use Rattle.model.specs.Recording.{decode_all}
use Rattle.laws.proofs.WellFormed.{WellFormed}
use Rattle.laws.proofs.Questions.{events_sound}
use Rattle.recording.specs.declared.Records.{Records}

-- Their events are those of a well-formed trace.
pub sound : (r : Records) → WellFormed (decode_all r.bytes.now)
sound r = events_sound r.bytes.now r.accepted
