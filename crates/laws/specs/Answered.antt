-- The shapes of answers, refused and not, for the contracts of inner functions.
use Rattle.std.specs.Prelude.{ℕ, false, length}
use Rattle.std.specs.Int.Count.{ones}
use Rattle.model.specs.Answers.{Relations}
use Rattle.model.specs.Answers.{Load}
use Rattle.model.specs.Answers.{Listed}
use Rattle.model.specs.Answers.{Verdict}
use Rattle.model.specs.Answers.{Witness}
use Rattle.model.specs.Trace.{Trace}
use Rattle.model.specs.Relations.{predecessor, writer, matching, held}
use Rattle.model.specs.Calls.Load.{held_events, percent}

-- The relations call, refused.
abbrev pub refused_relations : ℕ → ℕ → Relations
refused_relations refusal event = record {
  refusal = refusal;
  event = event;
  held = 0;
  locks = 0;
  matching = 0;
  writer = 0;
  predecessor = 0;
}

-- The relations call, for an event.
abbrev pub event_relations : Trace → ℕ → Relations
event_relations σ e = record {
  refusal = 0;
  event = 0;
  held = held σ e;
  locks = ones (held σ e);
  matching = matching σ e;
  writer = writer σ e;
  predecessor = predecessor σ e;
}

-- The load call, refused.
abbrev pub refused_load : ℕ → ℕ → Load
refused_load refusal event = record { refusal = refusal; event = event; percent = 0 }

-- The load call, for a lock.
abbrev pub lock_load : Trace → ℕ → Load
lock_load σ l = record {
  refusal = 0;
  event = 0;
  percent = percent (held_events σ l) (length σ);
}

-- The listing call, refused.
abbrev pub refused_listing : ℕ → ℕ → Listed
refused_listing refusal event = record { refusal = refusal; event = event; patterns = 0; bytes = 0 }

-- The verdict call, refused.
abbrev pub refused_verdict : ℕ → ℕ → Verdict
refused_verdict refusal event = record { refusal = refusal; event = event; deadlock = false }

-- The witness call, refused or with the verdict "not".
abbrev pub refused_witness : ℕ → ℕ → Witness
refused_witness refusal event = record { refusal = refusal; event = event; deadlock = false; bytes = 0 }
