-- What the calls answer in 01's fields: `refusal` is the number of the first question that is answered "no",
-- and `event` the event that caused it, or 0; without a refusal both are 0. With one, every other field is
-- zero.
use Rattle.std.specs.Prelude.{ℕ, Bool, true, false, Option, Some, None, Result, Ok, Err}
use Rattle.model.specs.declared.Refusal.{Refusal}
use Rattle.model.specs.declared.Question.{Question}
use Rattle.model.specs.declared.Related.{Related}
use Rattle.model.specs.declared.Entries.{Entries}
use Rattle.model.specs.declared.Verdict.{Verdict as Decided}
use Rattle.model.specs.declared.Verdict.TheVariants.{Not, Deadlock}
use Rattle.model.specs.Refused.{number}

-- What the check of a recording answers.
pub record Outcome : Type 0 where
  pub refusal : ℕ
  pub event : ℕ

-- The relations of one event: held locks as a mask and their count, match, writer and predecessor.
pub record Relations : Type 0 where
  pub refusal : ℕ
  pub event : ℕ
  pub held : ℕ
  pub locks : ℕ
  pub matching : ℕ
  pub writer : ℕ
  pub predecessor : ℕ

-- How many events the closure added to the lent set.
pub record Closed : Type 0 where
  pub refusal : ℕ
  pub event : ℕ
  pub added : ℕ

-- How many patterns were listed, and how many bytes were written for them.
pub record Listed : Type 0 where
  pub refusal : ℕ
  pub event : ℕ
  pub patterns : ℕ
  pub bytes : ℕ

-- A lent pattern's verdict: `deadlock`, or 01's "not".
pub record Verdict : Type 0 where
  pub refusal : ℕ
  pub event : ℕ
  pub deadlock : Bool

-- A lent pattern's verdict, and how many bytes of schedule were written for it.
pub record Witness : Type 0 where
  pub refusal : ℕ
  pub event : ℕ
  pub deadlock : Bool
  pub bytes : ℕ

-- Whether a proposed schedule is order-keeping and leaves every event of the lent pattern next: 01's "yes"
-- and "no".
pub record Checked : Type 0 where
  pub refusal : ℕ
  pub event : ℕ
  pub valid : Bool

-- A lock's load, in per cent.
pub record Load : Type 0 where
  pub refusal : ℕ
  pub event : ℕ
  pub percent : ℕ

-- ---- the fields of what a call returns

-- The number of the first "no" among an event's questions, or 0.
abbrev pub fault_of : {A : Type 0} → Result A Question → ℕ
fault_of (Ok a) = 0
fault_of (Err q) = number q

-- The check's.
abbrev pub outcome_of : {A : Type 0} → Result A Refusal → Outcome
outcome_of (Ok a) = record { refusal = 0; event = 0 }
outcome_of (Err r) = record { refusal = number r.question; event = r.event }

-- The relations call's.
abbrev pub relations_of : Result Related Refusal → Relations
relations_of (Ok a) = record {
  refusal = 0;
  event = 0;
  held = a.held;
  locks = a.locks;
  matching = a.matching;
  writer = a.writer;
  predecessor = a.predecessor;
}
relations_of (Err r) = record {
  refusal = number r.question;
  event = r.event;
  held = 0;
  locks = 0;
  matching = 0;
  writer = 0;
  predecessor = 0;
}

-- The closure call's, which returns how many events it added.
abbrev pub closed_of : Result ℕ Refusal → Closed
closed_of (Ok added) = record { refusal = 0; event = 0; added = added }
closed_of (Err r) = record { refusal = number r.question; event = r.event; added = 0 }

-- The listing call's.
abbrev pub listed_of : Result Entries Refusal → Listed
listed_of (Ok a) = record { refusal = 0; event = 0; patterns = a.patterns; bytes = a.bytes }
listed_of (Err r) = record { refusal = number r.question; event = r.event; patterns = 0; bytes = 0 }

-- The verdict is deadlock.
abbrev pub tells_deadlock : Decided → Bool
tells_deadlock Not = false
tells_deadlock Deadlock = true

-- The verdict call's.
abbrev pub verdict_of : Result Decided Refusal → Verdict
verdict_of (Ok a) = record { refusal = 0; event = 0; deadlock = tells_deadlock a }
verdict_of (Err r) = record { refusal = number r.question; event = r.event; deadlock = false }

-- The witness call's, which returns how many bytes of schedule it wrote, if the verdict is deadlock.
abbrev pub witness_of : Result (Option ℕ) Refusal → Witness
witness_of (Ok (Some bytes)) = record { refusal = 0; event = 0; deadlock = true; bytes = bytes }
witness_of (Ok None) = record { refusal = 0; event = 0; deadlock = false; bytes = 0 }
witness_of (Err r) = record { refusal = number r.question; event = r.event; deadlock = false; bytes = 0 }

-- The schedule checker's.
abbrev pub checked_of : Result Bool Refusal → Checked
checked_of (Ok valid) = record { refusal = 0; event = 0; valid = valid }
checked_of (Err r) = record { refusal = number r.question; event = r.event; valid = false }

-- The load call's, which returns a per cent.
abbrev pub load_of : Result ℕ Refusal → Load
load_of (Ok percent) = record { refusal = 0; event = 0; percent = percent }
load_of (Err r) = record { refusal = number r.question; event = r.event; percent = 0 }
