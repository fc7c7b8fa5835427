-- What the rows leave out of the answers: relations, sets of whole bytes, and the entries for C. One record
-- of facts and one proof, by computation; loads are in SamplePercents, largest sizes in SampleSizes.
use Rattle.std.specs.Prelude.{ℕ, ◌+◌, ◌*◌, ◌≡◌, refl, List, [], ◌∷◌, ◌++◌}
use Rattle.std.specs.Int.Count.{ones, ones_in}
use Rattle.model.specs.Answers.{Relations}
use Rattle.model.specs.Bytes.{encode}
use Rattle.model.specs.Calls.Relations.{relations, relations_refusal}
use Rattle.model.specs.Calls.Close.{close, close_out}
use Rattle.model.specs.Calls.Entries.{entry_number, list_entry, verdict_entry}
use Rattle.model.specs.Opened.{opened}
use Rattle.model.specs.Recordings.{row_a, row_c, row_d, row_f, recording, by, acq, rel, wr}

-- The relations of an event: held locks, their count, match, writer, predecessor.
abbrev pub related : ℕ → ℕ → ℕ → ℕ → ℕ → Relations
related held locks matching writer predecessor = record {
  refusal = 0;
  event = 0;
  held = held;
  locks = locks;
  matching = matching;
  writer = writer;
  predecessor = predecessor;
}

-- Task 0 acquires lock 63, task 1 acquires and releases lock 0, both write variable 0, and task 0 keeps its
-- lock to the end.
abbrev pub keeping : List ℕ
keeping =
    recording
    (by 0 (acq 63 ∷ []) ++ by 1 (acq 0 ∷ wr 0 ∷ rel 0 ∷ []) ++ by 0 (wr 0 ∷ acq 0 ∷ rel 0 ∷ []))

-- All samples of answers.
pub record SampleAnswers : Type 0 where
  -- Relations of an acquire, a release, a read, and an acquire that has no match.
  pub acquire : relations row_a 2 ≡ related 1 1 3 0 1
  pub release : relations row_a 7 ≡ related 3 2 6 0 6
  pub read : relations row_c 7 ≡ related 2 1 0 3 6
  pub kept : relations keeping 1 ≡ related 0 0 0 0 0
  -- The match of an acquire is its own task's, and a write has no writer.
  pub own : relations keeping 2 ≡ related 0 0 4 0 0
  -- A set of whole bytes, and a closed one.
  pub whole : close row_a (0x88 ∷ []) ≡ record { refusal = 0; event = 0; added = 0 }
  pub whole_set : close_out row_a (0x08 ∷ []) ≡ 0x08 ∷ []
  -- The entries for C.
  pub list_bytes : list_entry row_f 3 8 ≡ 8
  pub list_refused : list_entry (0x10 ∷ 0x01 ∷ 0x80 ∷ 0x40 ∷ []) 0 0 ≡ 2 * (65536 * 15 + 1) + 1
  pub verdict_deadlock : verdict_entry row_a (encode (2 ∷ 6 ∷ [])) ≡ 2
  pub verdict_not : verdict_entry row_d (encode (2 ∷ 8 ∷ [])) ≡ 0
  pub verdict_refused : verdict_entry row_a (encode (6 ∷ 2 ∷ [])) ≡ 2 * (65536 * 10 + 0) + 1

-- Every sample of answers holds, by computation.
pub sample_answers : SampleAnswers
unfolding opened relations relations_refusal entry_number list_entry verdict_entry ones ones_in
sample_answers = record {
  acquire = refl;
  release = refl;
  read = refl;
  kept = refl;
  own = refl;
  whole = refl;
  whole_set = refl;
  list_bytes = refl;
  list_refused = refl;
  verdict_deadlock = refl;
  verdict_not = refl;
  verdict_refused = refl;
}
