-- What the rows leave out of the largest size: what the argument 0 stands for, and deadlocks of more than two
-- events. One record of facts and one proof, by computation.
use Rattle.std.specs.Prelude.{ℕ, ◌≡◌, refl, List, [], ◌∷◌, ◌++◌}
use Rattle.model.specs.Bytes.{encode}
use Rattle.model.specs.Calls.List.{largest_size, listing, list, list_out}
use Rattle.model.specs.Calls.Entries.{entry_number, list_entry}
use Rattle.model.specs.Opened.{opened}
use Rattle.model.specs.Rows.{blank}
use Rattle.model.specs.Recordings.{recording, by, acq, rel}

-- Four tasks round a ring of four locks: T0 a0 a1 r1, T1 a1 a2 r2, T2 a2 a3 r3, T0 r0, T3 a3 a0.
abbrev pub ring : List ℕ
ring =
    recording
    (by 0 (acq 0 ∷ acq 1 ∷ rel 1 ∷ [])
    ++ by 1 (acq 1 ∷ acq 2 ∷ rel 2 ∷ [])
    ++ by 2 (acq 2 ∷ acq 3 ∷ rel 3 ∷ [])
    ++ by 0 (rel 0 ∷ [])
    ++ by 3 (acq 3 ∷ acq 0 ∷ []))

-- A ring of three tasks and a pair: T0 a0 a1 r1 r0, T1 a1 a2 r2 a0 r0, T2 a2 a0.
abbrev pub ring_and_pair : List ℕ
ring_and_pair =
    recording
    (by 0 (acq 0 ∷ acq 1 ∷ rel 1 ∷ rel 0 ∷ [])
    ++ by 1 (acq 1 ∷ acq 2 ∷ rel 2 ∷ acq 0 ∷ rel 0 ∷ [])
    ++ by 2 (acq 2 ∷ acq 0 ∷ []))

-- All samples of sizes.
pub record SampleSizes : Type 0 where
  -- 0 is replaced; 2 and 15 stay.
  pub zero_replaced : largest_size 0 ≡ 16
  pub two_kept : largest_size 2 ≡ 2
  pub fifteen_kept : largest_size 15 ≡ 15
  -- 0 and 16 list the same, for every recording.
  pub same : (b : List ℕ) → listing b 0 ≡ listing b 16
  -- A deadlock of four tasks.
  pub four : listing ring 0 ≡ (2 ∷ 5 ∷ 8 ∷ 12 ∷ []) ∷ []
  pub four_three : listing ring 3 ≡ []
  -- Entries of several sizes, by the first number that differs, in the call and in the entry for C.
  pub all_sizes : list_out ring_and_pair 0 (blank 15) ≡ encode (3 ∷ 2 ∷ 6 ∷ 11 ∷ 2 ∷ 2 ∷ 8 ∷ []) ++ blank 1
  pub pairs : list_out ring_and_pair 2 (blank 7) ≡ encode (2 ∷ 2 ∷ 8 ∷ []) ++ blank 1
  pub counted : list ring_and_pair 0 14 ≡ record { refusal = 0; event = 0; patterns = 2; bytes = 14 }
  pub counted_16 : list ring_and_pair 16 14 ≡ record { refusal = 0; event = 0; patterns = 2; bytes = 14 }
  pub unfit : list ring_and_pair 0 13 ≡ record { refusal = 13; event = 0; patterns = 0; bytes = 0 }
  pub entry : list_entry ring_and_pair 0 14 ≡ 14

-- Every sample of sizes holds, by computation.
pub sample_sizes : SampleSizes
unfolding opened entry_number list_entry
sample_sizes = record {
  zero_replaced = refl;
  two_kept = refl;
  fifteen_kept = refl;
  same = λ b. refl;
  four = refl;
  four_three = refl;
  all_sizes = refl;
  pairs = refl;
  counted = refl;
  counted_16 = refl;
  unfit = refl;
  entry = refl;
}
