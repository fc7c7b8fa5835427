-- What the rows leave out of the load: its calls on short recordings, and the rounding of its per cent.
-- One record of facts and one proof, by computation.
use Rattle.std.specs.Prelude.{ℕ, ◌≡◌, refl, List, [], ◌∷◌, replicate}
use Rattle.model.specs.Calls.Load.{percent, load}
use Rattle.model.specs.Opened.{opened}
use Rattle.model.specs.Recordings.{recording, by, acq, rel, wr}
use Rattle.model.specs.SampleAnswers.{keeping}
use Rattle.model.specs.SampleDepths.{reentered}

-- Lock 0 is held after three of eight events.
abbrev pub three_of_eight : List ℕ
three_of_eight = recording (by 0 (acq 0 ∷ wr 0 ∷ wr 0 ∷ rel 0 ∷ replicate 4 (wr 0)))

-- All samples of loads.
pub record SamplePercents : Type 0 where
  -- No event; a lock that is held at the end; and three of seven events.
  pub load_empty : load (0x10 ∷ 0x00 ∷ []) 0 ≡ record { refusal = 0; event = 0; percent = 0 }
  pub load_kept : load (0x10 ∷ 0x01 ∷ 0x80 ∷ 0x3F ∷ []) 63 ≡ record { refusal = 0; event = 0; percent = 100 }
  pub load_nearest : load keeping 0 ≡ record { refusal = 0; event = 0; percent = 43 }
  -- A lock that its holder takes again, held after events 1, 2, 3 and 5 of 5.
  pub load_deep : load reentered 0 ≡ record { refusal = 0; event = 0; percent = 80 }
  -- 37.5, of an odd whole per cent.
  pub load_half : load three_of_eight 0 ≡ record { refusal = 0; event = 0; percent = 38 }
  -- Halves go to the even per cent: 0.5, 1.5, 12.5, 99.5.
  pub half_0 : percent 1 200 ≡ 0
  pub half_1 : percent 3 200 ≡ 2
  pub half_12 : percent 1 8 ≡ 12
  pub half_99 : percent 199 200 ≡ 100
  -- Just below a half and just above one, of many events and of three, whose half is no whole number; each
  -- goes to the odd per cent.
  pub below_half : percent 1699 4094 ≡ 41
  pub above_half : percent 348 4094 ≡ 9
  pub one_third : percent 1 3 ≡ 33
  pub two_thirds : percent 2 3 ≡ 67
  -- The lock is held after every event, and after none; and no events, whatever is counted.
  pub always_held : percent 4095 4095 ≡ 100
  pub never_held : percent 0 4095 ≡ 0
  pub no_such_event : percent 1 0 ≡ 0

-- Every sample of loads holds, by computation.
pub sample_percents : SamplePercents
unfolding opened
sample_percents = record {
  load_empty = refl;
  load_kept = refl;
  load_nearest = refl;
  load_deep = refl;
  load_half = refl;
  half_0 = refl;
  half_1 = refl;
  half_12 = refl;
  half_99 = refl;
  below_half = refl;
  above_half = refl;
  one_third = refl;
  two_thirds = refl;
  always_held = refl;
  never_held = refl;
  no_such_event = refl;
}
