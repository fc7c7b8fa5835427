-- The answers of the closure call, question by question. Assumes nothing.
use Prim.Native.Nat.{ℕ, suc, ◌-◌, ◌*◌}
use mathlib.Core.Path.{◌≡◌}
use mathlib.Core.Logic.{◌≢◌}
use mathlib.Core.Bool.{Bool, true, false, not}
use mathlib.Core.List.{List}
use lib.ListN.{length}
use borrow.Author.Tests.{eq-eqb, ne_eqb}
use Rattle.model.specs.Answers.{Closed}
use Rattle.model.specs.Lists.{all, from}
use Rattle.model.specs.Recording.{trace}
use Rattle.model.specs.EventSet.{members, set_length, lent_bit, lent_set, set_bytes}
use Rattle.model.specs.Closure.{closure}
use Rattle.model.specs.Calls.Questions.{lends_set, lends_events}
use Rattle.model.specs.Calls.Check.{check}
use Rattle.model.specs.Calls.Close.{close_refusal, close, close_out}

-- The closure call, refused.
abbrev pub refused_closed : ℕ → ℕ → Closed
refused_closed refusal event = record { refusal = refusal; event = event; added = 0 }

module _ (b set : List ℕ) where
  -- A recording that is refused.
  pub close_unchecked : (check b).refusal ≢ 0
      → (close b set ≡ refused_closed (check b).refusal (check b).event) × (close_out b set ≡ set)
  unfolding close close_out close_refusal
  close_unchecked d = let n = ne_eqb (check b).refusal 0 d in (rw (n, n), rw (n, n))

  module _ (c : (check b).refusal ≡ 0) where
    -- 11: not the length of a set.
    pub close-length : length set ≢ set_length (length (trace b))
        → (close b set ≡ refused_closed 11 0) × (close_out b set ≡ set)
    unfolding close close_out close_refusal lends_set
    close-length d =
        let y = eq-eqb (check b).refusal 0 c in
        let n = ne_eqb (length set) (set_length (length (trace b))) d in (rw (y, n), rw (y, n))

    module _ (l : length set ≡ set_length (length (trace b))) where
      -- The bits after the last event are zero.
      abbrev clear : Bool
      clear =
          all (λ e. not (lent_bit set e)) (from (suc (length (trace b))) (8 * length set - length (trace b)))

      -- 12: a bit after the last event.
      pub close_spare : clear ≡ false → (close b set ≡ refused_closed 12 0) × (close_out b set ≡ set)
      unfolding close close_out close_refusal lends_set lends_events
      close_spare n =
          let y = eq-eqb (check b).refusal 0 c in
          let z = eq-eqb (length set) (set_length (length (trace b))) l in (rw (y, z, n), rw (y, z, n))

      -- The set is closed.
      pub close_closed : clear ≡ true
          → (close b set ≡ record {
            refusal = 0;
            event = 0;
            added = length (members (trace b) (closure (trace b) (lent_set (trace b) set)))
                - length (members (trace b) (lent_set (trace b) set));
          })
          × (close_out b set ≡ set_bytes (trace b) (closure (trace b) (lent_set (trace b) set)))
      unfolding close close_out close_refusal lends_set lends_events
      close_closed n =
          let y = eq-eqb (check b).refusal 0 c in
          let z = eq-eqb (length set) (set_length (length (trace b))) l in (rw (y, z, n), rw (y, z, n))
