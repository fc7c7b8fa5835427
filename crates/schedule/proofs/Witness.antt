-- What the two walks answer together is whether the schedule witnesses the pattern. Assumes nothing.
use Prim.Native.Nat.{ℕ, ◌%◌}
use mathlib.Core.Path.{◌≡◌}
use mathlib.Core.Bool.{Bool, false, ◌&&◌}
use mathlib.Core.List.{List, Memᴰ}
use lib.Dec.{T}
use lib.ListN.{length}
use borrow.Author.Tests.{eq-eqb}
use Rattle.model.specs.Lists.{all}
use Rattle.model.specs.Trace.{is_event}
use Rattle.model.specs.Recording.{decode_all}
use Rattle.model.specs.Bytes.{numbers, is_whole}
use Rattle.model.specs.Schedule.{sync_preserving, enabled, witnesses}
use Rattle.model.specs.Calls.Check.{check_events}
use Rattle.laws.proofs.Lists.{all_iff, all_ext}
use Rattle.laws.proofs.Trace.{is_event_iff}
use Rattle.laws.proofs.Questions.{events_sound}
use Rattle.schedule.specs.declared.Progress.{Progress}
use Rattle.schedule.specs.Listed.{UpTo, Kept}
use Rattle.schedule.specs.Next.{is_next}
use Rattle.schedule.proofs.Tasks.{enabled-next}

-- The events that are next by the table of tasks are the enabled ones.
next-enabled : (b ρ last p : List ℕ) → (check_events (decode_all b)).refusal ≡ 0 → UpTo (decode_all b) ρ last
    → T (all (is_event (decode_all b)) p) → all (is_next (decode_all b) last) p
    ≡ all (enabled (decode_all b) ρ) p
next-enabled b ρ last p accepted u events =
    all_ext (is_next (decode_all b) last) (enabled (decode_all b) ρ) p same
  where
    same : (e : ℕ) → Memᴰ e p → is_next (decode_all b) last e ≡ enabled (decode_all b) ρ e
    same e m =
        let (h, k) = (is_event_iff (decode_all b) e).0 ((all_iff (is_event (decode_all b)) p).0 events e m) in
        enabled-next (decode_all b) ρ last u (events_sound b accepted) e h k

module _ (b s p : List ℕ) where
  -- What the definitions answer.
  abbrev pub Whole : Bool → Type 0
  Whole r = r ≡ (is_whole s && witnesses (decode_all b) (numbers s) (numbers p))

  module _ (even : length s % 2 ≡ 0) where
    -- A schedule that is not order-keeping.
    pub witness_refused : sync_preserving (decode_all b) (numbers s) ≡ false → Whole false
    unfolding witnesses
    witness_refused n = rw (eq-eqb (length s % 2) 0 even, n)

    -- One that is: the pattern decides.
    pub witness_decided : (check_events (decode_all b)).refusal ≡ 0 → {p' : Progress}
        → Kept (decode_all b) (numbers s) p' → T (all (is_event (decode_all b)) (numbers p))
        → Whole (all (is_next (decode_all b) p'.last) (numbers p))
    unfolding witnesses
    witness_decided accepted {p'} k events =
        rw (eq-eqb (length s % 2) 0 even, k.keeps)
        (next-enabled b (numbers s) p'.last (numbers p) accepted k.up_to events)
