-- A refusal's number and event are small, and the numbers that the entries return. Assumes nothing.
use Prim.Native.Nat.{ℕ, ◌+◌, ◌-◌, ◌*◌, ◌/◌, ◌≤◌, ◌<◌}
use mathlib.Core.Path.{◌≡◌, refl, sym, ◌∙◌}
use mathlib.Core.Logic.{◌≢◌, ⊎_elim}
use mathlib.Core.Bool.{Bool, true, false, cond, ◌&&◌, ◌||◌}
use mathlib.Core.List.{List}
use native.Mathlib.Omega.{arith}
use lib.Dec.{eqb, leb, ltb}
use lib.ListN.{length, get_or, drop, length-drop}
use borrow.Author.Tests.{eqb-false}
use Rattle.model.specs.Answers.{Outcome}
use Rattle.model.specs.Recording.{format, event_count, trace}
use Rattle.model.specs.WellFormed.{fault, first_fault}
use Rattle.model.specs.Trace.{Trace}
use Rattle.model.specs.Bytes.{numbers, is_whole}
use Rattle.model.specs.Pattern.{smallest_pattern, largest_pattern, is_pattern}
use Rattle.model.specs.Calls.Questions.{outcome, is_accepted, ◌then◌, asked, permits_size, fits_output}
use Rattle.model.specs.Calls.Questions.{lends_pattern}
use Rattle.model.specs.Calls.Check.{check_events, check}
use Rattle.model.specs.Calls.List.{entries, listing, list_refusal, list}
use Rattle.model.specs.Calls.Verdict.{verdict_refusal, verdict}
use Rattle.model.specs.Calls.Entries.{entry_number, list_entry, verdict_entry}
use Rattle.laws.proofs.Tests.{cond_elim, decided, equal?, at-most?}
use Rattle.laws.proofs.Trace.{decode_all-length}
use Rattle.laws.proofs.Searches.{first_from_earliest}
use Rattle.laws.proofs.Questions.{check_short, check-format, check-length, check_events_lem}

-- ---- refusals are small

-- The event that causes a refusal has a small number: 0 where it is by a question about an argument,
asked_event : (n : ℕ) (b : Bool) → (asked n b).event ≤ 4095
asked_event n true = omega arith
asked_event n false = omega arith

-- that of either in a chain,
then_event : (o p : Outcome) → o.event ≤ 4095 → p.event ≤ 4095 → (o then p).event ≤ 4095
then_event o p s t = cond_elim (λ (x : Outcome). x.event ≤ 4095) (is_accepted o) p o (λ y. t) (λ n. s)

-- and otherwise one of the recording's.
events_event : (σ : Trace) → length σ ≤ 4095 → (check_events σ).event ≤ 4095
unfolding check_events first_fault
events_event σ l =
    cond_elim (λ (x : Outcome). x.event ≤ 4095) (eqb (first_fault σ) 0) (outcome 0 0)
    (outcome (fault σ (first_fault σ)) (first_fault σ)) (λ y. omega arith) (λ n. event)
  where
    event : first_fault σ ≤ 4095
    event =
        let found = first_from_earliest 1 (length σ) (λ e. ltb 0 (fault σ e)) in
        ⊎_elim (λ (z : first_fault σ ≡ 0). omega arith) (λ d. omega (arith, found.below d))
        (equal? (first_fault σ) 0)

count_lt : (b : List ℕ) → get_or b 1 0 < 256 → event_count b < 4096
unfolding event_count
count_lt b h = omega arith

trace-length : (b : List ℕ) → length (trace b) ≤ length b / 2 - 1
unfolding trace
trace-length b = omega (arith, decode_all-length (drop 2 b), length-drop 2 b)

-- The check's.
check_event : (b : List ℕ) → get_or b 1 0 < 256 → (check b).event ≤ 4095
check_event b h =
    ⊎_elim (λ (l : 2 ≤ length b). ⊎_elim
    (λ (f : format b ≡ 1). ⊎_elim
    (λ (q : length b ≡ 2 + 2 * event_count b). rw (check_events_lem b l f q)
    (events_event (trace b) (size q)))
    (λ d. rw (check-length b l f d) (asked_event 3 false))
    (equal? (length b) (2 + 2 * event_count b)))
    (λ d. rw (check-format b l d) (asked_event 2 false)) (equal? (format b) 1))
    few (at-most? 2 (length b))
  where
    few : length b < 2 → (check b).event ≤ 4095
    few l = rw (check_short b l) (asked_event 1 false)

    size : length b ≡ 2 + 2 * event_count b → length (trace b) ≤ 4095
    size q = omega (arith, count_lt b h, trace-length b)

-- The listing's.
pub list_event : (b : List ℕ) (k room : ℕ) → get_or b 1 0 < 256 → (list_refusal b k room).event ≤ 4095
unfolding list_refusal permits_size fits_output
list_event b k room h =
    then_event (check b) (permits_size k then fits_output (entries (listing b k)) room) (check_event b h)
    (then_event (permits_size k) (fits_output (entries (listing b k)) room)
    (asked_event 8 (eqb k 0 || (leb smallest_pattern k && leb k largest_pattern)))
    (asked_event 13 (leb (length (entries (listing b k))) room)))

-- The verdict's.
pub verdict_event : (b p : List ℕ) → get_or b 1 0 < 256 → (verdict_refusal b p).event ≤ 4095
unfolding verdict_refusal lends_pattern
verdict_event b p h =
    then_event (check b) (lends_pattern (trace b) p) (check_event b h)
    (asked_event 10 (is_whole p && is_pattern (trace b) (numbers p)))

-- ---- the numbers returned

-- An answer's refusal and event are those of an outcome, and 0 where this accepts.
pub record Carries (o : Outcome) (refusal event : ℕ) : Type 0 where
  pub accepted : is_accepted o ≡ true → (refusal ≡ 0) × (event ≡ 0)
  pub refused : is_accepted o ≡ false → (refusal ≡ o.refusal) × (event ≡ o.event)

module _ {o : Outcome} {refusal event : ℕ} (z : Carries o refusal event) where
  -- The event is small where the outcome's is,
  pub carries_bounds : o.event ≤ 4095 → event < 65536
  carries_bounds s =
      decided (is_accepted o) (λ y. omega (arith, (z.accepted y).1)) (λ n. omega (arith, s, (z.refused n).1))

  -- an entry's number is odd for a refusal,
  pub carries_refused : refusal ≢ 0 → (n : ℕ) → 2 * (65536 * refusal + event) + 1 ≡ entry_number o n
  unfolding entry_number
  carries_refused d n =
      decided (is_accepted o) (λ y. absurd (d (z.accepted y).0))
      (λ w. rw ((z.refused w).0, (z.refused w).1, w))

  -- and is otherwise the call's.
  pub carries_accepted : refusal ≡ 0 → (n : ℕ) → n ≡ entry_number o n
  unfolding entry_number
  carries_accepted q n =
      decided (is_accepted o) (λ y. rw y)
      (λ w. absurd (eqb-false o.refusal 0 w (sym (z.refused w).0 ∙ q)))

module _ (b : List ℕ) (k room : ℕ) where
  -- The listing carries its refusal,
  pub list_carries : Carries (list_refusal b k room) (list b k room).refusal (list b k room).event
  unfolding list
  list_carries = record { accepted = λ y. rw y (refl, refl); refused = λ n. rw n (refl, refl) }

  -- and its number is that of the bytes written.
  pub list_entry_lem : entry_number (list_refusal b k room) (list b k room).bytes ≡ list_entry b k room
  unfolding list_entry
  list_entry_lem = refl

module _ (b p : List ℕ) where
  -- The verdict carries its refusal,
  pub verdict_carries : Carries (verdict_refusal b p) (verdict b p).refusal (verdict b p).event
  unfolding verdict
  verdict_carries = record { accepted = λ y. rw y (refl, refl); refused = λ n. rw n (refl, refl) }

  -- and its number is 2 or 0.
  pub verdict_entry_lem : entry_number (verdict_refusal b p) (cond (verdict b p).deadlock 2 0)
      ≡ verdict_entry b p
  unfolding verdict_entry
  verdict_entry_lem = refl
