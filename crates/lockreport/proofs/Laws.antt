-- Laws of the entries of a listing, and of how long its lines are. Assumes nothing.
use Prim.Native.Nat.{ℕ, ◌+◌, ◌*◌, ◌/◌, ◌%◌, ◌^◌, ◌≤◌, ◌<◌}
use mathlib.Core.Path.{◌≡◌, ap, ◌∙◌}
use mathlib.Core.List.{List, [], ◌∷◌, ◌++◌}
use native.Mathlib.Omega.{arith}
use lib.ListN.{length, get_or, take, drop, length-append}
use lib.Seq.{take-append_seam, drop-append_seam}
use Rattle.std.specs.Prelude.{codes, decimal}
use Rattle.std.proofs.lemmas.Fmt.{length-decimal-le}
use Rattle.model.specs.Refused.{number}
use Rattle.model.specs.declared.Question.{Question}
use Rattle.model.specs.declared.Question.TheVariants.{TwoBytes, Format, Length, Object, LockFree, LockHeld}
use Rattle.model.specs.declared.Question.TheVariants.{Written, LargestSize, EventNumber, Pattern, SetLength}
use Rattle.model.specs.declared.Question.TheVariants.{SpareBits, OutputLength, LockNumber, TaskNew, TaskOpen}
use Rattle.model.specs.Answers.{Listed}
use Rattle.model.specs.Bytes.{numbers, encode}
use Rattle.model.specs.Calls.List.{entries, listing, list, list_out}
use Rattle.laws.proofs.Bytes.{numbers-at, encode-length}
use Rattle.laws.proofs.Calls.{entries-length, list_answer, list_out-written}
use Rattle.lockreport.specs.Text.{Entries}

module _ (b p : List ℕ) (ps : List (List ℕ)) (q : b ≡ entries (p ∷ ps)) where
  -- In front of entries, the size of the first stands,
  entry_size : 2 ≤ length b → get_or (numbers b) 0 0 ≡ length p
  entry_size h = omega (arith, numbers-at b 0 h, high, low)
    where
      high : get_or b 0 0 ≡ length p / 256
      high = ap (λ (d : List ℕ). get_or d 0 0) q

      low : get_or b 1 0 ≡ length p % 256
      low = ap (λ (d : List ℕ). get_or d 1 0) q

  -- and behind it, the other entries do.
  entry_rest : drop (2 * length p + 2) b ≡ entries ps
  entry_rest =
      let entry = encode (length p ∷ p) in
      let end : 2 * length p + 2 ≡ length entry = omega (arith, encode-length (length p ∷ p)) in
      ap (λ (k : ℕ). drop k b) end ∙ ap (drop (length entry)) q ∙ drop-append_seam entry (entries ps)

module _ (b : List ℕ) (h : 0 < length b) (e : Entries b) where
  -- Entries that are not empty begin with a size,
  pub size_within : 2 ≤ length b
  size_within = within e.patterns e.are
    where
      within : (ps : List (List ℕ)) → b ≡ entries ps → 2 ≤ length b
      within [] q = absurd (omega (arith, h, ap length q))
      within (p ∷ ps) q = omega (arith, ap length q ∙ entries-length p ps)

  -- which counts the event numbers behind it,
  pub entry_within : 2 * get_or (numbers b) 0 0 + 2 ≤ length b
  entry_within = within e.patterns e.are
    where
      within : (ps : List (List ℕ)) → b ≡ entries ps → 2 * get_or (numbers b) 0 0 + 2 ≤ length b
      within [] q = absurd (omega (arith, h, ap length q))
      within (p ∷ ps) q =
          rw (entry_size b p ps q size_within) (omega (arith, ap length q ∙ entries-length p ps))

  -- and what is behind these are entries.
  pub others_are : Entries (drop (2 * get_or (numbers b) 0 0 + 2) b)
  others_are = are e.patterns e.are
    where
      are : (ps : List (List ℕ)) → b ≡ entries ps → Entries (drop (2 * get_or (numbers b) 0 0 + 2) b)
      are [] q = absurd (omega (arith, h, ap length q))
      are (p ∷ ps) q =
          rw (entry_size b p ps q size_within) (record { patterns = ps; are = entry_rest b p ps q })

-- What the proof of a function that parts them cites.
pub ruleset first_entry = (size_within, entry_within, others_are)

-- A listing that is not refused leaves entries in front of the output, as many bytes of them as it says.
pub listed_front : (b out out' : List ℕ) (k : ℕ) (r : Listed) → r ≡ list b k (length out)
    → out' ≡ list_out b k out → r.refusal ≡ 0 → (r.bytes ≤ length out') × Entries (take r.bytes out')
listed_front b out out' k r q w z = (
  omega (arith, size, ap length whole, length-append bytes left),
  record { patterns = listing b k; are = rw (whole, size) (take-append_seam bytes left) },
)
  where
    bytes : List ℕ
    bytes = entries (listing b k)

    left : List ℕ
    left = drop (length bytes) out

    fine : (list b k (length out)).refusal ≡ 0
    fine = rw q at z

    whole : out' ≡ bytes ++ left
    whole = w ∙ list_out-written b k out fine

    size : r.bytes ≡ length bytes
    size = ap (λ (l : Listed). l.bytes) (q ∙ list_answer b k (length out) fine)

-- A question's number is at most 16.
number_small : (q : Question) → number q ≤ 16
number_small TwoBytes = omega arith
number_small Format = omega arith
number_small Length = omega arith
number_small Object = omega arith
number_small LockFree = omega arith
number_small LockHeld = omega arith
number_small Written = omega arith
number_small LargestSize = omega arith
number_small EventNumber = omega arith
number_small Pattern = omega arith
number_small SetLength = omega arith
number_small SpareBits = omega arith
number_small OutputLength = omega arith
number_small LockNumber = omega arith
number_small TaskNew = omega arith
number_small TaskOpen = omega arith

module _ (text text' : List ℕ) where
  -- A space and an event number take at most six bytes,
  pub event_within : (n : ℕ) → n < 2 ^ 16 → text' ≡ text ++ 32 ∷ decimal n → length text' ≤ length text + 6
  event_within n h e =
      let few = length-decimal-le 5 n (omega arith) (omega arith) (omega arith) in
      omega (arith, few, ap length e, length-append text (32 ∷ decimal n))

  -- the last line of a listing at most 28,
  pub total_within : (n : ℕ) → n < 2 ^ 64 → text' ≡ text ++ codes "listed " ++ decimal n ++ codes "\n"
      → length text' ≤ length text + 28
  total_within n h e =
      let few = length-decimal-le 20 n (omega arith) (omega arith) h in
      let line : length (text ++ codes "listed " ++ decimal n ++ codes "\n")
      ≡ length text + 7 + length (decimal n) + 1 = simp length-append in
      omega (arith, few, ap length e, line)

  -- and the line of a refusal at most 53.
  pub refusal_within : (q : Question) (n : ℕ) → n < 2 ^ 64
      → text' ≡ text ++ codes "refused " ++ decimal (number q) ++ codes " at " ++ decimal n ++ codes "\n"
      → length text' ≤ length text + 53
  refusal_within q n h e =
      let q' = number q in
      let small = number_small q in
      let few = length-decimal-le 20 q' (omega arith) (omega (arith, small)) (omega (arith, small)) in
      let few' = length-decimal-le 20 n (omega arith) (omega arith) h in
      let line : length (text ++ codes "refused " ++ decimal q' ++ codes " at " ++ decimal n ++ codes "\n")
      ≡ length text + 8 + length (decimal q') + 4 + length (decimal n) + 1 = simp length-append in
      omega (arith, few, few', ap length e, line)
