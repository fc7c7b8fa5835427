-- Rows of bits in words and in bytes: a word and its eight bytes have the same row, and how the bits of a
-- word are counted. Assumes nothing.
use Prim.Native.Nat.{ℕ, zero, suc, ◌+◌, ◌-◌, ◌*◌, ◌/◌, ◌%◌, ◌^◌, ◌≤◌, ◌<◌, min}
use mathlib.Core.Path.{◌≡◌, refl, sym, ap, ap₂, ◌∙◌}
use mathlib.Core.Logic.{⊎_elim, ◌≢◌}
use mathlib.Core.Bool.{Bool, true, false, cond, ◌&&◌}
use mathlib.Core.List.{List, ◌∷◌, ◌++◌}
use native.Mathlib.Omega.{arith}
use native.Mathlib.Nat.{add-zero, pow-suc}
use native.Mathlib.Numerals.{add-one}
use lib.Count.{ones}
use lib.Dec.{ltb}
use lib.ListN.{length, get_or, set, take, drop, get_or-eq_default}
use lib.ListN.{length-append, length-drop}
use lib.Pow.{pow-add}
use lib.Seq.{get_or-set_same, get_or-set_other, get_or-take, get_or-drop, drop-drop}
use lib.Seq.{take-length, take-append_seam, drop-append_seam}
use borrow.Author.Tests.{lt-ltb, le-ltb}
use Rattle.std.specs.Int.{w64, byte_at, bytes_high_first, to_be_bytes, from_be_bytes}
use Rattle.std.specs.List.{sum_by}
use Rattle.std.proofs.lemmas.List.{take_min, drop_min}
use Rattle.std.proofs.lemmas.List.Sums.{sum_by_more}
use Rattle.std.proofs.lemmas.Nat.{be_bytes_8}
use Rattle.model.specs.Lists.{has_bit, filter, from}
use Rattle.laws.specs.BitRow.{row_bit}
use Rattle.laws.proofs.Tests.{equal?, at-most?, T-ext, tests}
use Rattle.laws.proofs.Lists.{from_split}
use Rattle.laws.proofs.Filters.{filter-append}
use Rattle.laws.proofs.Bits.{has_bit-none}
use Rattle.laws.proofs.BitShifts.{has_bit_shr, has_bit_low}
use Rattle.laws.proofs.Counts.{places, ones-places}

-- ---- empty rows

-- Past its last element a row has no bit.
row_beyond : (w : ℕ) (b : List ℕ) (i : ℕ) → length b ≤ i / w → row_bit w b i ≡ false
row_beyond w b i h = rw (get_or-eq_default b 0 h) (has_bit-none (w - 1 - i % w))

-- A row whose elements are all 0 has no bit.
pub row_clear : (w : ℕ) (b : List ℕ) → ((k : ℕ) → k < length b → get_or b k 0 ≡ 0) → (i : ℕ)
    → row_bit w b i ≡ false
row_clear w b h i =
    ⊎_elim (row_beyond w b i) (λ (l : i / w < length b). rw (h (i / w) l) (has_bit-none (w - 1 - i % w)))
    (at-most? (length b) (i / w))

-- ---- the bytes of a word

bytes_pow : (j : ℕ) → 256 ^ j ≡ 2 ^ (8 * j)
bytes_pow zero = refl
bytes_pow (suc j) =
    let more : 8 * suc j ≡ 8 * j + 8 = omega arith in
    rw (pow-suc 256 j, bytes_pow j, more) (sym (pow-add 2 (8 * j) 8))

-- Byte j of a number, counted from the lowest, has its bits from 8 * j on.
byte_bit : (j n l : ℕ) → l < 8 → has_bit (byte_at j n) l ≡ has_bit n (8 * j + l)
byte_bit zero n l h =
    let place : 8 * 0 + l ≡ l = omega arith in
    rw (place, has_bit_low n 8 l, lt-ltb l 8 h) refl
byte_bit (suc j) n l h =
    rw (bytes_pow (suc j), has_bit_low (n / 2 ^ (8 * suc j)) 8 l, lt-ltb l 8 h) (has_bit_shr n (8 * suc j) l)

-- Of k bytes, byte j from the highest one on is byte k - 1 - j from the lowest on.
byte_from_top : (k j n : ℕ) → j < k → get_or (bytes_high_first k n) j 0 ≡ byte_at (k - 1 - j) n
byte_from_top zero j n h = absurd (omega arith)
byte_from_top (suc k) zero n h = let place : suc k - 1 - 0 ≡ k = omega arith in rw place refl
byte_from_top (suc k) (suc j) n h =
    let place : suc k - 1 - suc j ≡ k - 1 - j = omega arith in
    rw place (byte_from_top k j n (omega arith))

-- The bytes of a word have its row.
word_row : (n i : ℕ) → i < 64 → row_bit 8 (to_be_bytes w64 n) i ≡ has_bit n (63 - i)
word_row n i h =
    let place : 8 * (8 - 1 - i / 8) + (7 - i % 8) ≡ 63 - i = omega arith in
    let bit = byte_bit (8 - 1 - i / 8) n (7 - i % 8) (omega arith) in
    rw (byte_from_top 8 (i / 8) n (omega arith), bit, place) refl

-- ---- bytes into words

-- A word made of eight bytes, the first eight of others, or all of these and zeros after them, has their row.
pub row_word : (n : ℕ) (b p : List ℕ) → length p ≡ 8 → ((k : ℕ) → get_or b k 0 < 256)
    → ((k : ℕ) → k < 8 → get_or p k 0 ≡ get_or b k 0) → n ≡ from_be_bytes w64 p → (i : ℕ) → i < 64
    → has_bit n (63 - i) ≡ row_bit 8 b i
row_word n b p long small padded q i h =
    sym (word_row n i h) ∙ ap (λ (l : List ℕ). row_bit 8 l i) (be_bytes_8 p n long below q)
    ∙ ap (λ (x : ℕ). has_bit x (7 - i % 8)) (padded (i / 8) (omega arith))
  where
    below : (k : ℕ) → get_or p k 0 < 256
    below k =
        ⊎_elim (λ (l : 8 ≤ k). rw (get_or-eq_default p 0 {n = k} (rw long l)) (omega arith))
        (λ (l : k < 8). rw (padded k l) (small k)) (at-most? 8 k)

-- The first k words have the row of the bytes, and the others no bit.
abbrev pub Packed : List ℕ → List ℕ → ℕ → Type 0
Packed b ws k = (i : ℕ) → row_bit 64 ws i ≡ (ltb i (64 * k) && row_bit 8 b i)

-- Before the first byte the words are clear.
pub packed_start : (b ws : List ℕ) → ((i : ℕ) → row_bit 64 ws i ≡ false) → Packed b ws 0
packed_start b ws z i = rw (z i, le-ltb i 0 (omega arith))

-- What is left of bytes b after those of k words: the next up to eight, and the rest.
pub record Next (b bytes rest : List ℕ) (k : ℕ) : Type 0 where
  pub parts : drop (8 * k) b ≡ bytes ++ rest
  pub size : length bytes ≡ min 8 (length (drop (8 * k) b))
  pub some : 0 < length (drop (8 * k) b)

module _ {b bytes rest : List ℕ} {k : ℕ} (u : Next b bytes rest k) where
  -- Word k has the next byte.
  pub next_below : 8 * k < length b
  next_below = omega (arith, u.some, length-drop (8 * k) b)

  -- The rest is left after those of one word more.
  pub rest_left : drop (8 * (k + 1)) b ≡ rest
  rest_left =
      let more : 8 * (k + 1) ≡ 8 * k + 8 = omega arith in
      rw (more, ← (drop-drop 8 (8 * k) b), ← (drop_min 8 (drop (8 * k) b)), ← u.size, u.parts)
      (drop-append_seam bytes rest)

  -- The next bytes have the row of word k.
  next_row : (i : ℕ) → i < 64 → row_bit 8 bytes i ≡ row_bit 8 b (64 * k + i)
  next_row i h =
      let left = drop (8 * k) b in
      let first : take 8 left ≡ bytes =
      rw (← (take_min 8 left), ← u.size, u.parts) (take-append_seam bytes rest) in
      let byte : (64 * k + i) / 8 ≡ 8 * k + i / 8 = omega arith in
      let bit : (64 * k + i) % 8 ≡ i % 8 = omega arith in
      rw (byte, bit, ← first, get_or-take 8 left (i / 8) 0 (omega arith), get_or-drop (8 * k) b (i / 8) 0)
      refl

  -- With word k made of them one word more has its row.
  pub packed_more : (ws : List ℕ) (n : ℕ) → k < length ws
      → ((i : ℕ) → i < 64 → has_bit n (63 - i) ≡ row_bit 8 bytes i) → Packed b ws k
      → Packed b (set ws k n) (k + 1)
  packed_more ws n h made z i = ⊎_elim same other (equal? (i / 64) k)
    where
      same : i / 64 ≡ k → row_bit 64 (set ws k n) i ≡ (ltb i (64 * (k + 1)) && row_bit 8 b i)
      same q =
          let place : 64 * k + i % 64 ≡ i = omega arith in
          rw (q, get_or-set_same ws k n 0 h, lt-ltb i (64 * (k + 1)) (omega arith))
          (made (i % 64) (omega arith) ∙ rw place at (next_row (i % 64) (omega arith)))

      other : i / 64 ≢ k → row_bit 64 (set ws k n) i ≡ (ltb i (64 * (k + 1)) && row_bit 8 b i)
      other d =
          let same = T-ext (ltb i (64 * (k + 1))) (ltb i (64 * k)) (omega tests) (omega tests) in
          rw (get_or-set_other ws k (i / 64) n 0 d, same) (z i)

-- Where no byte is left the words have the row of the bytes.
pub packed_end : (b ws : List ℕ) (k : ℕ) → length (drop (8 * k) b) ≡ 0 → Packed b ws k → (i : ℕ)
    → row_bit 64 ws i ≡ row_bit 8 b i
packed_end b ws k h z i =
    let all : length b ≤ 8 * k = omega (arith, h, length-drop (8 * k) b) in
    ⊎_elim
    (λ (l : 64 * k ≤ i). rw (z i, le-ltb i (64 * k) l, row_beyond 8 b i (omega arith)))
    (λ (l : i < 64 * k). rw (z i, lt-ltb i (64 * k) l))
    (at-most? (64 * k) i)

-- ---- words into bytes

-- The first k bytes of b have the row of the words.
abbrev pub Unpacked : List ℕ → List ℕ → ℕ → Type 0
Unpacked ws b k = (i : ℕ) → i < 8 * k → row_bit 8 b i ≡ row_bit 64 ws i

-- With byte k taken from its word, one byte more has the row of the words.
pub unpacked_more : (ws b : List ℕ) (k : ℕ) → k < length b → Unpacked ws b k
    → Unpacked ws (set b k (get_or (to_be_bytes w64 (get_or ws (k / 8) 0)) (k % 8) 0)) (k + 1)
unpacked_more ws b k h z i l = ⊎_elim same other (equal? (i / 8) k)
  where
    new : ℕ
    new = get_or (to_be_bytes w64 (get_or ws (k / 8) 0)) (k % 8) 0

    same : i / 8 ≡ k → row_bit 8 (set b k new) i ≡ row_bit 64 ws i
    same q =
        let word : k / 8 ≡ i / 64 = omega arith in
        let byte : k % 8 ≡ i % 64 / 8 = omega arith in
        let bit : i % 8 ≡ i % 64 % 8 = omega arith in
        rw (q, get_or-set_same b k new 0 h, word, byte, bit)
        (word_row (get_or ws (i / 64) 0) (i % 64) (omega arith))

    other : i / 8 ≢ k → row_bit 8 (set b k new) i ≡ row_bit 64 ws i
    other d = rw (get_or-set_other b k (i / 8) new 0 d) (z i (omega arith))

-- ---- counting

first_counted : (x : Bool) (a : ℕ) (l : List ℕ) → length (cond x (a ∷ l) l) ≡ length l + cond x 1 0
first_counted true a l = sym (add-one (length l))
first_counted false a l = sym (add-zero (length l))

-- Where n numbers from a on are tested by the places of m, top place first, as many pass as are set.
filter-places : (f : ℕ → Bool) (m a n : ℕ) → ((i : ℕ) → i < n → f (a + i) ≡ has_bit m (n - 1 - i))
    → length (filter f (from a n)) ≡ places n m
unfolding places
filter-places f m a zero h = refl
filter-places f m a (suc n) h =
    let first : f a ≡ has_bit m n = top (h 0 (omega arith)) in
    let rest = filter-places f m (suc a) n (λ i l. next i (h (suc i) (omega arith))) in
    first_counted (f a) a (filter f (from (suc a) n)) ∙ rw (rest, first)
  where
    top : f (a + 0) ≡ has_bit m (suc n - 1 - 0) → f a ≡ has_bit m n
    top e = let here : suc n - 1 - 0 ≡ n = omega arith in rw (here, add-zero) at e

    next : (i : ℕ) → f (a + suc i) ≡ has_bit m (suc n - 1 - suc i) → f (suc a + i) ≡ has_bit m (n - 1 - i)
    next i e =
        let place : a + suc i ≡ suc a + i = omega arith in
        let here : suc n - 1 - suc i ≡ n - 1 - i = omega arith in rw (place, here) at e

-- A count of numbers, parted at a.
filter-count : (f : ℕ → Bool) (a n : ℕ)
    → length (filter f (from 0 (a + n))) ≡ length (filter f (from 0 a)) + length (filter f (from a n))
filter-count f a n =
    let rest : a + n - a ≡ n = omega arith in
    rw (from_split 0 a (a + n) a (omega arith) (omega arith), filter-append, length-append, rest)

-- The places of one word count as its ones.
word-places : (ws : List ℕ) (k : ℕ) → get_or ws k 0 < 2 ^ 64
    → length (filter (row_bit 64 ws) (from (64 * k) 64)) ≡ ones (get_or ws k 0)
word-places ws k h =
    filter-places (row_bit 64 ws) (get_or ws k 0) (64 * k) 64 place ∙ sym (ones-places 64 (get_or ws k 0) h)
  where
    place : (i : ℕ) → i < 64 → row_bit 64 ws (64 * k + i) ≡ has_bit (get_or ws k 0) (64 - 1 - i)
    place i l =
        let word : (64 * k + i) / 64 ≡ k = omega arith in
        let bit : (64 * k + i) % 64 ≡ i = omega arith in
        rw (word, bit)

-- The ones of the first k words count their places,
counted_to : (ws : List ℕ) → ((k : ℕ) → get_or ws k 0 < 2 ^ 64) → (k : ℕ) → k ≤ length ws
    → sum_by ones (take k ws) ≡ length (filter (row_bit 64 ws) (from 0 (64 * k)))
counted_to ws h zero l = refl
counted_to ws h (suc k) l =
    let next : 64 * k + 64 ≡ 64 * suc k = omega arith in
    rw add-one at (sum_by_more ones ws k 0 (omega arith))
    ∙ ap₂ (λ (x y : ℕ). x + y) (counted_to ws h k (omega arith)) (sym (word-places ws k (h k)))
    ∙ sym (filter-count (row_bit 64 ws) (64 * k) 64)
    ∙ ap (λ (n : ℕ). length (filter (row_bit 64 ws) (from 0 n))) next

-- and those of all words all places.
pub ones_counted : (ws : List ℕ) → ((k : ℕ) → get_or ws k 0 < 2 ^ 64)
    → sum_by ones ws ≡ length (filter (row_bit 64 ws) (from 0 (64 * length ws)))
ones_counted ws h = rw take-length at (counted_to ws h (length ws) (omega arith))
