-- Sets in words and bytes: how many members they have, which bytes they are, and how they grow event by
-- event. Assumes nothing.
use Prim.Native.Nat.{ℕ, zero, suc, ◌+◌, ◌-◌, ◌*◌, ◌/◌, ◌%◌, ◌≤◌, ◌<◌}
use mathlib.Core.Path.{◌≡◌, refl, sym, ap, ◌∙◌}
use mathlib.Core.Logic.{⊎_elim}
use mathlib.Core.Bool.{Bool, false, not, ◌&&◌}
use mathlib.Core.List.{List, [], ◌∷◌, map, append-nil}
use native.Mathlib.Omega.{arith}
use native.Mathlib.Numerals.{add-one}
use lib.Dec.{T, ltb}
use lib.ListN.{length, get_or, replicate, length-map, get_or-eq_default}
use lib.Seq.{ext_get_or}
use borrow.Author.Tests.{le-ltb}
use Rattle.std.specs.List.{list_all, range_with_len}
use Rattle.model.specs.Lists.{all, filter, from, has_bit}
use Rattle.model.specs.Trace.{Trace}
use Rattle.model.specs.EventSet.{EventSet, has, members, set_length, lent_bit, packed, set_bytes}
use Rattle.laws.specs.BitRow.{row_bit}
use Rattle.laws.proofs.Tests.{decided, at-most?, is_true, is_false}
use Rattle.laws.proofs.Lists.{all_iff, from_iff, from_split, zeros}
use Rattle.laws.proofs.Filters.{filter-append, filter_ext, filter_none, filter_map}
use Rattle.laws.proofs.Bits.{has_bit-none, has_bit_ext, has_bit_beyond}
use Rattle.words.proofs.Laws.{row_clear}
use Rattle.laws.proofs.EventBytes.{packed_bit, packed_lt, set_bytes_byte, set_bytes-length}

-- ---- how many

-- Numbers one larger are the next ones.
from_next : (a n : ℕ) → from (suc a) n ≡ map suc (from a n)
from_next a zero = refl
from_next a (suc n) = ap (λ (l : List ℕ). suc a ∷ l) (from_next (suc a) n)

-- A test that passes where another does leaves as many at least.
pub filter_more : (f g : ℕ → Bool) (l : List ℕ) → ((x : ℕ) → T (f x) → T (g x))
    → length (filter f l) ≤ length (filter g l)
filter_more f g [] h = omega arith
filter_more f g (x ∷ l) h =
    let rest = filter_more f g l h in
    decided (f x)
    (λ y. let z = is_true (g x) (h x (rw y tt)) in rw (y, z) (omega arith))
    (λ n. decided (g x) (λ z. rw (n, z) (omega arith)) (λ z. rw (n, z) (omega arith)))

-- The events of a set in a row of bits, none of them past the trace, are its members.
pub count-members : (σ : Trace) (s : EventSet) (p : ℕ → Bool) (m : ℕ) → length σ ≤ m
    → ((i : ℕ) → i < length σ → p i ≡ has s (suc i)) → ((i : ℕ) → length σ ≤ i → p i ≡ false)
    → length (filter p (from 0 m)) ≡ length (members σ s)
count-members σ s p m h same none =
    let n = length σ in
    let split = from_split 0 n m n h (omega arith) in
    let past : filter p (from n (m - n)) ≡ [] =
    filter_none p (from n (m - n)) (λ i k. none i ((from_iff n (m - n) i).0 k).0) in
    let here : filter p (from 0 n) ≡ filter (λ i. has s (suc i)) (from 0 n) =
    filter_ext p (λ i. has s (suc i)) (from 0 n) (λ i k. same i (omega (arith, (from_iff 0 n i).0 k))) in
    let there : members σ s ≡ map suc (filter (λ i. has s (suc i)) (from 0 n)) =
    ap (filter (has s)) (from_next 0 n) ∙ filter_map (has s) suc (from 0 n) in
    let left : filter p (from 0 m) ≡ filter (λ i. has s (suc i)) (from 0 n) =
    rw (split, filter-append p (from 0 n) (from n (m - n)), past, append-nil) here in
    rw (left, there) (sym (length-map (filter (λ i. has s (suc i)) (from 0 n)) suc))

-- ---- which bytes

-- Bytes with the bits of a set are its bytes.
pub bytes_of : (σ : Trace) (s : EventSet) (b : List ℕ) → length b ≡ set_length (length σ)
    → ((k : ℕ) → get_or b k 0 < 256) → ((i : ℕ) → i < 8 * length b → row_bit 8 b i ≡ has s (suc i))
    → b ≡ set_bytes σ s
bytes_of σ s b long small same = ext_get_or 0 b (set_bytes σ s) (long ∙ sym (set_bytes-length σ s)) byte
  where
    low : (k l : ℕ) → k < length b → l < 8 → has_bit (get_or b k 0) l ≡ has_bit (packed s (8 * k + 1) 8) l
    low k l h i =
        let at : (8 * k + (7 - l)) / 8 ≡ k = omega arith in
        let off : 8 - 1 - (8 * k + (7 - l)) % 8 ≡ l = omega arith in
        let next : suc (8 * k + (7 - l)) ≡ 8 * k + 1 + (8 - 1 - l) = omega arith in
        let bit = same (8 * k + (7 - l)) (omega arith) in
        rw (at, off, next) at bit ∙ sym (packed_bit s (8 * k + 1) 8 l i)

    high : (k l : ℕ) → 8 ≤ l → has_bit (get_or b k 0) l ≡ has_bit (packed s (8 * k + 1) 8) l
    high k l i =
        has_bit_beyond (get_or b k 0) 8 l (small k) i
        ∙ sym (has_bit_beyond (packed s (8 * k + 1) 8) 8 l (packed_lt s (8 * k + 1) 8) i)

    byte : (k : ℕ) → k < length b → get_or b k 0 ≡ get_or (set_bytes σ s) k 0
    byte k h =
        has_bit_ext (get_or b k 0) (packed s (8 * k + 1) 8)
        (λ l. ⊎_elim (λ i. high k l i) (λ i. low k l h i) (at-most? 8 l))
        ∙ sym (set_bytes_byte σ s k (omega (arith, long)))

-- ---- which bits

-- A lent set has the bits of a row.
lent_row : (b : List ℕ) (e : ℕ) → lent_bit b e ≡ row_bit 8 b (e - 1)
unfolding lent_bit
lent_row b e = refl

module _ (set words : List ℕ) (packed : (i : ℕ) → row_bit 64 words i ≡ row_bit 8 set i) where
  -- Words with the bits of a lent set have its events,
  pub lent_words : (e : ℕ) → lent_bit set e ≡ row_bit 64 words (e - 1)
  lent_words e = lent_row set e ∙ sym (packed (e - 1))

  -- and are clear where it is.
  pub clear_words : (l : List ℕ) → all (λ e. not (row_bit 64 words (e - 1))) l
      ≡ all (λ e. not (lent_bit set e)) l
  clear_words l = λ i. all (λ e. not (sym (lent_words e) i)) l

-- The bits after the last event are zero.
pub spare-zero : (b : List ℕ) (n : ℕ)
    → T (all (λ e. not (lent_bit b e)) (from (suc n) (8 * length b - n))) → (i : ℕ) → n ≤ i
    → row_bit 8 b i ≡ false
spare-zero b n t i h = ⊎_elim beyond inside (at-most? (8 * length b) i)
  where
    beyond : 8 * length b ≤ i → row_bit 8 b i ≡ false
    beyond k =
        let past : length b ≤ i / 8 = omega arith in
        rw (get_or-eq_default b 0 past) (has_bit-none (8 - 1 - i % 8))

    inside : i < 8 * length b → row_bit 8 b i ≡ false
    inside k =
        let one : suc i - 1 ≡ i = omega arith in
        let clear = (all_iff (λ e. not (lent_bit b e)) (from (suc n) (8 * length b - n))).0 t (suc i)
        ((from_iff (suc n) (8 * length b - n) (suc i)).1 (omega arith)) in
        is_false (row_bit 8 b i) (rw (lent_row b (suc i), one) at clear)

-- In words of 0 no event has passed.
pub row-none : (ws : List ℕ) (i : ℕ) (b : Bool) → ws ≡ replicate 64 0 → row_bit 64 ws i ≡ (ltb i 0 && b)
row-none ws i b q = rw (q, le-ltb i 0 (omega arith)) (row_clear 64 (replicate 64 0) (λ k _. zeros 64 k) i)

-- ---- the spare bits, one by one

-- A test of each number of a range is one of each of the numbers from its first on.
pub all-range : (p : ℕ → Bool) (a n : ℕ) → list_all p (range_with_len a n) ≡ all p (from a n)
all-range p a zero = refl
all-range p a (suc n) = rw add-one (ap (λ (b : Bool). p a && b) (all-range p (suc a) n))
