-- What the steps of closing a lent set come to: how many events it has before and after, and its bytes.
-- Assumes nothing.
use Prim.Native.Nat.{ℕ, suc, ◌-◌, ◌*◌, ◌≤◌, ◌<◌}
use mathlib.Core.Path.{◌≡◌, sym, ◌∙◌}
use mathlib.Core.Logic.{⊎_elim}
use mathlib.Core.Bool.{false, not, ◌&&◌}
use mathlib.Core.List.{List}
use native.Mathlib.Omega.{arith}
use lib.Dec.{T, leb, ltb}
use lib.ListN.{length, get_or, get_or-eq_default}
use borrow.Author.Tests.{lt-ltb, le-ltb}
use Rattle.model.specs.Lists.{all, filter, from}
use Rattle.model.specs.Trace.{Trace, task}
use Rattle.model.specs.EventSet.{has, members, set_length, lent_bit, lent_set, set_bytes}
use Rattle.model.specs.Closure.{closure}
use Rattle.laws.specs.BitRow.{row_bit}
use Rattle.laws.proofs.Tests.{at-most?}
use Rattle.laws.proofs.EventBytes.{lent_set_sized, lent_set-has}
use Rattle.laws.proofs.Closure.{closure_sized, closure_contains}
use Rattle.closure.specs.Reach.{Closes}
use Rattle.closure.proofs.Sets.{filter_more, count-members, bytes_of, lent_words, spare-zero}

-- No event is taken out.
pub members_grow : (σ : Trace) (set : List ℕ)
    → length (members σ (lent_set σ set)) ≤ length (members σ (closure σ (lent_set σ set)))
members_grow σ set =
    filter_more (has (lent_set σ set)) (has (closure σ (lent_set σ set))) (from 1 (length σ))
    (closure_contains σ (lent_set σ set))

module _ (σ : Trace) (set words : List ℕ) (packed : (i : ℕ) → row_bit 64 words i ≡ row_bit 8 set i) where
  -- The words have as many events as the lent set.
  pub count_lent : T (all (λ e. not (lent_bit set e)) (from (suc (length σ)) (8 * length set - length σ)))
      → (m : ℕ) → length σ ≤ m
      → length (filter (row_bit 64 words) (from 0 m)) ≡ length (members σ (lent_set σ set))
  count_lent t m h =
      count-members σ (lent_set σ set) (row_bit 64 words) m h same
      (λ i k. packed i ∙ spare-zero set (length σ) t i k)
    where
      same : (i : ℕ) → i < length σ → row_bit 64 words i ≡ has (lent_set σ set) (suc i)
      same i k =
          let back : suc i - 1 ≡ i = omega arith in
          sym (lent_set-has σ set (suc i) (omega arith) k ∙ rw back at (lent_words set words packed (suc i)))

  module _ (front words' : List ℕ) (closes : Closes σ words front)
      (put : (i : ℕ) → row_bit 64 words' i
      ≡ (ltb i (length σ) && leb (suc i) (get_or front (task σ (suc i)) 0))) where
    inside : (i : ℕ) → i < length σ → row_bit 64 words' i ≡ has (closure σ (lent_set σ set)) (suc i)
    inside i h =
        rw (put i, lt-ltb i (length σ) h)
        (sym (closes.closes set (λ e _ _. lent_words set words packed e) (suc i) (omega arith) h))

    past : (i : ℕ) → length σ ≤ i → row_bit 64 words' i ≡ false
    past i h = rw (put i, le-ltb i (length σ) h)

    bits : (i : ℕ) → row_bit 64 words' i ≡ has (closure σ (lent_set σ set)) (suc i)
    bits i = ⊎_elim (λ h. past i h ∙ sym (beyond h)) (inside i) (at-most? (length σ) i)
      where
        beyond : length σ ≤ i → has (closure σ (lent_set σ set)) (suc i) ≡ false
        beyond h =
            let long = (closure_sized σ (lent_set σ set) (lent_set_sized σ set)).long in
            get_or-eq_default (closure σ (lent_set σ set)) false (omega (arith, long))

    -- The words behind the frontier have as many events as the closure,
    pub count_closed : (m : ℕ) → length σ ≤ m
        → length (filter (row_bit 64 words') (from 0 m)) ≡ length (members σ (closure σ (lent_set σ set)))
    count_closed m h = count-members σ (closure σ (lent_set σ set)) (row_bit 64 words') m h inside past

    -- and as bytes they are the closure.
    pub bytes_closed : (b : List ℕ) → length b ≡ set_length (length σ) → ((k : ℕ) → get_or b k 0 < 256)
        → ((i : ℕ) → i < 8 * length b → row_bit 8 b i ≡ row_bit 64 words' i)
        → b ≡ set_bytes σ (closure σ (lent_set σ set))
    bytes_closed b long small unpacked =
        bytes_of σ (closure σ (lent_set σ set)) b long small (λ i h. unpacked i h ∙ bits i)
