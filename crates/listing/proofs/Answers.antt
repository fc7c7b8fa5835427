-- What the call answers: of the size argument, and of what was found. Assumes nothing.
use Prim.Native.Nat.{ℕ, ◌≤◌, ◌<◌}
use mathlib.Core.Path.{◌≡◌, refl, ap, ◌∙◌}
use mathlib.Core.Logic.{◌⊎◌, inl, inr, ⊎_elim, ◌≢◌}
use mathlib.Core.List.{List}
use native.Mathlib.Omega.{arith}
use Rattle.std.specs.Prelude.{Ok, Err}
use lib.ListN.{length, take, drop}
use lib.Seq.{sets, take-append_seam}
use borrow.Author.Tests.{eq-eqb, ne_eqb, le-leb, lt-leb}
use Rattle.model.specs.declared.Question.{Question}
use Rattle.model.specs.declared.Question.TheVariants.{LargestSize}
use Rattle.model.specs.Recording.{trace}
use Rattle.model.specs.Listing.{deadlocks}
use Rattle.model.specs.Calls.Questions.{outcome, permits_size, fits_output}
use Rattle.model.specs.Calls.Check.{check}
use Rattle.model.specs.Calls.List.{largest_size, entries, listing, list_refusal, list, list_out}
use Rattle.laws.specs.Answered.{refused_listing}
use Rattle.laws.proofs.Tests.{equal?, at-most?}
use Rattle.laws.proofs.Parts.{sets-written}
use Rattle.entries.specs.declared.found.Found.{Found}
use Rattle.entries.specs.declared.Full.{Full}
use Rattle.entries.specs.Taken.{Taken}
use Rattle.listing.specs.Delivered.{Delivered}
use Rattle.listing.specs.Size.{asked_size}

-- ---- the size

-- 0 stands for 16.
pub size_default : (k : ℕ) → k ≡ 0 → Ok 16 ≡ asked_size k
unfolding permits_size largest_size
size_default k q = rw q refl

-- 1 is refused,
pub size_low : (k : ℕ) → k ≢ 0 → k < 2 → Err LargestSize ≡ asked_size k
unfolding permits_size
size_low k d h = rw (ne_eqb k 0 d, lt-leb 2 k h)

-- more than 16 too,
pub size_high : (k : ℕ) → 16 < k → Err LargestSize ≡ asked_size k
unfolding permits_size
size_high k h = rw (ne_eqb k 0 (λ q. omega arith), le-leb 2 k (omega arith), lt-leb k 16 h)

-- and the others stand for themselves.
pub size_itself : (k : ℕ) → 2 ≤ k → k ≤ 16 → Ok k ≡ asked_size k
unfolding permits_size largest_size
size_itself k h l = rw (ne_eqb k 0 (λ q. omega arith), le-leb 2 k h, le-leb k 16 l)

-- Question 8: a size is refused or permitted.
size_question : (k : ℕ) → (permits_size k ≡ outcome 8 0) ⊎ (permits_size k ≡ outcome 0 0)
unfolding permits_size
size_question k =
    ⊎_elim (λ (q : k ≡ 0). inr (rw q refl))
    (λ (d : k ≢ 0). ⊎_elim
    (λ (h : 2 ≤ k). ⊎_elim
    (λ (l : k ≤ 16). inr (rw (ne_eqb k 0 d, le-leb 2 k h, le-leb k 16 l)))
    (λ (l : 16 < k). inl (rw (ne_eqb k 0 d, le-leb 2 k h, lt-leb k 16 l)))
    (at-most? k 16))
    (λ (h : k < 2). inl (rw (ne_eqb k 0 d, lt-leb 2 k h)))
    (at-most? 2 k))
    (equal? k 0)

-- A size that is refused is so by question 8,
pub size_refused : (k : ℕ) {q : Question} → Err q ≡ asked_size k
    → (q ≡ LargestSize) × (permits_size k ≡ outcome 8 0)
size_refused k {q} e =
    ⊎_elim
    (λ (p : permits_size k ≡ outcome 8 0). let same = rw p at e in (cc, p))
    (λ (p : permits_size k ≡ outcome 0 0). let other : Err q ≡ Ok (largest_size k) = rw p at e in cc)
    (size_question k)

-- and one that is permitted is the largest size.
pub size_permitted : (k : ℕ) {m : ℕ} → Ok m ≡ asked_size k
    → (m ≡ largest_size k) × (permits_size k ≡ outcome 0 0)
size_permitted k {m} e =
    ⊎_elim
    (λ (p : permits_size k ≡ outcome 8 0). let other : Ok m ≡ Err LargestSize = rw p at e in cc)
    (λ (p : permits_size k ≡ outcome 0 0). let same : Ok m ≡ Ok (largest_size k) = rw p at e in (cc, p))
    (size_question k)

-- ---- what is delivered

module _ (ps : List (List ℕ)) (out buffer₀ buffer : List ℕ) where
  module _ (f : Found) (z : Taken (length out) ps buffer₀ buffer (Ok f)) (fits : f.bytes ≤ length out) where
    size : f.bytes ≡ length (entries ps)
    size = z.counted.1

    -- Entries that fit the buffer are copied.
    pub delivered_copied : f.bytes ≤ length buffer₀ → (out' : List ℕ)
        → out' ≡ sets out 0 (take f.bytes buffer) → Delivered ps out out' (Ok f)
    delivered_copied h out' q = record {
      refused = tt;
      counted = z.counted;
      written = (omega (arith, size, fits), q ∙ ap (sets out 0) bytes);
    }
      where
        bytes : take f.bytes buffer ≡ entries ps
        bytes =
            rw (
              z.written (omega (arith, z.long)),
              size,
              sets-written (entries ps) buffer₀ (omega (arith, size)),
            )
            (take-append_seam (entries ps) (drop (length (entries ps)) buffer₀))

-- ---- the call

module _ (b : List ℕ) (k : ℕ) (out : List ℕ) where
  -- A recording that is refused.
  pub list_unchecked : (check b).refusal ≢ 0
      → (list b k (length out) ≡ refused_listing (check b).refusal (check b).event) × (list_out b k out ≡ out)
  unfolding list list_out list_refusal
  list_unchecked d = let n = ne_eqb (check b).refusal 0 d in (rw (n, n), rw (n, n))

  module _ (c : (check b).refusal ≡ 0) where
    -- 8: a size that is not permitted.
    pub list_size : permits_size k ≡ outcome 8 0
        → (list b k (length out) ≡ refused_listing 8 0) × (list_out b k out ≡ out)
    unfolding list list_out list_refusal
    list_size p = let y = eq-eqb (check b).refusal 0 c in (rw (y, p), rw (y, p))

    module _ (p : permits_size k ≡ outcome 0 0) (out' : List ℕ) where
      -- 13: the entries do not fit.
      pub list_short : {x : Full} → Delivered (deadlocks (trace b) (largest_size k)) out out' (Err x)
          → (list b k (length out) ≡ refused_listing 13 0) × (out' ≡ list_out b k out)
      unfolding list list_out list_refusal fits_output listing
      list_short z =
          let s = z.refused in
          let n = lt-leb (length (entries (listing b k))) (length out) s.0 in
          (rw (eq-eqb (check b).refusal 0 c, p, n), rw (eq-eqb (check b).refusal 0 c, p, n) s.1)

      -- The entries are counted and written.
      pub list_written : {f : Found} → Delivered (deadlocks (trace b) (largest_size k)) out out' (Ok f)
          → (record { refusal = 0; event = 0; patterns = f.patterns; bytes = f.bytes } ≡ list b k (length
          out))
          × (out' ≡ list_out b k out)
      unfolding list list_out list_refusal fits_output listing
      list_written z =
          let s = z.written in
          let t = z.counted in
          let l = le-leb (length (entries (listing b k))) (length out) s.0 in (
            rw (eq-eqb (check b).refusal 0 c, p, l, t.0, t.1) refl,
            rw (eq-eqb (check b).refusal 0 c, p, l) (s.1 ∙ sets-written (entries (listing b k)) out s.0),
          )
