-- Request 5 holds: 0 and 16 are the same largest size, and no pattern has more than 16 events. Assumes
-- nothing.
use Prim.Native.Nat.{ℕ, ◌+◌, ◌*◌, ◌≤◌}
use mathlib.Core.Path.{◌≡◌, refl, sym, subst}
use mathlib.Core.Logic.{◌≢◌}
use mathlib.Core.List.{List, [], append-nil}
use lib.ListN.{length}
use lib.Dec.{T, eqb}
use Rattle.model.specs.Recording.{trace}
use Rattle.model.specs.Pattern.{is_pattern}
use Rattle.model.specs.Calls.Questions.{permits_size}
use Rattle.model.specs.Calls.List.{largest_size, listing, list_refusal, list, list_out}
use Rattle.model.specs.Calls.Entries.{entry_number, list_entry}
use Rattle.laws.proofs.Tests.{tests, decided}
use Rattle.laws.proofs.Pattern.{is_pattern_iff}
use Rattle.theory.specs.Claim.{Exact}
use Rattle.theory.specs.AllSizes.{Request5}
use Rattle.theory.proofs.Claim.{demand3}

-- The call returns the same for 0 as for 16.
list_default : (b : List ℕ) (room : ℕ) → list b 0 room ≡ list b 16 room
unfolding permits_size largest_size listing list_refusal list
list_default b room = refl

-- ---- the entry for C

module _ (b : List ℕ) (k room : ℕ) where
  -- Of a listing that is not refused, it returns the bytes;
  entry-written : (list b k room).refusal ≡ 0 → list_entry b k room ≡ (list b k room).bytes
  unfolding list entry_number list_entry
  entry-written e =
      decided (eqb (list_refusal b k room).refusal 0) (λ y. rw y)
      (λ y. let none : (list_refusal b k room).refusal ≡ 0 = rw y at e in absurd (subst T y (rw none tt)))

  -- of a refused one, its refusal and event.
  entry_refused : (list b k room).refusal ≢ 0
      → list_entry b k room ≡ 2 * (65536 * (list b k room).refusal + (list b k room).event) + 1
  unfolding list entry_number list_entry
  entry_refused e = decided (eqb (list_refusal b k room).refusal 0) (λ y. absurd (rw y at e refl)) (λ y. rw y)

-- ---- every size

-- The size argument 0 asks for no fewer events than a pattern can have.
pattern_permitted : (b p : List ℕ) → T (is_pattern (trace b) p) → length p ≤ largest_size 0
unfolding largest_size
pattern_permitted b p t = let h = ((is_pattern_iff (trace b) p).0 t).most in omega tests

-- What demand 3 says of one listing alone, compared with itself.
list_exact : (b out : List ℕ) → (list b 0 (length out)).refusal ≡ 0 → Exact b out 0
list_exact b out e = (demand3 b b out out 0 0 (record {
  later = [];
  begins = sym (append-nil (trace b));
  same_size = refl;
  short_listed = e;
  long_listed = e;
})).short_exact

-- Request 5.
pub request5 : Request5
unfolding permits_size largest_size listing list_refusal list list_out
request5 b out = record {
  answer = list_default b (length out);
  output = refl;
  entry_bytes = λ k. entry-written b k (length out);
  entry_refusal = λ k. entry_refused b k (length out);
  stands = λ e p. let exact = (list_exact b out e).stands p in (
    λ m. let (t, l, w) = exact.0 m in (t, w),
    λ (t, w). exact.1 (t, pattern_permitted b p t, w),
  );
  short_zero = λ long out' c. demand3 b long out out' 0 16 (record {
    later = c.later;
    begins = c.begins;
    same_size = refl;
    short_listed = rw (list_default b (length out)) c.short_listed;
    long_listed = c.long_listed;
  });
  long_zero = λ long out' c. demand3 b long out out' 16 0 (record {
    later = c.later;
    begins = c.begins;
    same_size = refl;
    short_listed = c.short_listed;
    long_listed = rw (list_default long (length out')) c.long_listed;
  });
}
