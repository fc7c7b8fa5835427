-- A test of the numbers of a list one by one: while all have passed, the rest decides. The numbers of a list
-- of events have their records. Assumes nothing.
use Prim.Native.Nat.{ℕ, suc, ◌+◌, ◌*◌, ◌≤◌, ◌<◌}
use mathlib.Core.Path.{◌≡◌}
use mathlib.Core.Bool.{Bool, true, false}
use mathlib.Core.List.{List, ◌∷◌}
use native.Mathlib.Numerals.{add-one}
use native.Mathlib.Omega.{arith}
use lib.Dec.{T}
use lib.ListN.{length, get_or, drop, drop_of_length-le}
use lib.Seq.{drop-cons}
use Rattle.model.specs.Lists.{all}
use Rattle.model.specs.Trace.{is_event}
use Rattle.model.specs.Recording.{decode_all}
use Rattle.laws.proofs.Lists.{all-at}
use Rattle.laws.proofs.Trace.{is_event_iff, decode_all-length}

-- A number of a list of events is one, and its record is there.
pub listed-event : (b ns : List ℕ) (i : ℕ) {e : ℕ} → T (all (is_event (decode_all b)) ns) → i < length ns
    → e ≡ get_or ns i 0 → (1 ≤ e) × (e ≤ length (decode_all b)) × (2 * e ≤ length b)
listed-event b ns i t h is =
    let event = (is_event_iff (decode_all b) (get_or ns i 0)).0
    (all-at 0 (is_event (decode_all b)) ns i t h) in
    let size = decode_all-length b in
    omega arith

-- The test has passed for the numbers before number i.
abbrev pub Passing : (ℕ → Bool) → List ℕ → ℕ → Type 0
Passing p ns i = all p (drop i ns) ≡ all p ns

module _ (p : ℕ → Bool) (ns : List ℕ) (i : ℕ) (w : Passing p ns i) where
  module _ (h : i < length ns) {e : ℕ} (is : e ≡ get_or ns i 0) {r : Bool} (answers : r ≡ p e) where
    rest : drop i ns ≡ e ∷ drop (suc i) ns
    rest = rw is (drop-cons ns i 0 h)

    -- A number that does not pass decides.
    pub passing_stop : r ≡ false → false ≡ all p ns
    passing_stop n = rw (rest, ← answers, n) at w

    -- After one that does, the rest decides.
    pub passing-next : r ≡ true → Passing p ns (i + 1)
    passing-next y = rw (add-one i) (rw (rest, ← answers, y) at w)

  -- After the last number all have passed.
  pub passing_end : length ns ≤ i → true ≡ all p ns
  passing_end h = rw (drop_of_length-le ns {i = i} h) at w
