-- The walk through a schedule: what is listed so far, and that the rest decides. Assumes nothing.
use Prim.Native.Nat.{ℕ, suc, ◌+◌, ◌*◌, ◌/◌, ◌≤◌, ◌<◌}
use mathlib.Core.Path.{◌≡◌, refl, sym, ◌∙◌}
use mathlib.Core.Bool.{Bool, true, false, ◌||◌, or-false}
use mathlib.Core.List.{List, [], ◌∷◌, Memᴰ}
use native.Mathlib.Numerals.{add-one}
use native.Mathlib.Omega.{arith}
use lib.Dec.{T, eqb}
use lib.ListN.{length, get_or, drop, drop_of_length-le}
use lib.Seq.{drop-cons}
use Rattle.model.specs.Lists.{member}
use Rattle.model.specs.Trace.{Trace}
use Rattle.model.specs.Recording.{decode_all}
use Rattle.model.specs.Bytes.{numbers}
use Rattle.model.specs.Schedule.{may_follow, continues, sync_preserving}
use Rattle.laws.proofs.Lists.{member_iff}
use Rattle.laws.proofs.Bytes.{numbers-length}
use Rattle.laws.proofs.Trace.{decode_all-length, is_event_iff}
use Rattle.laws.proofs.Schedule.{may_follow_iff}
use Rattle.schedule.specs.declared.Progress.{Progress}
use Rattle.schedule.specs.Listed.{UpTo, Listed, Kept}
use Rattle.schedule.proofs.Asking.{Answers}
use Rattle.schedule.proofs.Noting.{Notes}

-- The walk has come to number i of the schedule. The rest decides; with what is listed it is the schedule.
pub record Walking (σ : Trace) (ρ : List ℕ) (i : ℕ) (p : Progress) : Type 0 where
  pub before : List ℕ
  pub tables : Listed σ before p
  pub decides : continues σ before (drop i ρ) ≡ sync_preserving σ ρ
  pub covers : (e : ℕ) → (member e before || member e (drop i ρ)) ≡ member e ρ

or-shift : (a b c : Bool) → ((a || b) || c) ≡ (b || (a || c))
or-shift true true c = refl
or-shift true false c = refl
or-shift false b c = refl

-- The table of tasks is that of any list with the same members.
up_to_ext : (σ : Trace) (ρ ρ' last : List ℕ) → ((e : ℕ) → member e ρ ≡ member e ρ') → UpTo σ ρ last
    → UpTo σ ρ' last
up_to_ext σ ρ ρ' last same u = record {
  front = u.front;
  event = λ e m. u.event e (back e m);
  listed = λ e h k. sym (same e) ∙ u.listed e h k;
  started = λ e m f t. there f (u.started e (back e m) f t);
}
  where
    there : (e : ℕ) → Memᴰ e ρ → Memᴰ e ρ'
    there e m = (member_iff e ρ').0 (rw (← (same e)) ((member_iff e ρ).1 m))

    back : (e : ℕ) → Memᴰ e ρ' → Memᴰ e ρ
    back e m = (member_iff e ρ).0 (rw (same e) ((member_iff e ρ').1 m))

-- What may follow is one of the records.
pub follows_in : (b before : List ℕ) (e : ℕ) → T (may_follow (decode_all b) before e)
    → (1 ≤ e) × (2 * e ≤ length b)
follows_in b before e t =
    omega (
      arith,
      (is_event_iff (decode_all b) e).0 ((may_follow_iff (decode_all b) before e).0 t).event,
      decode_all-length b,
    )

-- At the start nothing is listed.
pub walking_start : (σ : Trace) (ρ : List ℕ) (p : Progress) → Listed σ [] p → Walking σ ρ 0 p
unfolding sync_preserving
walking_start σ ρ p tables = record { before = []; tables = tables; decides = refl; covers = λ e. refl }

-- A turn of the walk: number e stands at i, and r is answered for it.
pub record Turn (σ : Trace) (s : List ℕ) (i : ℕ) (p : Progress) (e : ℕ) (r : Bool)
    : Type 0 where
  pub walking : Walking σ (numbers s) i p
  pub here : i < length s / 2
  pub number : e ≡ get_or (numbers s) i 0
  pub answers : Answers σ p e r

module _ {σ : Trace} {s : List ℕ} {i : ℕ} {p : Progress} {e : ℕ} {r : Bool}
    (k : Turn σ s i p e r) where
  rest : drop i (numbers s) ≡ e ∷ drop (suc i) (numbers s)
  rest = rw k.number (drop-cons (numbers s) i 0 (omega (arith, k.here, numbers-length s)))

  answer : r ≡ may_follow σ k.walking.before e
  answer = k.answers k.walking.before k.walking.tables

  -- A number that may not follow decides.
  pub walking_stop : r ≡ false → sync_preserving σ (numbers s) ≡ false
  unfolding continues
  walking_stop n = sym (rw (rest, ← answer, n) at k.walking.decides)

  -- One that may,
  pub walking_may : r ≡ true → T (may_follow σ k.walking.before e)
  walking_may y = rw (← answer, y) tt

  -- is listed.
  pub walking-next : r ≡ true → (p' : Progress) → Notes σ e p p' → Walking σ (numbers s) (i + 1) p'
  unfolding continues
  walking-next y p' notes =
      let before = k.walking.before in
      rw (add-one i) (record {
        before = e ∷ before;
        tables = notes before k.walking.tables (walking_may y);
        decides = rw (rest, ← answer, y) at k.walking.decides;
        covers = λ f. or-shift (eqb f e) (member f before) (member f (drop (suc i) (numbers s)))
            ∙ (rw rest at (k.walking.covers f));
      })

module _ (σ : Trace) (s : List ℕ) (i : ℕ) (p : Progress)
    (w : Walking σ (numbers s) i p) where
  -- After the last number the schedule is order-keeping, and the table of tasks says what it lists.
  pub walking_end : length s / 2 ≤ i → Kept σ (numbers s) p
  unfolding continues
  walking_end h = record {
    keeps = sym (rw none at w.decides);
    up_to = up_to_ext σ w.before (numbers s) p.last same w.tables.up_to;
  }
    where
      none : drop i (numbers s) ≡ []
      none = drop_of_length-le (numbers s) {i = i} (omega (arith, numbers-length s))

      same : (e : ℕ) → member e w.before ≡ member e (numbers s)
      same e = sym (or-false (member e w.before)) ∙ (rw none at (w.covers e))
