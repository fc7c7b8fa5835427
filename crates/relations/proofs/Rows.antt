-- The rows once one event more has its own, after the last event, and one event's relations off its row.
-- Assumes nothing.
use Prim.Native.Nat.{ℕ, suc, ◌+◌, ◌≤◌, ◌<◌}
use mathlib.Core.Path.{◌≡◌, refl, sym, ◌∙◌}
use mathlib.Core.Logic.{⊎_elim, ◌≢◌}
use mathlib.Core.Bool.{false, cond, ◌&&◌}
use native.Mathlib.Numerals.{add-one}
use native.Mathlib.Omega.{arith}
use lib.Count.{ones}
use lib.Dec.{T, eqb}
use lib.ListN.{length, set, length-set}
use lib.Seq.{get_or-set_same, get_or-set_other}
use Rattle.model.specs.Lists.{last_before}
use Rattle.model.specs.Trace.{Trace, at, object, is_acquire, is_release}
use Rattle.model.specs.Relations.{predecessor, held}
use Rattle.model.specs.Answers.{Relations}
use Rattle.laws.specs.Answered.{event_relations}
use Rattle.laws.specs.Order.{awaited}
use Rattle.laws.specs.EventKinds.{marked}
use Rattle.laws.specs.Walked.{marked_before}
use Rattle.laws.proofs.Tests.{equal?}
use Rattle.laws.proofs.WellFormed.{WellFormed}
use Rattle.laws.proofs.OpenAcquires.{opened_acquire}
use Rattle.laws.proofs.Matches.{marked_keep, marked_release, marked_opened, marked_other, marked_end}
use Rattle.laws.proofs.Marks.{marked_match}
use Rattle.laws.proofs.Awaited.{writer_off}
use Rattle.order.proofs.Laws.{start_is}
use Rattle.relations.specs.declared.Row.{Row}
use Rattle.relations.specs.declared.Walk.{Walk}
use Rattle.relations.specs.declared.Tables.{Tables}
use Rattle.relations.specs.Tables.{row, with_row, IsRow, Tabled, Noted, Walked}

-- The row with another match.
abbrev pub with_match : Row → ℕ → Row
with_match r m = record { held = r.held; predecessor = r.predecessor; awaited = r.awaited; matching = m }

-- It is the row for other events before, where these show that match.
rematched : {σ : Trace} {e g f m : ℕ} {r : Row} → IsRow σ e f r → m ≡ marked_before σ g f
    → IsRow σ g f (with_match r m)
rematched z q = record {
  held_is = z.held_is;
  predecessor_is = z.predecessor_is;
  awaited_is = z.awaited_is;
  matching_is = q;
}

-- The arrays of the tables have an entry for each event.
pub record Lengths (tables : Tables) : Type 0 where
  pub held : length tables.held ≡ 4096
  pub predecessors : length tables.predecessors ≡ 4096
  pub awaited : length tables.awaited ≡ 4096
  pub matches : length tables.matches ≡ 4096

module _ {tables : Tables} (z : Lengths tables) where
  row_same : {e : ℕ} → e < 4096 → (r : Row) → row (with_row tables e r) e ≡ r
  row_same {e} l r =
      rw (
        get_or-set_same tables.held e r.held 0 (omega (arith, z.held)),
        get_or-set_same tables.predecessors e r.predecessor 0 (omega (arith, z.predecessors)),
        get_or-set_same tables.awaited e r.awaited 0 (omega (arith, z.awaited)),
        get_or-set_same tables.matches e r.matching 0 (omega (arith, z.matches)),
      ) refl

row_other : (tables : Tables) (e f : ℕ) (r : Row) → f ≢ e → row (with_row tables e r) f ≡ row tables f
row_other tables e f r d =
    rw (
      get_or-set_other tables.held e f r.held 0 d,
      get_or-set_other tables.predecessors e f r.predecessor 0 d,
      get_or-set_other tables.awaited e f r.awaited 0 d,
      get_or-set_other tables.matches e f r.matching 0 d,
    ) refl

module _ {σ : Trace} {e : ℕ} {tables : Tables} (z : Noted σ e tables) (long : Lengths tables) (l : e < 4096)
    {r : Row} (n : IsRow σ (e + 1) e r) where
  -- Once event e has its row, the row of an event whose match it leaves is right.
  row_left : (f : ℕ) → 1 ≤ f → f < e + 1 → (f < e → marked_before σ (suc e) f ≡ marked_before σ e f)
      → IsRow σ (e + 1) f (row (with_row tables e r) f)
  row_left f h k left =
      ⊎_elim
      (λ (q : f ≡ e). rw (q, row_same long l r) n)
      (λ (m : f ≢ e).
      let old = z.at f h (omega arith) in
      rw (row_other tables e f r m)
      (rematched old (old.matching_is ∙ rw (add-one e) (sym (left (omega arith))))))
      (equal? f e)

  -- An event that is no outer release leaves all of them.
  pub row_noted : is_release σ e ≡ false → Noted σ (e + 1) (with_row tables e r)
  row_noted d = record { at = λ f h k. row_left f h k (λ b. marked_keep σ e f b d) }

  -- An outer release is also the match of its acquire.
  pub release_noted : WellFormed σ → (1 ≤ e) × (e ≤ length σ) → T (is_release σ e)
      → Noted σ (e + 1) (record (with_row tables e r) {
        matches = set (set tables.matches e r.matching) r.matching e;
      })
  release_noted ok i t = record { at = λ f h k. ⊎_elim (acquire f) (other f h k) (equal? f r.matching) }
    where
      latest : r.matching ≡ last_before e (λ f. is_acquire σ f && eqb (object σ e) (object σ f))
      latest =
          let q : r.matching ≡ marked_before σ (suc e) e = rw (add-one e) at n.matching_is in
          q ∙ sym (marked_release σ ok e i t refl)

      opened : (r.matching ≢ 0) × (r.matching < e) × T (is_acquire σ r.matching)
      opened = rw latest (opened_acquire σ ok e i t)

      closed : Tables
      closed = record (with_row tables e r) { matches = set (set tables.matches e r.matching) r.matching e }

      acquire : (f : ℕ) → f ≡ r.matching → IsRow σ (e + 1) f (row closed f)
      acquire f q =
          let old = z.at r.matching (omega (arith, opened)) (omega (arith, opened)) in
          let apart : r.matching ≢ e = omega (arith, opened) in
          rw (
            q,
            get_or-set_other tables.held e r.matching r.held 0 apart,
            get_or-set_other tables.predecessors e r.matching r.predecessor 0 apart,
            get_or-set_other tables.awaited e r.matching r.awaited 0 apart,
            get_or-set_same (set tables.matches e r.matching) r.matching e 0
                (omega (arith, opened, length-set tables.matches e r.matching, long.matches)),
          )
          (rematched old (rw (add-one e) (sym (marked_opened σ ok e i t latest))))

      other : (f : ℕ) → 1 ≤ f → f < e + 1 → f ≢ r.matching → IsRow σ (e + 1) f (row closed f)
      other f h k x =
          rw (get_or-set_other (set tables.matches e r.matching) r.matching f e 0 x)
          (row_left f h k (λ b. marked_other σ ok e i t latest f b x))

-- After the last event each row has the relations of its event.
pub noted_end : {σ : Trace} {e : ℕ} {tables : Tables} {walk : Walk} → Noted σ e tables → Walked σ e walk
    → e ≡ suc (length σ) → Tabled σ (record tables { tasks = walk.latest.now.tasks })
noted_end {σ} {walk = walk} z w last = record {
  held_at = λ f i. (z.at f i.0 (omega (arith, i, last))).held_is;
  predecessor_at = λ f i. (z.at f i.0 (omega (arith, i, last))).predecessor_is;
  start_at = λ t i. rw last at (start_is w.latest i);
  awaited_at = λ f i. (z.at f i.0 (omega (arith, i, last))).awaited_is;
  matching_at = λ f i. (rw last at (z.at f i.0 (omega (arith, i, last))).matching_is) ∙ marked_end σ f;
}

-- The relations of an event, off what the tables have of it.
pub related_is : (σ : Trace) (e : ℕ) → 1 ≤ e → {h p a m op w r c : ℕ} → h ≡ held σ e → p ≡ predecessor σ e
    → a ≡ awaited σ e → m ≡ marked σ e → op ≡ (at σ e).op → w ≡ cond (eqb op 0) a 0 → r ≡ cond (eqb m e) 0 m
    → c ≡ ones h
    → ◌≡◌ {A = Relations}
    (record { refusal = 0; event = 0; held = h; locks = c; matching = r; writer = w; predecessor = p })
    (event_relations σ e)
related_is σ e h q p a m o w r c =
    rw (c, w, r, q, p, a, m, o, ← (marked_match σ e h), ← (writer_off σ e))
