-- The events in the set of a frontier, one after the other, as they are counted and written. Assumes nothing.
use Prim.Native.Nat.{ℕ, ◌+◌, ◌-◌, ◌≤◌}
use mathlib.Core.Path.{◌≡◌, refl, sym, ◌∙◌}
use mathlib.Core.Bool.{Bool, true, false}
use mathlib.Core.List.{List, [], ◌∷◌, ◌++◌, append-nil}
use native.Mathlib.Omega.{arith}
use lib.Dec.{leb}
use lib.ListN.{length, get_or, length-append}
use lib.Seq.{sets}
use Rattle.model.specs.Lists.{filter, from}
use Rattle.model.specs.Bytes.{encode}
use Rattle.model.specs.Calls.Witness.{least_schedule}
use Rattle.model.specs.Trace.{Trace, task}
use Rattle.laws.proofs.Lists.{from_iff, from_split, from-length}
use Rattle.laws.proofs.Filters.{filter-append, filter-next, filter_ext, filter-length}
use Rattle.laws.proofs.Bytes.{encode-append}
use Rattle.laws.proofs.Parts.{sets-append}
use Rattle.deadlock.specs.Judged.{Reached, behind_at, behind_below, behind}

module _ (σ : Trace) (front : List ℕ) (e : ℕ) (h : 1 ≤ e) where
  -- One number more.
  pub behind-step : behind_below σ front (e + 1) ≡ behind_below σ front e ++ behind_at σ front e
  behind-step =
      let q : e + 1 - 1 ≡ e = omega arith in
      rw q (filter-next (λ f. leb f (get_or front (task σ f) 0)) e h)

  -- An event of the set comes last,
  pub behind_more : leb e (get_or front (task σ e) 0) ≡ true
      → behind_below σ front (e + 1) ≡ behind_below σ front e ++ e ∷ []
  behind_more y = behind-step ∙ rw y

  -- and another is left out.
  pub behind_same : leb e (get_or front (task σ e) 0) ≡ false → behind_below σ front (e + 1) ≡ behind_below σ
      front e
  behind_same n = behind-step ∙ rw n (append-nil (behind_below σ front e))

  -- There are at most as many as numbers.
  pub behind-count : length (behind_below σ front e) ≤ e - 1
  behind-count =
      omega (
        arith,
        filter-length (λ f. leb f (get_or front (task σ f) 0)) (from 1 (e - 1)),
        from-length 1
            (e - 1),
      )

module _ (σ : Trace) (front : List ℕ) (e : ℕ) (h : 1 ≤ e) (out : List ℕ) (at : ℕ)
    (q : at ≡ length (encode (behind_below σ front e))) where
  -- The position after an event,
  pub written_at : at + length (encode (behind_at σ front e)) ≡ length (encode (behind_below σ front (e + 1)))
  written_at =
      rw (behind-step σ front e h, encode-append (behind_below σ front e) (behind_at σ front e))
      (omega (arith, length-append (encode (behind_below σ front e)) (encode (behind_at σ front e))))

  -- and the output after it.
  pub written_more : sets (sets out 0 (encode (behind_below σ front e))) at (encode (behind_at σ front e))
      ≡ sets out 0 (encode (behind_below σ front (e + 1)))
  written_more =
      let here : at ≡ 0 + length (encode (behind_below σ front e)) = omega arith in
      rw (here, behind-step σ front e h, encode-append (behind_below σ front e) (behind_at σ front e))
      (sets-append out 0 (encode (behind_below σ front e)) (encode (behind_at σ front e)))

-- Below a larger number there are no fewer.
pub behind_mono : (σ : Trace) (front : List ℕ) (e f : ℕ) → e ≤ f
    → length (behind_below σ front e) ≤ length (behind_below σ front f)
behind_mono σ front e f h =
    rw (
      from_split 1 (e - 1) (f - 1) (1 + (e - 1)) (omega arith) refl,
      filter-append p (from 1 (e - 1)) (from (1 + (e - 1)) (f - 1 - (e - 1))),
    )
    (omega (
      arith,
      length-append (filter p (from 1 (e - 1)))
          (filter p (from (1 + (e - 1)) (f - 1 - (e - 1)))),
    ))
  where
    p : ℕ → Bool
    p x = leb x (get_or front (task σ x) 0)

-- ---- the schedule of a pattern

-- What is behind the frontier of a pattern's predecessors is the schedule that witnesses it.
pub behind_schedule : (σ : Trace) (p front : List ℕ) → Reached σ p front → behind σ front ≡ least_schedule σ p
unfolding least_schedule
behind_schedule σ p front z =
    let n : length σ + 1 - 1 ≡ length σ = omega arith in
    rw n (filter_ext _ _ (from 1 (length σ)) (λ e m.
    let inside = (from_iff 1 (length σ) e).0 m in sym (z.members e inside.0 (omega arith))))
