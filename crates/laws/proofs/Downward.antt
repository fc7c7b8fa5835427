-- Sets that have, with an event, all earlier events of its task, and its start: of these only the predecessor
-- has to be asked for, and for a join only what it waits for. Assumes nothing.
use Prim.Native.Nat.{ℕ}
use mathlib.Core.Path.{◌≡◌}
use mathlib.Core.Logic.{⊎_elim, ◌↔◌, ◌≢◌}
use mathlib.Core.List.Memᴰ
use mathlib.Core.List.{List, [], ◌∷◌, Memᴰ}
use native.Mathlib.Omega.{arith}
use Rattle.model.specs.Trace.{Trace, task}
use Rattle.model.specs.Relations.{predecessor, joined}
use Rattle.laws.proofs.Trace.{same_task_iff}
use Rattle.laws.proofs.Tasks.{join-event, belongs_iff}
use Rattle.laws.proofs.Relations.{predecessor_below, predecessor-belongs, predecessor_through}
use Rattle.laws.proofs.Relations.{joined_below, joined-belongs, joined-join}
use Rattle.laws.proofs.WellFormed.{WellFormed}
use Rattle.laws.proofs.TaskOrder.{predecessor_begun, joined-waits}
use Rattle.laws.proofs.Schedule.{Prior, Started, Ended, MayFollow}

-- The set has, with an event, all earlier events of its task, and its start.
pub record Downward (σ : Trace) (u : ℕ → Type 0) : Type 0 where
  pub prior : (e : ℕ) → u e → Prior σ e u
  pub started : (e : ℕ) → u e → Started σ e u

module _ (σ : Trace) (ok : WellFormed σ) (u : ℕ → Type 0) (down : Downward σ u) where
  -- The earlier events of an event's task are in it, and its start, where the predecessor is.
  pub predecessor_iff : (e : ℕ)
      → (Prior σ e u × Started σ e u) ↔ (predecessor σ e ≢ 0 → u (predecessor σ e))
  predecessor_iff e = (there, λ h. (prior h, started h))
    where
      p : ℕ
      p = predecessor σ e

      there : Prior σ e u × Started σ e u → p ≢ 0 → u p
      there (ordered, begun) d =
          let low = predecessor_below σ e in
          ⊎_elim (λ q. ordered p (omega arith) (omega arith) ((same_task_iff σ e p).1 q))
          (λ s. begun p s) ((belongs_iff σ (task σ e) p).0 (predecessor-belongs σ e d))

      prior : (p ≢ 0 → u p) → Prior σ e u
      prior h f z l t =
          ⊎_elim (λ (q : f ≡ p). rw q (h (omega arith)))
          (λ (k, s). down.prior p (h (omega arith)) f z k s) (predecessor_through σ e f z l t)

      started : (p ≢ 0 → u p) → Started σ e u
      started h f t =
          let (z, l, r) = predecessor_begun σ ok e f t in
          ⊎_elim (λ (q : f ≡ p). rw q (h (omega arith)))
          (λ (k, q). down.started p (h (omega arith)) f (rw q t)) r

  -- What a join awaits is in it where the last of that is.
  pub joined_iff : (e : ℕ) → Ended σ e u ↔ (joined σ e ≢ 0 → u (joined σ e))
  joined_iff e = (there, back)
    where
      x : ℕ
      x = joined σ e

      there : Ended σ e u → x ≢ 0 → u x
      there h d =
          let j = joined-join σ e d in
          let (z, l) = join-event σ e j in
          h j x (omega arith) (omega (arith, joined_below σ e)) (joined-belongs σ e d)

      back : (x ≢ 0 → u x) → Ended σ e u
      back h j f z l t =
          ⊎_elim (λ (q : f ≡ x). rw q (h (omega arith))) (λ (d, k, m).
          let here = h (omega arith) in
          ⊎_elim (λ q. down.prior x here f z k ((same_task_iff σ x f).1 q)) (λ s. down.started x here f s)
          ((belongs_iff σ (task σ x) f).0 m)) (joined-waits σ ok e f j z l t).1

-- ---- what is listed

-- Nothing listed is such a set,
pub downward-start : (σ : Trace) → Downward σ (λ f. Memᴰ f [])
downward-start σ = record {
  prior = λ e m. absurd (Memᴰ.not-nil m);
  started = λ e m. absurd (Memᴰ.not-nil m);
}

-- and an event that may follow keeps it.
pub downward-step : (σ : Trace) (before : List ℕ) (e : ℕ) → Downward σ (λ f. Memᴰ f before)
    → MayFollow σ before e → Downward σ (λ f. Memᴰ f (e ∷ before))
downward-step σ before e down may = record { prior = prior; started = started }
  where
    prior : (x : ℕ) → Memᴰ x (e ∷ before) → Prior σ x (λ f. Memᴰ f (e ∷ before))
    prior x (Memᴰ.head q) f z l t = Memᴰ.tail (may.ordered f z (rw q at l) (rw q at t))
    prior x (Memᴰ.tail m) f z l t = Memᴰ.tail (down.prior x m f z l t)

    started : (x : ℕ) → Memᴰ x (e ∷ before) → Started σ x (λ f. Memᴰ f (e ∷ before))
    started x (Memᴰ.head q) f t = Memᴰ.tail (may.started f (rw q at t))
    started x (Memᴰ.tail m) f t = Memᴰ.tail (down.started x m f t)
