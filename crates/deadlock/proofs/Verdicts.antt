-- The frontier of the predecessors of a pattern's numbers, one by one, and what is decided by it. Assumes
-- nothing.
use Prim.Native.Nat.{ℕ, ◌+◌, ◌≤◌, ◌<◌}
use mathlib.Core.Path.{◌≡◌}
use mathlib.Core.Bool.{Bool, true, false, cond, not, ◌&&◌}
use mathlib.Core.List.{List}
use native.Mathlib.Numerals.{add-one}
use Rattle.std.specs.Prelude.{Some, None, Ok}
use Rattle.model.specs.declared.Verdict.{Verdict}
use Rattle.model.specs.declared.Verdict.TheVariants.{Not, Deadlock}
use lib.Dec.{leb}
use lib.ListN.{length, get_or, take}
use lib.Seq.{take-suc}
use Rattle.model.specs.Lists.{all}
use Rattle.model.specs.Bytes.{numbers, is_whole}
use Rattle.model.specs.Pattern.{is_pattern}
use Rattle.model.specs.Trace.{Trace, task}
use Rattle.model.specs.Relations.{predecessor}
use Rattle.laws.specs.Frontier.{wanted, Advanced, Before}
use Rattle.laws.proofs.WellFormed.{WellFormed}
use Rattle.laws.proofs.Before.{before-extend, before_deadlock}
use Rattle.laws.proofs.Pattern.{lent_events}
use Rattle.frontier.specs.declared.Frontier.{Frontier}
use Rattle.deadlock.specs.Judged.{judged, Decided}

module _ (σ : Trace) (ns : List ℕ) (i : ℕ) (inside : i < length ns) where
  -- One event more of the frontier's list.
  pub before-next : WellFormed σ → (front latest front' latest' : List ℕ) (e : ℕ) → e ≡ get_or ns i 0
      → Before σ (take i ns) front latest → 1 ≤ e → e ≤ length σ
      → Advanced σ (wanted σ front (predecessor σ e)) front' latest'
      → Before σ (take (i + 1) ns) front' latest'
  before-next ok front latest front' latest' e q z h k a =
      rw (add-one i, take-suc ns i 0 inside, ← q) (before-extend σ ok (take i ns) front latest e front'
      latest' z h k a)

-- ---- what is decided

module _ (σ : Trace) (p : List ℕ) where
  -- Bytes that are no pattern.
  pub judged-none : (is_whole p && is_pattern σ (numbers p)) ≡ false → judged σ p ≡ None
  unfolding judged
  judged-none n = rw n

  module _ (y : (is_whole p && is_pattern σ (numbers p)) ≡ true) where
    -- The frontier of its predecessors decides.
    pub judged-verdict : (front latest : List ℕ) (v : Bool) → Before σ (numbers p) front latest
        → v ≡ all (λ e. not (leb e (get_or front (task σ e) 0))) (numbers p)
        → judged σ p ≡ Some (cond v Deadlock Not)
    unfolding judged
    judged-verdict front latest v z q =
        rw (y, q, before_deadlock σ (numbers p) front latest z (lent_events σ p y))

  -- The verdict that is decided.
  pub decided-verdict : (v : Verdict) (f : Frontier) → Decided σ p (Ok v) f → judged σ p ≡ Some v
  decided-verdict Not f d = d
  decided-verdict Deadlock f d = d.0
