-- How one event of a well-formed trace changes the depth of a lock, whoever holds it; what that is is in
-- specs/Walked. Assumes nothing.
use Prim.Native.Nat.{ℕ, suc, ◌-◌, ◌≤◌, ◌<◌}
use mathlib.Core.Path.{◌≡◌, refl}
use mathlib.Core.Logic.{⊎_elim, ◌≢◌}
use mathlib.Core.Bool.{false, ◌||◌}
use native.Mathlib.Omega.{arith}
use lib.Dec.{T, eqb, eqb→eq, ltb}
use Rattle.model.specs.Lists.{any, from}
use Rattle.model.specs.Trace.{Trace, tasks, task, object, enters, leaves, own_depth}
use Rattle.model.specs.Relations.{holds}
use Rattle.laws.specs.Walked.{Holder, LockDepth}
use Rattle.laws.proofs.Tests.{equal?, or_r}
use Rattle.laws.proofs.Trace.{enters-event, leaves-event}
use Rattle.laws.proofs.Depth.{depth_apart, depth_access}
use Rattle.laws.proofs.Holders.{holder_deep, holder-holds, holder-any, holder-start, holder_keep}
use Rattle.laws.proofs.Holders.{holder_own, holder_enter, holder_freed, holder_lowered, holder-fits}
use Rattle.laws.proofs.Holders.{holder_free}
use Rattle.laws.proofs.WellFormed.{WellFormed, enter-is_free, leave-held}

module _ (σ : Trace) where
  -- Before event 1 it is 0.
  pub lock_depth-start : (l : ℕ) → LockDepth σ 1 l 0
  lock_depth-start l = record { holder = 0; at = holder-start σ l }

  -- An event with another object leaves it,
  pub lock_depth_apart : {e l d : ℕ} → object σ e ≢ l → LockDepth σ e l d → LockDepth σ (suc e) l d
  lock_depth_apart {e} {l} n z =
      record { holder = z.holder; at = holder_keep σ (λ t. depth_apart σ e t l n) z.at }

  -- and so does a read or a write.
  pub lock_depth_access : {e l d : ℕ} → enters σ e ≡ false → leaves σ e ≡ false → LockDepth σ e l d
      → LockDepth σ (suc e) l d
  lock_depth_access {e} {l} a r z =
      record { holder = z.holder; at = holder_keep σ (λ t. depth_access σ e t l a r) z.at }

  -- Some task holds the lock where its depth is above 0.
  pub lock_depth-any : {e l d : ℕ} → LockDepth σ e l d → any (λ t. holds σ e t l) (from 0 tasks) ≡ ltb 0 d
  lock_depth-any z = holder-any σ z.at

  module _ (ok : WellFormed σ) where
    -- An acquire's own depth is that of its lock, which gets one deeper.
    pub lock_depth_enter : {e d : ℕ} → T (enters σ e) → LockDepth σ e (object σ e) d
        → (own_depth σ e ≡ d) × LockDepth σ (suc e) (object σ e) (suc d)
    lock_depth_enter {e} {d} a z =
        let (h, k) = enters-event σ e a in
        let b : task σ e < tasks = ok.task_lt e h k in
        let free : T (eqb z.holder 0 || eqb z.holder (suc (task σ e))) =
        rw (holder_free σ z.at) at (enter-is_free σ ok e a) in
        let deeper = holder_enter σ a refl b free z.at in
        (holder_own σ b free z.at, record { holder = suc (task σ e); at = deeper })

    -- A release's own depth is that of its lock, which is above 0 and gets one less deep.
    pub lock_depth_leave : {e d : ℕ} → T (leaves σ e) → LockDepth σ e (object σ e) d
        → (own_depth σ e ≡ d) × (0 < d) × LockDepth σ (suc e) (object σ e) (d - 1)
    lock_depth_leave {e} {d} a z =
        let (h, k) = leaves-event σ e a in
        let b : task σ e < tasks = ok.task_lt e h k in
        let held : T (eqb z.holder (suc (task σ e))) =
        rw (holder-holds σ z.at (task σ e) b) at (leave-held σ ok e a) in
        let own : z.holder ≡ suc (task σ e) = eqb→eq z.holder (suc (task σ e)) held in
        let at : Holder σ e (object σ e) (suc (task σ e)) d = rw own at z.at in
        let deep : 0 < d = holder_deep σ at (omega arith) in
        (holder_own σ b (or_r (eqb z.holder 0) _ held) z.at, deep, lower e d a deep at)
      where
        lower : (e d : ℕ) → T (leaves σ e) → 0 < d → Holder σ e (object σ e) (suc (task σ e)) d
            → LockDepth σ (suc e) (object σ e) (d - 1)
        lower e d a deep at =
            ⊎_elim
            (λ (q : d ≡ 1). rw q (record { holder = 0; at = holder_freed σ a refl (rw q at at) }))
            (λ n. record { holder = suc (task σ e); at = holder_lowered σ a refl (omega arith) at })
            (equal? d 1)

  -- A depth is at most the number of earlier events.
  pub lock_depth-fits : {e l d : ℕ} → LockDepth σ e l d → d ≤ e - 1
  lock_depth-fits z = holder-fits σ z.at
