-- What tables keep of holders and depths, and how one event changes that; an outer acquire or release changes
-- the holder alone, an inner one the depth alone. What they hold is in specs/Walked. Assumes nothing.
use Prim.Native.Nat.{ℕ, suc, ◌-◌, ◌≤◌, ◌<◌}
use mathlib.Core.Path.{◌≡◌, refl, sym, ◌∙◌}
use mathlib.Core.Logic.{⊎_elim, ◌≢◌}
use mathlib.Core.Bool.{false, ◌||◌}
use mathlib.Core.List.{List}
use native.Mathlib.Omega.{arith}
use lib.Dec.{T, eqb}
use lib.ListN.{get_or, set, replicate, length-set, length-replicate, get_or-replicate}
use lib.Seq.{get_or-set_same, get_or-set_other}
use borrow.Author.Tests.{ne_eqb, eqb-true}
use Rattle.model.specs.Trace.{Trace, tasks, locks, task, object, enters, leaves, depth, own_depth}
use Rattle.model.specs.Relations.{holds}
use Rattle.model.specs.WellFormed.{is_free}
use Rattle.laws.specs.Walked.{Holder, kept, Kept, Holders, KeptDepths}
use Rattle.laws.proofs.Tests.{equal?, or_r, eq→eqb}
use Rattle.laws.proofs.Depth.{depth_apart, depth_access}
use Rattle.laws.proofs.Holders.{holder_deep, holder-holds, holder_free, holder-start, holder_keep}
use Rattle.laws.proofs.Holders.{holder_own, holder_enter, holder_freed, holder_lowered, holder-fits}

-- What is kept for a depth above 0 is the depth.
kept_deep : (d : ℕ) → 0 < d → kept d ≡ d
kept_deep d h = rw (ne_eqb d 0 (omega arith))

module _ {σ : Trace} where
  -- ---- one lock

  -- What is kept is at most the event's number.
  pub kept-fits : {e l h x : ℕ} → 1 ≤ e → Kept σ e l h x → x ≤ e
  kept-fits {e} {x = x} i z =
      ⊎_elim (λ (q : z.depth ≡ 0). omega (arith, rw q at z.is))
      (λ n. omega (arith, z.is ∙ kept_deep z.depth (omega arith), holder-fits σ z.at))
      (equal? z.depth 0)

  -- A task holds the lock where it is the holder,
  pub kept-holds : {e l h x : ℕ} → Kept σ e l h x → (t : ℕ) → t < tasks → holds σ e t l ≡ eqb h (suc t)
  kept-holds z = holder-holds σ z.at

  -- and it is free for an acquire where no other task is.
  pub kept_free : {e h x : ℕ} → Kept σ e (object σ e) h x → is_free σ e ≡ (eqb h 0 || eqb h (suc (task σ e)))
  kept_free z = holder_free σ z.at

  -- An event that changes no depth leaves what is kept.
  pub kept_keep : {e l h x : ℕ} → ((t : ℕ) → depth σ (suc e) t l ≡ depth σ e t l) → Kept σ e l h x
      → Kept σ (suc e) l h x
  kept_keep k z = record { depth = z.depth; at = holder_keep σ k z.at; is = z.is }

  module _ {e x : ℕ} (b : task σ e < tasks) where
    -- An acquire of a lock without holder is from depth 0, and makes its task the holder.
    pub kept_first : T (enters σ e) → Kept σ e (object σ e) 0 x
        → (own_depth σ e ≡ 0) × Kept σ (suc e) (object σ e) (suc (task σ e)) x
    kept_first a z =
        let none : z.depth ≡ 0 = eqb-true z.depth 0 (sym z.at.none) in
        let at : Holder σ e (object σ e) 0 0 = rw none at z.at in (
          holder_own σ b tt at,
          record { depth = 1; at = holder_enter σ a refl b tt at; is = rw none at z.is },
        )

    module _ (z : Kept σ e (object σ e) (suc (task σ e)) x) where
      -- Where the event's task is the holder, its depth is kept, and above 0.
      pub kept_own : (own_depth σ e ≡ x) × (0 < x)
      kept_own =
          let deep = holder_deep σ z.at (omega arith) in
          let same = z.is ∙ kept_deep z.depth deep in
          let free = or_r (eqb (suc (task σ e)) 0) _ (eq→eqb (suc (task σ e)) (suc (task σ e)) refl) in
          (holder_own σ b free z.at ∙ sym same, omega arith)

      own : Holder σ e (object σ e) (suc (task σ e)) x
      own =
          let deep = holder_deep σ z.at (omega arith) in
          rw (z.is ∙ kept_deep z.depth deep) z.at

      -- An acquire goes one deeper,
      pub kept_again : T (enters σ e) → Kept σ (suc e) (object σ e) (suc (task σ e)) (suc x)
      kept_again a =
          let free = or_r (eqb (suc (task σ e)) 0) _ (eq→eqb (suc (task σ e)) (suc (task σ e)) refl) in
          record {
            depth = suc x;
            at = holder_enter σ a refl b free own;
            is = sym (kept_deep (suc x) (omega arith));
          }

      -- a release from depth 1 leaves no holder,
      pub kept_freed : T (leaves σ e) → x ≡ 1 → Kept σ (suc e) (object σ e) 0 x
      kept_freed a q = rw q (record { depth = 0; at = holder_freed σ a refl (rw q at own); is = refl })

      -- and one from above leaves the holder, one less deep.
      pub kept_lowered : T (leaves σ e) → x ≢ 1 → Kept σ (suc e) (object σ e) (suc (task σ e)) (x - 1)
      kept_lowered a n = record {
        depth = x - 1;
        at = holder_lowered σ a refl (omega (arith, kept_own)) own;
        is = sym (kept_deep (x - 1) (omega (arith, kept_own)));
      }

  -- ---- tables of holders and depths

  -- Before event 1 no lock has a holder.
  pub holders-start : Holders σ 1 (replicate locks 0) (replicate locks 1)
  holders-start = record {
    holders_long = length-replicate {A = ℕ} locks 0;
    depths_long = length-replicate {A = ℕ} locks 1;
    at = λ l h. rw (get_or-replicate {A = ℕ} locks l 0 0 h, get_or-replicate {A = ℕ} locks l 1 0 h)
        (record { depth = 0; at = holder-start σ l; is = refl });
  }

  -- The event's lock gets another holder,
  pub holders_holder : {e h : ℕ} {holders depths : List ℕ} → Holders σ e holders depths → object σ e < locks
      → Kept σ (suc e) (object σ e) h (get_or depths (object σ e) 0)
      → Holders σ (suc e) (set holders (object σ e) h) depths
  holders_holder {e} {h} {holders} {depths} z b n = record {
    holders_long = length-set holders (object σ e) h ∙ z.holders_long;
    depths_long = z.depths_long;
    at = λ l k. ⊎_elim
        (λ (q : l ≡ object σ e).
        rw (q, get_or-set_same holders (object σ e) h 0 (omega (arith, z.holders_long))) n)
        (λ m. rw (get_or-set_other holders (object σ e) l h 0 m)
        (kept_keep (λ t. depth_apart σ e t l (λ q. m (sym q))) (z.at l k))) (equal? l (object σ e));
  }

  -- or another depth.
  pub holders-depth : {e x : ℕ} {holders depths : List ℕ} → Holders σ e holders depths → object σ e < locks
      → Kept σ (suc e) (object σ e) (get_or holders (object σ e) 0) x
      → Holders σ (suc e) holders (set depths (object σ e) x)
  holders-depth {e} {x} {holders} {depths} z b n = record {
    holders_long = z.holders_long;
    depths_long = length-set depths (object σ e) x ∙ z.depths_long;
    at = λ l k. ⊎_elim
        (λ (q : l ≡ object σ e).
        rw (q, get_or-set_same depths (object σ e) x 0 (omega (arith, z.depths_long))) n)
        (λ m. rw (get_or-set_other depths (object σ e) l x 0 m)
        (kept_keep (λ t. depth_apart σ e t l (λ q. m (sym q))) (z.at l k))) (equal? l (object σ e));
  }

  -- A read or a write leaves them.
  pub holders_access : {e : ℕ} {holders depths : List ℕ} → enters σ e ≡ false → leaves σ e ≡ false
      → Holders σ e holders depths → Holders σ (suc e) holders depths
  holders_access {e} a r z = record {
    holders_long = z.holders_long;
    depths_long = z.depths_long;
    at = λ l h. kept_keep (λ t. depth_access σ e t l a r) (z.at l h);
  }

  -- ---- tables of depths

  -- Before event 1 every lock has the entry of depth 0.
  pub kept_depths-start : KeptDepths σ 1 (replicate locks 1)
  kept_depths-start = record {
    long = length-replicate {A = ℕ} locks 1;
    at = λ l h. (
      0,
      rw (get_or-replicate {A = ℕ} locks l 1 0 h) (record { depth = 0; at = holder-start σ l; is = refl }),
    );
  }

  -- The event's lock keeps its depth, whichever holder it gets,
  pub kept_depths_keep : {e h : ℕ} {table : List ℕ} → KeptDepths σ e table
      → Kept σ (suc e) (object σ e) h (get_or table (object σ e) 0) → KeptDepths σ (suc e) table
  kept_depths_keep {e} {h} {table} z n = record {
    long = z.long;
    at = λ l k. ⊎_elim (λ (q : l ≡ object σ e). rw q (h, n))
        (λ m. ((z.at l k).0, kept_keep (λ t. depth_apart σ e t l (λ q. m (sym q))) (z.at l k).1))
        (equal? l (object σ e));
  }

  -- or gets another depth.
  pub kept_depths-set : {e h x : ℕ} {table : List ℕ} → KeptDepths σ e table → object σ e < locks
      → Kept σ (suc e) (object σ e) h x → KeptDepths σ (suc e) (set table (object σ e) x)
  kept_depths-set {e} {h} {x} {table} z b n = record {
    long = length-set table (object σ e) x ∙ z.long;
    at = λ l k. ⊎_elim
        (λ (q : l ≡ object σ e).
        rw (q, get_or-set_same table (object σ e) x 0 (omega (arith, z.long))) (h, n))
        (λ m. rw (get_or-set_other table (object σ e) l x 0 m)
        ((z.at l k).0, kept_keep (λ t. depth_apart σ e t l (λ q. m (sym q))) (z.at l k).1))
        (equal? l (object σ e));
  }

  -- A read or a write leaves them.
  pub kept_depths_access : {e : ℕ} {table : List ℕ} → enters σ e ≡ false → leaves σ e ≡ false
      → KeptDepths σ e table → KeptDepths σ (suc e) table
  kept_depths_access {e} a r z = record {
    long = z.long;
    at = λ l h. ((z.at l h).0, kept_keep (λ t. depth_access σ e t l a r) (z.at l h).1);
  }
