-- The scan of the events that may follow a chain: what was taken before an event, and that the events passed
-- over add nothing. Assumes nothing.
use Prim.Native.Nat.{ℕ, suc, ◌-◌, ◌≤◌, ◌<◌}
use Rattle.std.specs.Prelude.{Result, Ok, Err}
use mathlib.Core.Path.{◌≡◌, refl, sym, ap, subst, ◌∙◌}
use mathlib.Core.Logic.{◌≢◌, ⊎_elim}
use mathlib.Core.Bool.{Bool, true, false, or-false}
use mathlib.Core.List.{List, [], ◌++◌}
use native.Mathlib.Omega.{arith}
use lib.Dec.{T}
use lib.ListN.{length}
use borrow.Author.Tests.{ne_eqb}
use Rattle.model.specs.Lists.{from, each, has_bit}
use Rattle.model.specs.Trace.{Trace, task, is_acquire}
use Rattle.laws.specs.Chain.{Chain, signature, add, fits}
use Rattle.laws.specs.Walk.{First, extensions, branch}
use Rattle.laws.specs.Returning.{Rooted, Covers}
use Rattle.laws.proofs.Tests.{and_iff, not_mono, or_l, is_true, equal?}
use Rattle.laws.proofs.Bits.{has_bit-set}
use Rattle.laws.proofs.Lists.{from_split}
use Rattle.laws.proofs.Filters.{each_append}
use Rattle.laws.proofs.Firsts.{each_first, each_last}
use Rattle.laws.proofs.Extensions.{extensions-suc, branch_unfit, branch_deadlock}
use Rattle.deadlock.specs.declared.Chain.{Chain as Kept}
use Rattle.deadlock.specs.Judged.{of_events}
use Rattle.frontier.specs.declared.Frontier.{Frontier}
use Rattle.chain.specs.declared.Grown.{Grown}
use Rattle.chain.specs.declared.Trial.{Trial}
use Rattle.chain.specs.declared.Trial.TheVariants.{Success, Failure, TaskFailure, Skipped}
use Rattle.chain.specs.Attempted.{Attempted, excluded_after}
use Rattle.chain.proofs.Laws.{along_itself}
use Rattle.entries.specs.declared.found.Found.{Found}
use Rattle.entries.specs.declared.Full.{Full}
use Rattle.entries.specs.Taken.{Adds}
use Rattle.entries.proofs.Laws.{adds_none, adds_trans, adds_over}
use Rattle.listing.specs.Open.{completions}

-- The test of an event that may follow a chain.
abbrev pub passes : Trace → Kept → ℕ → Bool
passes σ x f = fits (signature σ) (of_events [] x) f

-- The scan of the events that may follow a chain has come to a place: what the events to there add has been
-- taken, and of the later ones those that x does not pass, the chain with the tasks that are excluded, add
-- nothing.
pub record Scanning (σ : Trace) (k : ℕ) (c : Chain) (x : Kept) (at : ℕ) (out₀ out : List ℕ)
    (f₀ f : Found) : Type 0 where
  pub same : (x.last ≡ c.last) × (x.guards ≡ c.guards)
  pub covers : Covers c.tasks x.tasks
  pub low : c.first ≤ at
  pub high : at ≤ length σ
  pub passed : (g : ℕ) → at < g → g ≤ length σ → passes σ x g ≡ false → branch σ k c g ≡ []
  pub adds : Adds (each (branch σ k c) (from (suc c.first) (at - c.first))) out₀ out f₀ (Ok f)

-- At first only the chain's own tasks are excluded.
pub scanning-start : {σ : Trace} {k : ℕ} {p : List ℕ} {x : Kept} → x.first ≤ length σ
    → {out : List ℕ} {f : Found} → Scanning σ k (of_events p x) x x.first out out f f
scanning-start {σ} {k} {p} {x} inside {out} {f} = record {
  same = (refl, refl);
  covers = λ l t. t;
  low = omega arith;
  high = inside;
  passed = λ g h i. branch_unfit σ k (of_events p x) g;
  adds = let none : x.first - x.first ≡ 0 = omega arith in rw none (adds_none out f);
}

module _ {σ : Trace} {k : ℕ} {c : Chain} {x : Kept} {at : ℕ} {out₀ out : List ℕ} {f₀ f : Found}
    (z : Scanning σ k c x at out₀ out f₀ f) where
  -- Where none is left that passes, all is taken.
  pub scanning_end : First (passes σ x) (length σ) at 0
      → Adds (extensions σ (suc k) c) out₀ out f₀ (Ok f)
  scanning_end y =
      rw (
        extensions-suc σ k c,
        each_last (passes σ x) (branch σ k c) (length σ) c.first at z.low z.passed y z.high,
      ) z.adds

  module _ {e : ℕ} (d : e ≢ 0) (y : First (passes σ x) (length σ) at e) where
    -- The next one that passes is an event after the first,
    pub scanning_event : (1 ≤ e) × (c.first < e) × (e ≤ length σ)
    scanning_event = omega (arith, z.low, (y.passes d).0, (y.passes d).1)

    -- and an acquire.
    pub scanning_acquire : T (is_acquire σ e)
    scanning_acquire =
        let t : T (passes σ x e) = (y.passes d).2 in
        let s = simp and_iff at t in s.0.0.0

    -- It fits.
    pub scanning-fits : fits (signature σ) c e ≡ true
    scanning-fits =
        let t : T (passes σ x e) = (y.passes d).2 in
        let s = simp and_iff at t in
        let new = not_mono (has_bit x.tasks (task σ e)) (has_bit c.tasks (task σ e)) (z.covers (task σ e))
        s.0.1 in
        is_true (fits (signature σ) c e)
        (simp and_iff (((s.0.0.0, rw z.same.0 at s.0.0.1), new), rw z.same.1 at s.1))

    module _ {met : Trial} {old new : Grown} (t : Attempted σ k c e met old new) where
      -- Attempted with success, it adds what begins with the longer chain,
      pub scanning_adds : {reached : Frontier} → met ≡ Success reached → (c' : Chain)
          → c' ≡ add (signature σ) c e → {out' : List ℕ} → {r : Result Found Full}
          → Adds (completions σ k c') out out' f r
          → Adds (branch σ k c e) out out' f r
      scanning_adds {reached} s c' is {out'} {r} =
          subst (λ (ps : List (List ℕ)). Adds ps out out' f r)
          (ap (completions σ k) is ∙ sym (branch_deadlock σ k c e scanning-fits (t.deadlock reached s)))

      -- and otherwise nothing.
      pub scanning_drops : ((f : Frontier) → met ≢ Success f) → Rooted σ c
          → Adds (branch σ k c e) out out f (Ok f)
      scanning_drops n rooted = rw (t.dropped n c (along_itself rooted)) (adds_none out f)

    module _ {out' : List ℕ} {r : Result Found Full} (a : Adds (branch σ k c e) out out' f r) where
      -- What was taken with it.
      taken : Adds (each (branch σ k c) (from (suc c.first) (e - c.first))) out₀ out' f₀ r
      taken =
          rw (each_first (passes σ x) (branch σ k c) (length σ) c.first at z.low z.passed e y d)
          (adds_trans _ (branch σ k c e) out₀ out out' f₀ f r z.adds a)

    -- Where that exceeds the room, so does all.
    pub scanning_over : {out' : List ℕ} {v : Full} → Adds (branch σ k c e) out out' f (Err v)
        → Adds (extensions σ (suc k) c) out₀ out' f₀ (Err v)
    scanning_over {out'} {v} a = rw whole (adds_over _ _ out₀ out' f₀ v (taken a))
      where
        whole : extensions σ (suc k) c
            ≡ each (branch σ k c) (from (suc c.first) (e - c.first))
            ++ each (branch σ k c) (from (suc e) (length σ - c.first - (e - c.first)))
        whole =
            let (one, low, high) = scanning_event in
            extensions-suc σ k c
            ∙ rw (
              from_split (suc c.first) (e - c.first) (length σ - c.first) (suc e) (omega arith)
                  (omega arith),
              each_append,
            )

    -- The scan goes on behind it.
    pub scanning-next : Rooted σ c → {met : Trial} {old new : Grown} → Attempted σ k c e met old new
        → {x' : Kept} → x' ≡ excluded_after σ x met e → {out' : List ℕ} {f' : Found}
        → Adds (branch σ k c e) out out' f (Ok f')
        → Scanning σ k c x' e out₀ out' f₀ f'
    scanning-next rooted {met} {old} {new} t {x'} q a = record {
      same = rw q (elim met as (λ m. ((excluded_after σ x m e).last ≡ c.last)
          × ((excluded_after σ x m e).guards ≡ c.guards)) [
            | TaskFailure ↦ z.same
            | Success _ ↦ z.same
            | Failure ↦ z.same
            | Skipped ↦ z.same
          ]);
      covers = λ l s. wider l (z.covers l s);
      low = omega (arith, scanning_event);
      high = scanning_event.2;
      passed = rest met t q;
      adds = taken a;
    }
      where
        more : (g : ℕ) → e < g → g ≤ length σ → passes σ x g ≡ false → branch σ k c g ≡ []
        more g h i m = z.passed g (omega (arith, (y.passes d).0)) i m

        wider : Covers x.tasks x'.tasks
        wider l s = rw q (elim met as (λ m. T (has_bit (excluded_after σ x m e).tasks l)) [
          | TaskFailure ↦ rw (has_bit-set x.tasks (task σ e) l) (or_l (has_bit x.tasks l) _ s)
          | Success _ ↦ s
          | Failure ↦ s
          | Skipped ↦ s
        ])

        rest : (m : Trial) → Attempted σ k c e m old new → x' ≡ excluded_after σ x m e → (g : ℕ) → e < g
            → g ≤ length σ → passes σ x' g ≡ false → branch σ k c g ≡ []
        rest (Success _) t q g h i m = more g h i (rw q at m)
        rest Failure t q g h i m = more g h i (rw q at m)
        rest Skipped t q g h i m = more g h i (rw q at m)
        rest TaskFailure t q g h i m =
            ⊎_elim
            (λ (w : task σ g ≡ task σ e). t.later refl c (along_itself rooted) g h i w)
            (λ (w : task σ g ≢ task σ e). more g h i (rw (
              q,
              has_bit-set x.tasks (task σ e) (task σ g),
              ne_eqb (task σ e) (task σ g) (λ o. w (sym o)),
              or-false,
            ) at m))
            (equal? (task σ g) (task σ e))
