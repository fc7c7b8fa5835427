-- The frontier of the closure of some events' predecessors: of none, of one event more, and the verdict that
-- it gives. Assumes nothing.
use Prim.Native.Nat.{ℕ, ◌≤◌, ◌<◌}
use mathlib.Core.Path.{◌≡◌, refl, sym, ap, ◌∙◌}
use mathlib.Core.Logic.{⊎_elim, ◌≢◌}
use mathlib.Core.Bool.{false, not}
use mathlib.Core.List.Memᴰ
use mathlib.Core.List.{List, [], ◌∷◌, ◌++◌, Memᴰ}
use native.Mathlib.Omega.{arith}
use lib.Dec.{T, leb, leb→le, le→leb, not_T}
use lib.ListN.{length, get_or, replicate}
use borrow.Author.Tests.{lt-leb}
use Rattle.model.specs.Lists.{all}
use Rattle.model.specs.Trace.{Trace, tasks, locks, task, is_event}
use Rattle.model.specs.Relations.{predecessor}
use Rattle.model.specs.EventSet.{has}
use Rattle.model.specs.Closed.{Closed}
use Rattle.model.specs.Closure.{closure}
use Rattle.model.specs.Pattern.{predecessors, closure_before, is_deadlock}
use Rattle.laws.specs.Frontier.{Frontier, wanted, Advanced, Before}
use Rattle.laws.proofs.Tests.{is_false}
use Rattle.laws.proofs.Lists.{all_ext, all_iff, zeros}
use Rattle.laws.proofs.Trace.{is_event_iff}
use Rattle.laws.proofs.Relations.{predecessor_below}
use Rattle.laws.proofs.WellFormed.{WellFormed}
use Rattle.laws.proofs.Turns.{settled-start}
use Rattle.laws.proofs.Reached.{closure-behind}
use Rattle.laws.proofs.Wanted.{wanted_grows, wanted_reaches, wanted_cases}
use Rattle.laws.proofs.Verdict.{predecessors_least, predecessors_sized, before_least, before_mono}
use Rattle.laws.proofs.Verdict.{predecessors-has}
use Rattle.laws.proofs.Closure.{closure_contains}

module _ (σ : Trace) where
  -- ---- the closure of no event's predecessors

  -- It has no event.
  pub before-start : (front latest : List ℕ) → front ≡ replicate tasks 0 → latest ≡ replicate locks 0
      → Before σ [] front latest
  before-start front latest p q = record {
    settled = settled-start σ front front latest clear p q;
    members = λ e h k.
        is_false (has (closure_before σ []) e) (not_T (has (closure_before σ []) e) (absent e)) ∙ sym
        (none e h);
  }
    where
      clear : Frontier σ front
      clear = record { long = rw p refl; own = λ t l d. absurd (d (rw p (zeros tasks t))) }

      absent : (e : ℕ) → T (has (closure_before σ []) e) → ⊥
      absent e h = before_least σ (λ x. ⊥) nothing [] (λ x m. absurd (Memᴰ.not-nil m)) e h
        where
          nothing : Closed σ (λ x. ⊥)
          nothing = record { direct = λ x y h n d. h; matches = λ a b h k r d. h }

      none : (e : ℕ) → 1 ≤ e → leb e (get_or front (task σ e) 0) ≡ false
      none e h = rw (p, zeros tasks (task σ e)) (lt-leb e 0 h)

  -- ---- one event more

  -- The closure of one predecessor more is reached from the one before.
  pub before-extend : WellFormed σ → (p front latest : List ℕ) (e : ℕ) (front' latest' : List ℕ)
      → Before σ p front latest → 1 ≤ e → e ≤ length σ
      → Advanced σ (wanted σ front (predecessor σ e)) front' latest'
      → Before σ (p ++ e ∷ []) front' latest'
  unfolding closure_before
  before-extend ok p front latest e front' latest' z h k a = record {
    settled = a.settled;
    members = closure-behind σ ok (predecessors σ (p ++ e ∷ [])) (predecessors_sized σ (p ++ e ∷ []))
        given front' latest' a reach tops;
  }
    where
      given : List ℕ
      given = wanted σ front (predecessor σ e)

      known : predecessor σ e ≤ length σ
      known = omega (arith, predecessor_below σ e)

      reach : (x : ℕ) → T (has (predecessors σ (p ++ e ∷ [])) x) → x ≤ get_or given (task σ x) 0
      reach = predecessors_least σ _ (p ++ e ∷ []) new
        where
          start : (f : ℕ) → Memᴰ f p → predecessor σ f ≢ 0 → predecessor σ f ≤ length σ
              → T (has (closure_before σ p) (predecessor σ f))
          start f n d l = closure_contains σ (predecessors σ p) (predecessor σ f) (predecessors-has σ p n d l)

          new : (f : ℕ) → Memᴰ f (p ++ e ∷ []) → predecessor σ f ≢ 0 → predecessor σ f ≤ length σ
              → predecessor σ f ≤ get_or given (task σ (predecessor σ f)) 0
          new f m d l = ⊎_elim old (λ n. latest_one (Memᴰ.eq_of_singleton n))
              (Memᴰ.append_cases p m)
            where
              old : Memᴰ f p → predecessor σ f ≤ get_or given (task σ (predecessor σ f)) 0
              old n =
                  let u = task σ (predecessor σ f) in
                  let inside : T (has (closure_before σ p) (predecessor σ f)) = start f n d l in
                  let low = leb→le (predecessor σ f) (get_or front u 0)
                  (rw (z.members (predecessor σ f) (omega arith) l) at inside) in
                  omega (arith, wanted_grows σ ok front z.settled.front_ok (predecessor σ e) known u)

              latest_one : f ≡ e → predecessor σ f ≤ get_or given (task σ (predecessor σ f)) 0
              latest_one q =
                  let d' : predecessor σ e ≢ 0 = rw q at d in
                  rw q (wanted_reaches σ ok front z.settled.front_ok (predecessor σ e) known d')

      tops : (u : ℕ) → u < tasks → get_or given u 0 ≢ 0
          → T (has (closure σ (predecessors σ (p ++ e ∷ []))) (get_or given u 0))
      tops u l d =
          ⊎_elim old (λ (n, _, q). new n q)
          (wanted_cases σ ok front z.settled.front_ok (predecessor σ e) known u)
        where
          old : get_or given u 0 ≡ get_or front u 0
              → T (has (closure σ (predecessors σ (p ++ e ∷ []))) (get_or given u 0))
          old q =
              let n : get_or front u 0 ≢ 0 = rw q at d in
              let (low, mine) = z.settled.front_ok.own u l n in
              let here : T (has (closure_before σ p) (get_or front u 0)) =
              rw (z.members (get_or front u 0) (omega arith) low, mine)
              (le→leb (get_or front u 0) (get_or front u 0) (omega arith)) in
              rw q (before_mono σ p (e ∷ []) (get_or front u 0) here)

          new : predecessor σ e ≢ 0 → get_or given u 0 ≡ predecessor σ e
              → T (has (closure σ (predecessors σ (p ++ e ∷ []))) (get_or given u 0))
          new n q =
              rw q (closure_contains σ (predecessors σ (p ++ e ∷ [])) (predecessor σ e)
              (predecessors-has σ (p ++ e ∷ []) (Memᴰ.append_right p (Memᴰ.head refl)) n
              (omega (arith, predecessor_below σ e))))

  -- ---- the verdict

  -- Deadlock: no event of p is behind the frontier.
  pub before_deadlock : (p front latest : List ℕ) → Before σ p front latest → T (all (is_event σ) p)
      → is_deadlock σ p ≡ all (λ e. not (leb e (get_or front (task σ e) 0))) p
  unfolding is_deadlock
  before_deadlock p front latest z t =
      all_ext _ _ p (λ e m.
      let (h, k) = (is_event_iff σ e).0 ((all_iff (is_event σ) p).0 t e m) in ap not (z.members e h k))
