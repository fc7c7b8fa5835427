-- The paths of the search: one event more, and what comes of a path. Assumes nothing.
use Prim.Native.Nat.{ℕ, ◌+◌, ◌-◌, ◌≤◌}
use mathlib.Core.Path.{◌≡◌, sym, ap, subst, ◌∙◌}
use mathlib.Core.List.{List, [], ◌∷◌, ◌++◌}
use native.Mathlib.Omega.{arith}
use lib.Dec.{T}
use lib.ListN.{length}
use Rattle.model.specs.Trace.{Trace, is_acquire}
use Rattle.laws.specs.Chain.{Chain, signature, start, add}
use Rattle.laws.specs.Frontier.{Before}
use Rattle.laws.specs.Returning.{Returning}
use Rattle.laws.proofs.Returning.{start_rooted, add_rooted}
use Rattle.frontier.specs.declared.Frontier.{Frontier}
use Rattle.chain.specs.declared.path.Path.{Path}
use Rattle.chain.specs.Attempted.{chain_of}
use Rattle.chain.proofs.Laws.{path_more}
use Rattle.listing.specs.Open.{Traced, Open}

-- Fewer events more.
pub returning_fewer : {σ : Trace} {a m n : ℕ} {back : List ℕ} → n ≤ m → Returning σ a m back
    → Returning σ a n back
returning_fewer l z = record {
  long = z.long;
  complete = z.complete;
  covers = λ i h. z.covers i (omega arith);
  nowhere = λ i h. z.nowhere i (omega arith);
}

module _ (σ : Trace) where
  -- The chain of one acquire is one of the trace,
  pub traced_start : (a : ℕ) → 1 ≤ a → a ≤ length σ → T (is_acquire σ a) → Traced σ (start (signature σ) a)
  traced_start a h k t = record {
    events = path_more σ [] a tt h k;
    first_event = (h, k);
    last_event = (h, k);
    acquires = t;
    rooted = start_rooted σ a;
  }

  -- and so is one with an event more that fits.
  pub traced_add : (c : Chain) (e : ℕ) → Traced σ c → 1 ≤ e → e ≤ length σ → T (is_acquire σ e)
      → Traced σ (add (signature σ) c e)
  traced_add c e z h k t = record {
    events = path_more σ c.events e z.events h k;
    first_event = z.first_event;
    last_event = (h, k);
    acquires = t;
    rooted = add_rooted σ c e z.rooted;
  }

  -- The path of one acquire is open.
  pub open_start : (a largest : ℕ) (path : Path) (frontier : Frontier) → 1 ≤ a → a ≤ length σ
      → T (is_acquire σ a) → 2 ≤ largest → path.len ≡ 1 → chain_of path ≡ start (signature σ) a
      → Before σ (a ∷ []) frontier.front frontier.latest → Open σ a largest path (largest - 1) frontier
  open_start a largest path frontier h k t l one is z = record {
    begins = ap (λ (c : Chain). c.first) is;
    sized = omega arith;
    traced = rw is (traced_start a h k t);
    before = subst (λ (c : Chain). Before σ c.events frontier.front frontier.latest) (sym is) z;
  }

  -- A path and one event more may be extended by one event less.
  pub open_with : {first largest : ℕ} {path : Path} {left : ℕ} {frontier : Frontier}
      → Open σ first largest path left frontier → 1 ≤ left → (e : ℕ) → 1 ≤ e → e ≤ length σ
      → T (is_acquire σ e) → (path' : Path) (frontier' : Frontier) → path'.len ≡ path.len + 1
      → chain_of path' ≡ add (signature σ) (chain_of path) e
      → Before σ ((chain_of path).events ++ e ∷ []) frontier'.front frontier'.latest
      → Open σ first largest path' (left - 1) frontier'
  open_with {path = path} o l e h k t path' frontier' one is z = record {
    begins = ap (λ (c : Chain). c.first) is ∙ o.begins;
    sized = omega (arith, o.sized);
    traced = rw is (traced_add (chain_of path) e o.traced h k t);
    before = subst (λ (c : Chain). Before σ c.events frontier'.front frontier'.latest) (sym is) z;
  }
