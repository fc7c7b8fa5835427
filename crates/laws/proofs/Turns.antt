-- A task's turn in advancing a frontier: how it begins and ends, and the frontier before any. Assumes
-- nothing.
use Prim.Native.Nat.{ℕ, ◌≤◌, ◌<◌}
use mathlib.Core.Path.{◌≡◌, refl, ◌∙◌}
use mathlib.Core.Logic.{⊎_elim, ◌≢◌}
use mathlib.Core.List.{List}
use native.Mathlib.Omega.{arith}
use lib.ListN.{length, get_or, set, replicate, length-set}
use lib.Seq.{get_or-set_same, get_or-set_other}
use Rattle.model.specs.Trace.{Trace, tasks, locks, task}
use Rattle.laws.specs.Frontier.{Frontier, Behind, Visited, Advancing, Settled}
use Rattle.laws.proofs.Lists.{zeros}
use Rattle.laws.proofs.Tests.{equal?}

module _ (σ : Trace) (front want latest : List ℕ) where
  -- Before its turn all of the frontier has been visited; then the events up to the wanted one are left.
  pub turn_begin : (t : ℕ) → Settled σ front want latest → t < tasks → get_or front t 0 < get_or want t 0
      → Advancing σ (set front t (get_or want t 0)) want latest t (get_or front t 0) (get_or want t 0)
  turn_begin t z l k = record {
    front_ok = record { long = length-set front t _ ∙ z.front_ok.long; own = own };
    want_ok = z.want_ok;
    ahead = ahead;
    latest_long = z.latest_long;
    direct_wanted = λ e x v. z.direct_wanted e x (visited e v);
    latest_visited = λ x b d. let (v, a, q) = z.latest_visited x b d in (later _ v, a, q);
    latest_most = λ e v. z.latest_most e (visited e v);
    match_wanted = λ e v. z.match_wanted e (visited e v);
  }
    where
      at_t : get_or (set front t (get_or want t 0)) t 0 ≡ get_or want t 0
      at_t = get_or-set_same front t (get_or want t 0) 0 (omega (arith, z.front_ok.long))

      own : (u : ℕ) → u < tasks → get_or (set front t (get_or want t 0)) u 0 ≢ 0
          → (get_or (set front t (get_or want t 0)) u 0 ≤ length σ)
          × (task σ (get_or (set front t (get_or want t 0)) u 0) ≡ u)
      own u m d =
          ⊎_elim (λ (q : u ≡ t). rw (q, at_t) (z.want_ok.own t l (omega arith)))
          (λ (x : u ≢ t).
          let same = get_or-set_other front t u (get_or want t 0) 0 x in
          rw same (z.front_ok.own u m (rw same at d)))
          (equal? u t)

      ahead : (u : ℕ) → u < tasks → get_or (set front t (get_or want t 0)) u 0 ≤ get_or want u 0
      ahead u m =
          ⊎_elim (λ (q : u ≡ t). rw (q, at_t) (omega arith))
          (λ (x : u ≢ t). rw (get_or-set_other front t u (get_or want t 0) 0 x) (z.ahead u m)) (equal? u t)

      visited : (e : ℕ) → Visited σ (set front t (get_or want t 0)) t (get_or front t 0) (get_or want t 0) e
          → Visited σ front 0 0 0 e
      visited e v = record {
        behind = record { event = v.behind.event; within = ⊎_elim here there (equal? (task σ e) t) };
        passed = λ _ h. h;
      }
        where
          here : task σ e ≡ t → e ≤ get_or front (task σ e) 0
          here q = rw q (v.passed q (rw (q, at_t) at v.behind.within))

          there : task σ e ≢ t → e ≤ get_or front (task σ e) 0
          there x = rw (get_or-set_other front t (task σ e) (get_or want t 0) 0 x) at v.behind.within

      later : (e : ℕ) → Visited σ front 0 0 0 e
          → Visited σ (set front t (get_or want t 0)) t (get_or front t 0) (get_or want t 0) e
      later e v = record {
        behind = record { event = v.behind.event; within = ⊎_elim here there (equal? (task σ e) t) };
        passed = λ q _. rw q at v.behind.within;
      }
        where
          here : task σ e ≡ t → e ≤ get_or (set front t (get_or want t 0)) (task σ e) 0
          here q =
              let h : e ≤ get_or front t 0 = rw q at v.behind.within in rw (q, at_t) (omega arith)

          there : task σ e ≢ t → e ≤ get_or (set front t (get_or want t 0)) (task σ e) 0
          there x = rw (get_or-set_other front t (task σ e) (get_or want t 0) 0 x) v.behind.within

  -- After its turn all of the frontier has been visited again.
  pub turn_end : (t old f : ℕ) → Advancing σ front want latest t old f → f ≤ old → Settled σ front want latest
  turn_end t old f z k = record {
    front_ok = z.front_ok;
    want_ok = z.want_ok;
    ahead = z.ahead;
    latest_long = z.latest_long;
    direct_wanted = λ e x v. z.direct_wanted e x (all e v.behind);
    latest_visited = λ x b d.
        let (v, a, q) = z.latest_visited x b d in (record { behind = v.behind; passed = λ _ h. h }, a, q);
    latest_most = λ e v. z.latest_most e (all e v.behind);
    match_wanted = λ e v. z.match_wanted e (all e v.behind);
  }
    where
      all : (e : ℕ) → Behind σ front e → Visited σ front t old f e
      all e b = record { behind = b; passed = λ _ h. omega arith }

  -- Before anything is reached nothing has been visited.
  pub settled-start : Frontier σ want → front ≡ replicate tasks 0 → latest ≡ replicate locks 0
      → Settled σ front want latest
  settled-start w p q = record {
    front_ok = record { long = rw p refl; own = λ t l d. absurd (d (zero-at t)) };
    want_ok = w;
    ahead = λ u l. rw (zero-at u) (omega arith);
    latest_long = rw q refl;
    direct_wanted = λ e x v r d. absurd (nothing e v);
    latest_visited = λ l b d. absurd (d (rw q (zeros locks l)));
    latest_most = λ e v a. absurd (nothing e v);
    match_wanted = λ e v a k. absurd (nothing e v);
  }
    where
      zero-at : (t : ℕ) → get_or front t 0 ≡ 0
      zero-at t = rw p (zeros tasks t)

      nothing : (e : ℕ) → Visited σ front 0 0 0 e → ⊥
      nothing e v =
          let h : e ≤ get_or (replicate tasks 0) (task σ e) 0 = rw p at v.behind.within in
          omega (arith, zeros tasks (task σ e), v.behind.event)
