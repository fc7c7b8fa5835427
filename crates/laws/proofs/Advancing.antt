-- How a frontier advances by visiting one event more; a task's turn is in Turns. Assumes nothing.
use Prim.Native.Nat.{ℕ, ◌≤◌, ◌<◌}
use mathlib.Core.Path.{◌≡◌, refl, sym, ◌∙◌}
use mathlib.Core.Logic.{◌⊎◌, inl, inr, ⊎_elim, ◌≢◌}
use mathlib.Core.Bool.{false}
use mathlib.Core.List.{List}
use native.Mathlib.Omega.{arith}
use lib.Dec.{T}
use lib.ListN.{get_or, set, length-set}
use lib.Seq.{get_or-set_same, get_or-set_other}
use Rattle.model.specs.Trace.{Trace, tasks, locks, task, object, is_acquire}
use Rattle.model.specs.Relations.{predecessor, matching}
use Rattle.model.specs.Closed.{Direct, predecessor_is, writer_is, joined_is}
use Rattle.laws.specs.Order.{previous, awaited}
use Rattle.laws.specs.Frontier.{Frontier, Behind, Visited, Advancing}
use Rattle.laws.proofs.Tests.{equal?}
use Rattle.laws.proofs.Trace.{same_task_iff}
use Rattle.laws.proofs.Relations.{previous_latest, previous_below, previous_own, predecessor-previous}
use Rattle.laws.proofs.Awaited.{writer-awaited, joined-awaited}
use Rattle.laws.proofs.WellFormed.{WellFormed}

module _ (σ : Trace) (front : List ℕ) (t old f : ℕ) (is-task : task σ f ≡ t) where
  -- ---- one event more

  -- With event f visited, the ones left are the previous one of its task and those before that.
  visited-step : (e : ℕ) → Visited σ front t old (previous σ f) e → Visited σ front t old f e ⊎ (e ≡ f)
  visited-step e v = ⊎_elim inr (λ d. inl (record {
    behind = v.behind;
    passed = λ q k. v.passed q
        (below d q k);
  }))
      (equal? e f)
    where
      below : e ≢ f → task σ e ≡ t → e ≤ f → e ≤ previous σ f
      below d q k =
          (previous_latest σ f).latest e (omega arith) ((same_task_iff σ f e).1 (is-task ∙ sym q))

  visited_keep : (e : ℕ) → Visited σ front t old f e → Visited σ front t old (previous σ f) e
  visited_keep e v = record {
    behind = v.behind;
    passed = λ q k. v.passed q (omega (arith, previous_below σ f));
  }

  visited_new : Behind σ front f → Visited σ front t old (previous σ f) f
  visited_new b = record {
    behind = b;
    passed = λ q k. absurd
        (omega (arith, b.event, previous_below σ f));
  }

-- With more wanted, the frontier is on its way, too.
pub advancing_more : (σ : Trace) (front want latest : List ℕ) (t old f : ℕ)
    → Advancing σ front want latest t old f → (want' : List ℕ) → Frontier σ want'
    → ((u : ℕ) → get_or want u 0 ≤ get_or want' u 0) → Advancing σ front want' latest t old f
advancing_more σ front want latest t old f z want' fr grows = record {
  front_ok = z.front_ok;
  want_ok = fr;
  ahead = λ u l. omega (arith, z.ahead u l, grows u);
  latest_long = z.latest_long;
  direct_wanted = λ e x v r d. omega (arith, z.direct_wanted e x v r d, grows (task σ x));
  latest_visited = z.latest_visited;
  latest_most = z.latest_most;
  match_wanted = λ e v a k. omega (arith, z.match_wanted e v a k, grows (task σ e));
}

module _ (σ : Trace) (ok : WellFormed σ) (front want latest : List ℕ) (t old f : ℕ)
    (z : Advancing σ front want latest t old f) (is-task : task σ f ≡ t) (at_f : Behind σ front f)
    (left : old < f) where
  -- An event is visited before f, or it is f.
  cases : (e : ℕ) → Visited σ front t old (previous σ f) e → Visited σ front t old f e ⊎ (e ≡ f)
  cases = visited-step σ front t old f is-task

  -- What the event needs by itself is wanted.
  abbrev pub Needed : List ℕ → Type 0
  Needed want' = (x : ℕ) → Direct σ f x → x ≢ 0 → x ≤ get_or want' (task σ x) 0

  -- So it is where what it awaits is wanted, and of its task's first event the start: another event has its
  -- predecessor in its own task, behind the frontier.
  pub needed : (want' : List ℕ) → task σ f < tasks → ((u : ℕ) → get_or want u 0 ≤ get_or want' u 0)
      → (awaited σ f ≢ 0 → awaited σ f ≤ get_or want' (task σ (awaited σ f)) 0)
      → (previous σ f ≡ 0 → predecessor σ f ≢ 0
      → predecessor σ f ≤ get_or want' (task σ (predecessor σ f)) 0) → Needed want'
  needed want' small grows awaits starts x (writer_is q) d =
      let same : x ≡ awaited σ f = q ∙ writer-awaited σ f (rw q at d) in rw same (awaits (rw same at d))
  needed want' small grows awaits starts x (joined_is q) d =
      let same : x ≡ awaited σ f = q ∙ joined-awaited σ f (rw q at d) in rw same (awaits (rw same at d))
  needed want' small grows awaits starts x (predecessor_is q) d =
      rw q (⊎_elim (λ (n : previous σ f ≡ 0). starts n (rw q at d))
      (λ (n : previous σ f ≢ 0). rw (predecessor-previous σ f n, previous_own σ f n) (omega (
        arith,
        previous_below σ f,
        at_f.within,
        z.ahead (task σ f) small,
        grows (task σ f),
      )))
      (equal? (previous σ f) 0))

  wanted : (want' : List ℕ) → ((u : ℕ) → get_or want u 0 ≤ get_or want' u 0) → Needed want'
      → (e x : ℕ) → Visited σ front t old (previous σ f) e → Direct σ e x → x ≢ 0
      → x ≤ get_or want' (task σ x) 0
  wanted want' grows n e x v r d =
      ⊎_elim (λ w. omega (arith, z.direct_wanted e x w r d, grows (task σ x)))
      (λ (q : e ≡ f). n x (rw q at r) d) (cases e v)

  -- ---- an event that is no acquire

  -- What it needs is wanted.
  pub visit_other : (want' : List ℕ) → Frontier σ want' → ((u : ℕ) → get_or want u 0 ≤ get_or want' u 0)
      → Needed want' → is_acquire σ f ≡ false
      → Advancing σ front want' latest t old (previous σ f)
  visit_other want' fr grows needed away = record {
    front_ok = z.front_ok;
    want_ok = fr;
    ahead = λ u l. omega (arith, z.ahead u l, grows u);
    latest_long = z.latest_long;
    direct_wanted = wanted want' grows needed;
    latest_visited = λ l b d.
        let (v, a, q) = z.latest_visited l b d in (visited_keep σ front t old f is-task _ v, a, q);
    latest_most = λ e v a. ⊎_elim (λ w. z.latest_most e w a) (λ (q : e ≡ f). absurd (never q a)) (cases e v);
    match_wanted = λ e v a k. ⊎_elim
        (λ w. omega (arith, z.match_wanted e w a k, grows (task σ e)))
        (λ (q : e ≡ f). absurd (never q a)) (cases e v);
  }
    where
      never : {e : ℕ} → e ≡ f → T (is_acquire σ e) → ⊥
      never q a = rw (q, away) at a

  -- ---- an acquire that is earlier than the latest one of its lock

  -- Its own match is wanted.
  pub visit-earlier : (want' : List ℕ) → Frontier σ want' → ((u : ℕ) → get_or want u 0 ≤ get_or want' u 0)
      → Needed want' → f < get_or latest (object σ f) 0 → matching σ f ≤ get_or want' (task σ f) 0
      → Advancing σ front want' latest t old (previous σ f)
  visit-earlier want' fr grows needed early matched = record {
    front_ok = z.front_ok;
    want_ok = fr;
    ahead = λ u l. omega (arith, z.ahead u l, grows u);
    latest_long = z.latest_long;
    direct_wanted = wanted want' grows needed;
    latest_visited = λ l b d.
        let (v, a, q) = z.latest_visited l b d in (visited_keep σ front t old f is-task _ v, a, q);
    latest_most = λ e v a. ⊎_elim (λ w. z.latest_most e w a) (λ (q : e ≡ f). rw q (omega arith)) (cases e v);
    match_wanted = λ e v a k. ⊎_elim
        (λ w. omega (arith, z.match_wanted e w a k, grows (task σ e)))
        (λ (q : e ≡ f). rw q matched) (cases e v);
  }

  -- ---- an acquire that is later than the latest one of its lock

  -- The match of that one is wanted, where there is one.
  pub visit_later : (want' : List ℕ) → Frontier σ want' → ((u : ℕ) → get_or want u 0 ≤ get_or want' u 0)
      → Needed want' → T (is_acquire σ f) → object σ f < locks → get_or latest (object σ f) 0 < f
      → (get_or latest (object σ f) 0 ≢ 0
      → matching σ (get_or latest (object σ f) 0) ≤ get_or want' (task σ (get_or latest (object σ f) 0)) 0)
      → Advancing σ front want' (set latest (object σ f) f) t old (previous σ f)
  visit_later want' fr grows needed acquire small later matched = record {
    front_ok = z.front_ok;
    want_ok = fr;
    ahead = λ u l. omega (arith, z.ahead u l, grows u);
    latest_long = length-set latest (object σ f) f ∙ z.latest_long;
    direct_wanted = wanted want' grows needed;
    latest_visited = λ l b d. ⊎_elim (new l) (old_one l b d) (equal? l (object σ f));
    latest_most = λ e v a. ⊎_elim (most e a) (λ (q : e ≡ f). rw (q, here) (omega arith)) (cases e v);
    match_wanted = λ e v a k. ⊎_elim (matches e a k)
        (λ (q : e ≡ f). absurd (omega (arith, rw (q, here) at k))) (cases e v);
  }
    where
      here : get_or (set latest (object σ f) f) (object σ f) 0 ≡ f
      here = get_or-set_same latest (object σ f) f 0 (omega (arith, z.latest_long))

      new : (l : ℕ) → l ≡ object σ f
          → Visited σ front t old (previous σ f) (get_or (set latest (object σ f) f) l 0)
          × T (is_acquire σ (get_or (set latest (object σ f) f) l 0))
          × (object σ (get_or (set latest (object σ f) f) l 0) ≡ l)
      new l q = rw (q, here) (visited_new σ front t old f is-task at_f, acquire, refl)

      old_one : (l : ℕ) → l < locks → get_or (set latest (object σ f) f) l 0 ≢ 0 → l ≢ object σ f
          → Visited σ front t old (previous σ f) (get_or (set latest (object σ f) f) l 0)
          × T (is_acquire σ (get_or (set latest (object σ f) f) l 0))
          × (object σ (get_or (set latest (object σ f) f) l 0) ≡ l)
      old_one l b d x =
          let same = get_or-set_other latest (object σ f) l f 0 x in
          let (v, a, q) = z.latest_visited l b (rw same at d) in
          rw same (visited_keep σ front t old f is-task _ v, a, q)

      most : (e : ℕ) → T (is_acquire σ e) → Visited σ front t old f e
          → e ≤ get_or (set latest (object σ f) f) (object σ e) 0
      most e a w =
          ⊎_elim
          (λ (q : object σ e ≡ object σ f). rw (q, here) (omega (arith, rw q at (z.latest_most e w a))))
          (λ (x : object σ e ≢ object σ f). rw (get_or-set_other latest (object σ f) (object σ e) f 0 x)
          (z.latest_most e w a)) (equal? (object σ e) (object σ f))

      matches : (e : ℕ) → T (is_acquire σ e) → e < get_or (set latest (object σ f) f) (object σ e) 0
          → Visited σ front t old f e → matching σ e ≤ get_or want' (task σ e) 0
      matches e a k w =
          ⊎_elim
          (λ (q : object σ e ≡ object σ f). of_lock q)
          (λ (x : object σ e ≢ object σ f).
          let k' : e < get_or latest (object σ e) 0 =
          rw (get_or-set_other latest (object σ f) (object σ e) f 0 x) at k in
          omega (arith, z.match_wanted e w a k', grows (task σ e)))
          (equal? (object σ e) (object σ f))
        where
          of_lock : object σ e ≡ object σ f → matching σ e ≤ get_or want' (task σ e) 0
          of_lock q =
              let m : e ≤ get_or latest (object σ f) 0 = rw q at (z.latest_most e w a) in
              ⊎_elim
              (λ (s : e ≡ get_or latest (object σ f) 0).
              rw s (matched (omega (arith, w.behind.event))))
              (λ (s : e ≢ get_or latest (object σ f) 0).
              let k' : e < get_or latest (object σ e) 0 = rw q (omega arith) in
              omega (arith, z.match_wanted e w a k', grows (task σ e)))
              (equal? e (get_or latest (object σ f) 0))
