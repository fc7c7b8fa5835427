-- How the frontier goes on after a visit of one event. Assumes nothing.
use Prim.Native.Nat.{ℕ, ◌≤◌, ◌<◌, min}
use mathlib.Core.Path.{◌≡◌, refl, sym}
use mathlib.Core.Logic.{⊎_elim, ◌≢◌}
use mathlib.Core.Bool.{true, false}
use mathlib.Core.List.{List}
use native.Mathlib.Omega.{arith}
use lib.Dec.{T}
use lib.ListN.{length, get_or, set}
use borrow.Author.Tests.{lt-ltb, le-ltb}
use Rattle.model.specs.Trace.{Trace, tasks, locks, task, object, is_acquire}
use Rattle.model.specs.Relations.{predecessor, matching}
use Rattle.model.specs.Closed.{Direct, Again}
use Rattle.laws.specs.Order.{previous, awaited}
use Rattle.laws.specs.Frontier.{Frontier, Behind, Visited, Advancing, Entails, raised, wanted}
use Rattle.laws.proofs.Tests.{decided, equal?, at-most?}
use Rattle.laws.proofs.Trace.{same_object_iff}
use Rattle.laws.proofs.Relations.{matching_below}
use Rattle.laws.proofs.Awaited.{awaited_acquire, awaited_direct, awaited_below}
use Rattle.laws.proofs.Marks.{marked_acquire}
use Rattle.laws.proofs.Frontier.{raised_grows, raised_reaches, raised_frontier}
use Rattle.laws.proofs.WellFormed.{WellFormed, acquire_lt, matching-between, matching-task}
use Rattle.laws.proofs.Advancing.{needed, visit_other, visit-earlier, visit_later}
use Rattle.laws.proofs.Reached.{match_entailed}
use Rattle.laws.proofs.Wanted.{wanted_frontier, wanted_grows, wanted_reaches, wanted-behind}
use Rattle.frontier.specs.Visit.{wanted_earlier, latest_with, wanted_with}
use Rattle.frontier.proofs.Leaves.{Leaves, acquire-leaves, other-leaves, wanted_earlier-none}
use Rattle.frontier.proofs.Leaves.{wanted_earlier_some}

-- What is known after a visit of event f.
pub record Visiting (σ : Trace) (front want want' latest' : List ℕ) (t old f : ℕ) : Type 0 where
  pub going : Advancing σ front want' latest' t old (previous σ f)
  pub entailed : (given : List ℕ) → Entails σ given want → Entails σ given want'
  pub grows : (u : ℕ) → get_or want u 0 ≤ get_or want' u 0

-- What is wanted may grow: what is added follows from what was wanted before.
record Grown (σ : Trace) (want want' : List ℕ) : Type 0 where
  frontier : Frontier σ want'
  entailed : (given : List ℕ) → Entails σ given want → Entails σ given want'
  grows : (u : ℕ) → get_or want u 0 ≤ get_or want' u 0

module _ (σ : Trace) (ok : WellFormed σ) (front want latest : List ℕ) (t old f : ℕ)
    (z : Advancing σ front want latest t old f) (is-task : task σ f ≡ t) (at_f : Behind σ front f)
    (left : old < f)
    (begun : previous σ f ≡ 0 → predecessor σ f ≢ 0
    → predecessor σ f ≤ get_or want (task σ (predecessor σ f)) 0) where
  -- The latest acquire of the lock of f that was visited.
  abbrev top : ℕ
  top = get_or latest (object σ f) 0

  abbrev Visit : List ℕ → List ℕ → Type 0
  Visit want' latest' = Visiting σ front want want' latest' t old f

  -- ---- what is wanted

  same : Grown σ want want
  same = record { frontier = z.want_ok; entailed = λ given e. e; grows = λ u. omega arith }

  -- An event e of task u is wanted, which closed sets have.
  module _ (u e : ℕ) (h : u < tasks) where
    room : u < length want
    room = omega (arith, z.want_ok.long)

    reaches : e ≤ get_or (raised want u e) u 0
    reaches = raised_reaches want u e room

    more : e ≤ length σ → task σ e ≡ u
        → ((given : List ℕ) → Entails σ given want → Entails σ given (raised want u e))
        → Grown σ want (raised want u e)
    more k q entailed = record {
      frontier = raised_frontier σ want u e z.want_ok h k q;
      entailed = entailed;
      grows = raised_grows want u e room;
    }

  -- What f awaits.
  awaited_in : awaited σ f ≤ length σ
  awaited_in = omega (arith, awaited_below σ f, at_f.event)

  awaited_more : Grown σ want (wanted σ want (awaited σ f))
  awaited_more = record {
    frontier = wanted_frontier σ ok want z.want_ok (awaited σ f) awaited_in;
    entailed = wanted-behind σ ok front want latest t old f z f at_f (awaited σ f) awaited_in
        (λ d v c h. c.direct f (awaited σ f) h (awaited_direct σ f) d);
    grows = wanted_grows σ ok want z.want_ok (awaited σ f) awaited_in;
  }

  -- The match of the earlier of two acquires.
  module _ (a b : ℕ) (again : Again σ a b) (at_a : Behind σ front a) where
    match_small : task σ a < tasks
    match_small = ok.task_lt a at_a.event.0 at_a.event.1

    match_more : Behind σ front b → Grown σ want (raised want (task σ a) (matching σ a))
    match_more at_b =
        more (task σ a) (matching σ a) match_small (matching_below σ a again.first)
        (matching-task σ ok a again.first (omega (arith, matching-between σ ok a b again)))
        (λ given e. match_entailed σ ok front want latest t old f z given e a b again at_a at_b (task σ a)
        (room (task σ a) (matching σ a) match_small))

    match_wanted : matching σ a ≤ get_or (raised want (task σ a) (matching σ a)) (task σ a) 0
    match_wanted = reaches (task σ a) (matching σ a) match_small

  -- ---- the visit

  visit : (want' latest' : List ℕ) → Grown σ want want'
      → Advancing σ front want' latest' t old (previous σ f) → Visit want' latest'
  visit want' latest' g going = record { going = going; entailed = g.entailed; grows = g.grows }

  -- All that the event needs by itself is wanted where what it awaits is.
  needs : (want' : List ℕ) → Grown σ want want'
      → (awaited σ f ≢ 0 → awaited σ f ≤ get_or want' (task σ (awaited σ f)) 0)
      → (x : ℕ) → Direct σ f x → x ≢ 0 → x ≤ get_or want' (task σ x) 0
  needs want' g awaits =
      needed σ ok front want latest t old f z is-task at_f left want'
      (ok.task_lt f at_f.event.0 at_f.event.1) g.grows awaits
      (λ n d. omega (arith, begun n d, g.grows (task σ (predecessor σ f))))

  -- What is no acquire wants what it awaits.
  other : is_acquire σ f ≡ false → Visit (wanted σ want (awaited σ f)) latest
  other n =
      visit _ latest awaited_more
      (visit_other σ ok front want latest t old f z is-task at_f left _ awaited_more.frontier
      awaited_more.grows
      (needs _ awaited_more (wanted_reaches σ ok want z.want_ok (awaited σ f) awaited_in)) n)

  module _ (acquire : T (is_acquire σ f)) where
    lock : object σ f < locks
    lock = acquire_lt σ ok f acquire

    -- It awaits nothing.
    alone : (want' : List ℕ) → Grown σ want want' → (x : ℕ) → Direct σ f x → x ≢ 0
        → x ≤ get_or want' (task σ x) 0
    alone want' g = needs want' g (λ d. absurd (d (awaited_acquire σ f acquire)))

    -- An acquire later than the latest one wants the match of that one.
    noted : top < f → (want' : List ℕ) → Grown σ want want'
        → (top ≢ 0 → matching σ top ≤ get_or want' (task σ top) 0) → Visit want' (set latest (object σ f) f)
    noted b want' g wanted =
        visit want' (set latest (object σ f) f) g
        (visit_later σ ok front want latest t old f z is-task at_f left want' g.frontier g.grows
        (alone want' g) acquire lock b wanted)

    module _ (some : top ≢ 0) where
      at_top : Visited σ front t old f top × T (is_acquire σ top) × (object σ top ≡ object σ f)
      at_top = z.latest_visited (object σ f) lock some

      later : top < f → Visit (raised want (task σ top) (matching σ top)) (set latest (object σ f) f)
      later b =
          noted b _ (match_more top f again at_top.0.behind at_f)
          (λ _. match_wanted top f again at_top.0.behind)
        where
          again : Again σ top f
          again = record {
            later = b;
            first = at_top.1;
            second = acquire;
            shared = (same_object_iff σ top f).1 at_top.2;
          }

      -- An earlier one wants its own.
      earlier : f ≤ top → Visit (raised want (task σ f) (matching σ f)) latest
      earlier b =
          let g = match_more f top again at_f at_top.0.behind in
          visit _ latest g
          (visit-earlier σ ok front want latest t old f z is-task at_f left _ g.frontier g.grows
          (alone _ g) below (match_wanted f top again at_f))
        where
          apart : f ≢ top
          apart r = omega (arith, (rw (← r) at at_top.0).passed is-task (omega arith))

          below : f < top
          below = omega (arith, apart)

          again : Again σ f top
          again = record {
            later = below;
            first = acquire;
            second = at_top.1;
            shared = (same_object_iff σ f top).1 (sym at_top.2);
          }

  -- A visit of event f brings the frontier on.
  pub visiting : Visiting σ front want (wanted_with σ want latest f) (latest_with σ latest f) t old f
  visiting = decided (is_acquire σ f) acquired
      (λ n. leaves _ latest (other-leaves σ f want latest n refl) (other n))
    where
      leaves : (want' latest' : List ℕ) → Leaves σ f want latest want' latest' → Visit want' latest'
          → Visit (wanted_with σ want latest f) (latest_with σ latest f)
      leaves want' latest' q v = rw (q.0, q.1) at v

      acquired : is_acquire σ f ≡ true → Visit (wanted_with σ want latest f) (latest_with σ latest f)
      acquired a =
          leaves _ _ (acquire-leaves σ f want latest a (refl, refl)) (⊎_elim first second (equal? top 0))
        where
          acquire : T (is_acquire σ f)
          acquire = rw a tt

          first : top ≡ 0 → Visit (wanted_earlier σ want top f) (raised latest (object σ f) f)
          first n =
              let b : top < f = omega (arith, at_f.event) in
              rw (wanted_earlier-none σ want top f n, lt-ltb top f b)
              (noted acquire b want same (λ d. absurd (d n)))

          second : top ≢ 0 → Visit (wanted_earlier σ want top f) (raised latest (object σ f) f)
          second x =
              ⊎_elim
              (λ (b : f ≤ top).
              let q : f ≡ min top f = omega arith in
              let is-match = marked_acquire σ f acquire in
              rw (wanted_earlier_some σ want top f x q, le-ltb top f b, is-match) (earlier acquire x b))
              (λ (b : top < f).
              let q : top ≡ min top f = omega arith in
              let is-match = marked_acquire σ top (at_top acquire x).1 in
              rw (wanted_earlier_some σ want top f x q, lt-ltb top f b, is-match) (later acquire x b))
              (at-most? f top)
