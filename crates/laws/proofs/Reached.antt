-- A frontier at rest, with nothing more to reach, is that of the smallest closed set: what a closed set has
-- of it, that it is closed, and that it is the closure of the set that it began with. Assumes nothing.
use Prim.Native.Nat.{ℕ, ◌≤◌, ◌<◌}
use mathlib.Core.Path.{◌≡◌, sym, ◌∙◌}
use mathlib.Core.Logic.{◌≢◌}
use mathlib.Core.Bool.{Bool}
use mathlib.Core.List.{List}
use native.Mathlib.Omega.{arith}
use lib.Dec.{T, leb, leb→le, le→leb}
use lib.ListN.{length, get_or}
use lib.Seq.{ext_get_or}
use Rattle.model.specs.Trace.{Trace, tasks, task, object}
use Rattle.model.specs.Relations.{matching}
use Rattle.model.specs.EventSet.{EventSet, has}
use Rattle.model.specs.Closed.{Direct, Again, Closed}
use Rattle.model.specs.Closure.{closure}
use Rattle.laws.specs.Frontier.{Frontier, Behind, Visited, Advancing, Settled, Entails, raised}
use Rattle.laws.specs.Frontier.{Advanced}
use Rattle.laws.proofs.Tests.{T-ext}
use Rattle.laws.proofs.Trace.{same_object_iff}
use Rattle.laws.proofs.Relations.{matching_below}
use Rattle.laws.proofs.Closed.{direct_below}
use Rattle.laws.proofs.EventSet.{Within, has_lt, Sized}
use Rattle.laws.proofs.Closure.{closure_closed, closure_least}
use Rattle.laws.proofs.Frontier.{closed-earlier, raised_entails}
use Rattle.laws.proofs.WellFormed.{WellFormed, matching-between, matching-task}

module _ (σ : Trace) (ok : WellFormed σ) where
  -- ---- what a closed set has

  -- A closed set with the wanted events has all that is behind the frontier.
  pub behind_in : (front want : List ℕ) → Frontier σ want
      → ((u : ℕ) → u < tasks → get_or front u 0 ≤ get_or want u 0)
      → (v : ℕ → Bool) → Closed σ (λ x. T (v x))
      → ((u : ℕ) → u < tasks → get_or want u 0 ≢ 0 → T (v (get_or want u 0))) → (e : ℕ) → Behind σ front e → T
      (v e)
  behind_in front want w ahead v c h e b =
      let l = ok.task_lt e b.event.0 b.event.1 in
      let m : e ≤ get_or want (task σ e) 0 = omega (arith, ahead (task σ e) l, b.within) in
      let d : get_or want (task σ e) 0 ≢ 0 = omega (arith, b.event) in
      closed-earlier σ (λ x. T (v x)) c (get_or want (task σ e) 0) e (h (task σ e) l d) b.event.0 m
      (sym (w.own (task σ e) l d).1)

  module _ (front want latest : List ℕ) (t old f : ℕ) (z : Advancing σ front want latest t old f)
      (given : List ℕ)
      (entails : Entails σ given want) where
    -- What an event behind the frontier needs by itself follows from it.
    pub direct_entailed : Behind σ front f → (x : ℕ) → Direct σ f x → x ≢ 0 → (u : ℕ) → u < length want
        → Entails σ given (raised want u x)
    direct_entailed b x n d u l =
        raised_entails σ given want u x l entails
        (λ v c h. c.direct f x (behind_in front want z.want_ok z.ahead v c h f b) n d)

    -- So does the match of the earlier of two acquires of one lock.
    pub match_entailed : (a b : ℕ) → Again σ a b → Behind σ front a → Behind σ front b → (u : ℕ) → u <
        length want
        → Entails σ given (raised want u (matching σ a))
    match_entailed a b again x y u l =
        raised_entails σ given want u (matching σ a) l entails
        (λ v c h. c.matches a b
        (behind_in front want z.want_ok z.ahead v c h a x)
        (behind_in front want z.want_ok z.ahead v c h b y) again
        (omega (arith, matching-between σ ok a b again)))

  -- ---- at rest

  -- Where nothing more is wanted, frontier and wanted events are the same.
  pub rest_same : (front want latest : List ℕ) → Settled σ front want latest
      → ((u : ℕ) → u < tasks → get_or want u 0 ≤ get_or front u 0) → want ≡ front
  rest_same front want latest z h =
      ext_get_or 0 want front (z.want_ok.long ∙ sym z.front_ok.long)
      (λ u l. omega (
        arith,
        h u (omega (arith, z.want_ok.long)),
        z.ahead u
            (omega (arith, z.want_ok.long)),
      ))

  -- The set of a frontier at rest is closed.
  pub rest_closed : (front latest : List ℕ) → Settled σ front front latest → Closed σ (Behind σ front)
  rest_closed front latest z = record { direct = direct; matches = matches }
    where
      visited : (e : ℕ) → Behind σ front e → Visited σ front 0 0 0 e
      visited e b = record { behind = b; passed = λ _ h. h }

      direct : (e x : ℕ) → Behind σ front e → Direct σ e x → x ≢ 0 → Behind σ front x
      direct e x b n d =
          record {
            event = omega (arith, b.event, direct_below σ e x n);
            within = z.direct_wanted e x (visited e b) n d;
          }

      matches : (a f : ℕ) → Behind σ front a → Behind σ front f → Again σ a f → matching σ a ≢ 0
          → Behind σ front (matching σ a)
      matches a f x y r d =
          let same : object σ a ≡ object σ f = (same_object_iff σ a f).0 r.shared in
          let most : f ≤ get_or latest (object σ a) 0 = rw same (z.latest_most f (visited f y) r.second) in
          let m : matching σ a ≤ get_or front (task σ a) 0 =
          z.match_wanted a (visited a x) r.first (omega (arith, r.later)) in
          record {
            event = omega (arith, matching_below σ a r.first);
            within = rw (matching-task σ ok a r.first d) m;
          }

  -- ---- the closure of a set

  module _ (s : EventSet) (sized : Sized σ s) (given front latest : List ℕ)
      (z : Advanced σ given front latest)
      (reach : (e : ℕ) → T (has s e) → e ≤ get_or given (task σ e) 0)
      (tops : (t : ℕ) → t < tasks → get_or given t 0 ≢ 0 → T (has (closure σ s) (get_or given t 0))) where
    -- What is behind the frontier is the closure of the set.
    pub closure-behind : (e : ℕ) → 1 ≤ e → e ≤ length σ
        → has (closure σ s) e ≡ leb e (get_or front (task σ e) 0)
    closure-behind e i k = T-ext _ _ there back
      where
        inside : Within s (Behind σ front)
        inside x h =
            let small : x ≤ length σ = omega (arith, has_lt s x h, sized.long) in
            let event : (1 ≤ x) × (x ≤ length σ) = (sized.nonzero x h, small) in
            record {
              event = event;
              within = omega (
                arith,
                reach x h,
                z.reached (task σ x) (ok.task_lt x event.0 event.1),
              );
            }

        there : T (has (closure σ s) e) → T (leb e (get_or front (task σ e) 0))
        there h =
            le→leb e (get_or front (task σ e) 0)
            (closure_least σ (Behind σ front) (rest_closed front latest z.settled) s inside e h).within

        back : T (leb e (get_or front (task σ e) 0)) → T (has (closure σ s) e)
        back h =
            behind_in front front z.settled.front_ok (λ u l. omega arith) (has (closure σ s))
            (closure_closed σ s sized) (z.least.entailed (has (closure σ s)) (closure_closed σ s sized)
            tops) e
            (record { event = (i, k); within = leb→le e (get_or front (task σ e) 0) h })
