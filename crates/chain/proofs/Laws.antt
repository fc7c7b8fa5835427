-- The chains of paths, and what an attempt at one event more decides. Assumes nothing.
use Prim.Native.Nat.{ℕ, suc, ◌≤◌, ◌<◌}
use mathlib.Core.Path.{◌≡◌, refl, sym, ap, ◌∙◌}
use mathlib.Core.Logic.{◌⊎◌, inl, inr, ⊎_elim, ◌≢◌}
use mathlib.Core.Bool.{Bool, true, false, not, ◌&&◌, and-true}
use mathlib.Core.List.{List, [], ◌∷◌, ◌++◌}
use native.Mathlib.Omega.{arith}
use lib.Dec.{T, T_not, not_T, leb}
use Rattle.std.specs.Prelude.{Option, Some, None, MatchOption}
use lib.ListN.{length, get_or}
use borrow.Author.Tests.{eq-eqb, ne_eqb}
use Rattle.model.specs.Lists.{all, has_bit}
use Rattle.model.specs.Trace.{Trace, task, object, is_event}
use Rattle.model.specs.Relations.{predecessor, held}
use Rattle.model.specs.Pattern.{is_deadlock}
use Rattle.laws.specs.Chain.{Chain, signature, add}
use Rattle.laws.specs.Frontier.{wanted, Advanced, Before}
use Rattle.laws.specs.Returning.{Returning, Rooted}
use Rattle.laws.proofs.Tests.{is_false, and_i, not-false, decided, equal?}
use Rattle.laws.proofs.Lists.{all_iff, all_append, all_fails}
use Rattle.laws.proofs.Extensions.{branch-not, branch_nowhere}
use Rattle.laws.proofs.Returning.{add_rooted, not_deadlock_later, before-again}
use Rattle.laws.proofs.Trace.{is_event_iff}
use Rattle.laws.proofs.WellFormed.{WellFormed}
use Rattle.laws.proofs.Pattern.{events_inside}
use Rattle.laws.proofs.Before.{before-extend, before_deadlock}
use Rattle.frontier.specs.declared.Frontier.{Frontier}
use Rattle.chain.specs.declared.Grown.{Grown}
use Rattle.chain.specs.declared.Trial.{Trial}
use Rattle.chain.specs.declared.Trial.TheVariants.{Success, Failure, TaskFailure, Skipped}
use Rattle.chain.specs.Attempted.{Reusable, kept_of, judged, Along, Attempted}

-- ---- what is decided of one event more

-- A chain whose masks are rooted is along itself.
pub along_itself : {σ : Trace} {c : Chain} → Rooted σ c → Along σ c c
along_itself r = record { events = refl; first = refl; rooted = r }

-- A path of events, and one event more.
pub path_more : (σ : Trace) (p : List ℕ) (e : ℕ) → T (all (is_event σ) p) → 1 ≤ e → e ≤ length σ
    → T (all (is_event σ) (p ++ e ∷ []))
path_more σ p e t h k =
    let event : T (is_event σ e) = (is_event_iff σ e).1 (h, k) in
    rw (all_append (is_event σ) p (e ∷ []), and-true) (and_i (all (is_event σ) p) _ t event)

module _ (σ : Trace) (k : ℕ) (c : Chain) (e : ℕ) (old : Grown) where
  -- A lock that does not lead back.
  pub attempted_nowhere : (back : List ℕ) → Returning σ c.first (suc k) back
      → has_bit (get_or back k 0) (object σ e) ≡ false → Attempted σ k c e Skipped old old
  attempted_nowhere back z h = record {
    deadlock = λ f q. cc;
    reached = λ f q. cc;
    grows = λ d. absurd (d refl);
    unchanged = λ q. refl;
    dropped = λ d c' l. branch_nowhere σ k c' e (rw l.first unclosed)
        (z.nowhere k (omega arith) (add (signature σ) c' e) l.first (add_rooted σ c' e l.rooted) h);
    later = λ q. cc;
  }
    where
      unclosed : has_bit (held σ c.first) (object σ e) ≡ false
      unclosed =
          is_false (has_bit (held σ c.first) (object σ e))
          (not_T (has_bit (held σ c.first) (object σ e)) (λ t.
          T_not (has_bit (get_or back k 0) (object σ e)) (rw h tt) (z.covers k (omega arith) (object σ e) t)))

  module _ (new : Grown) (base : Frontier) (kept : new.last ≡ Some (task σ e, base))
      (inside : T (all (is_event σ) c.events)) (here : (1 ≤ e) × (e ≤ length σ))
      (z : Before σ (c.events ++ e ∷ []) base.front base.latest) where
    -- The frontier does not have an event.
    abbrev apart : ℕ → Bool
    apart f = not (leb f (get_or base.front (task σ f) 0))

    -- What it has decides.
    verdict : is_deadlock σ (c.events ++ e ∷ []) ≡ (all apart c.events && apart e)
    verdict =
        before_deadlock σ (c.events ++ e ∷ []) base.front base.latest z
        (path_more σ c.events e inside here.0 here.1)
        ∙ all_append apart c.events (e ∷ []) ∙ ap (λ (b : Bool). all apart c.events && b) (and-true (apart e))

    -- It has an event of the chain.
    attempted_met : all apart c.events ≡ false → Attempted σ k c e TaskFailure old new
    attempted_met h = record {
      deadlock = λ f q. cc;
      reached = λ f q. cc;
      grows = λ d. (base, kept, z);
      unchanged = λ q. cc;
      dropped = λ d c' l. branch-not σ k c' e (rw (l.events, verdict, h));
      later = λ q c' l f b m s. branch-not σ k c' f (rw l.events (after f b m s));
    }
      where
        after : (f : ℕ) → e < f → f ≤ length σ → task σ f ≡ task σ e
            → is_deadlock σ (c.events ++ f ∷ []) ≡ false
        after f l m s =
            let (x, i, n) = all_fails apart c.events h in
            let event = (is_event_iff σ x).0 ((all_iff (is_event σ) c.events).0 inside x i) in
            not_deadlock_later σ c.events e f x
            (events_inside σ (c.events ++ f ∷ []) (path_more σ c.events f inside (omega arith) m)) here.0 l
            (sym s) i
            (rw (
              z.members x event.0 event.1,
              not-false (leb x (get_or base.front (task σ x) 0)) n,
            ) tt)

    module _ (h : all apart c.events ≡ true) where
      -- It has the event itself.
      attempted_itself : leb e (get_or base.front (task σ e) 0) ≡ true → Attempted σ k c e Failure old new
      attempted_itself y = record {
        deadlock = λ f q. cc;
        reached = λ f q. cc;
        grows = λ d. (base, kept, z);
        unchanged = λ q. cc;
        dropped = λ d c' l. branch-not σ k c' e (rw (l.events, verdict, h, y));
        later = λ q. cc;
      }

      -- It has none of the events.
      attempted_deadlock : leb e (get_or base.front (task σ e) 0) ≡ false
          → Attempted σ k c e (Success base) old new
      attempted_deadlock n = record {
        deadlock = λ f q. rw (verdict, h, n);
        reached = λ f q. let same : base ≡ f = cc in rw same at z;
        grows = λ d. (base, kept, z);
        unchanged = λ q. cc;
        dropped = λ d. absurd (d base refl);
        later = λ q. cc;
      }

    -- It has one of them, or none.
    pub attempted_judged : Attempted σ k c e (judged σ c.events base e) old new
    attempted_judged =
        decided (all apart c.events)
        (λ h. decided (leb e (get_or base.front (task σ e) 0)) (λ y. rw (h, y) (attempted_itself h y))
        (λ n. rw (h, n) (attempted_deadlock h n))) (λ h. rw h (attempted_met h))

-- ---- the frontier from which another is reached

-- What is extended is of the task, and from the frontier of the events or from that of the last attempt.
abbrev pub Begun : ℕ → Option (ℕ × Frontier) → Frontier → ℕ × Frontier → Type 0
Begun own last frontier l = (l.0 ≡ own) × ((l.1 ≡ frontier) ⊎ (last ≡ Some (own, l.1)))

-- The last attempt is kept, or the frontier of the events is inserted.
pub begun : (last : Option (ℕ × Frontier)) (frontier : Frontier) {t own : ℕ} {kept : Option (ℕ × Frontier)}
    {l : ℕ × Frontier} {P : Type 0} → t ≡ own → kept ≡ kept_of t last → MatchOption kept P (λ x. l ≡ x)
    → (P → l ≡ (t, frontier)) → Begun own last frontier l
begun last frontier {t} {l = l} {P = P} same is m p = rw (← same) (cases last (rw is at m))
  where
    new : {old : Option (ℕ × Frontier)} → P → Begun t old frontier l
    new x = let q = p x in (ap (λ (l : ℕ × Frontier). l.0) q, inl (ap (λ (l : ℕ × Frontier). l.1) q))

    cases : (old : Option (ℕ × Frontier)) → MatchOption (kept_of t old) P (λ x. l ≡ x)
        → Begun t old frontier l
    cases None n = new n
    cases (Some (u, g)) n =
        ⊎_elim
        (λ (q : u ≡ t). let k : l ≡ (u, g) = rw (eq-eqb u t q) at n in rw (k, q) (refl, inr refl))
        (λ (d : u ≢ t). new (rw (ne_eqb u t d) at n))
        (equal? u t)

module _ (σ : Trace) (ok : WellFormed σ) (e : ℕ) (here : (1 ≤ e) × (e ≤ length σ)) (frontier base : Frontier)
    (old : Grown) (from : (base ≡ frontier) ⊎ (old.last ≡ Some (task σ e, base))) where
  -- Extended by the predecessor of e, either is the frontier of the predecessors of the events and e.
  pub grow_reaches : (front latest : List ℕ) → Advanced σ (wanted σ base.front (predecessor σ e)) front latest
      → (p : List ℕ) → T (all (is_event σ) p) → Before σ p frontier.front frontier.latest → Reusable σ p e old
      → Before σ (p ++ e ∷ []) front latest
  grow_reaches front latest a p t b z = ⊎_elim anew again from
    where
      anew : base ≡ frontier → Before σ (p ++ e ∷ []) front latest
      anew q =
          before-extend σ ok p frontier.front frontier.latest e front latest b here.0 here.1 (rw q at a)

      again : old.last ≡ Some (task σ e, base) → Before σ (p ++ e ∷ []) front latest
      again q =
          let (d, low, less, same, before) = z.again base q in
          before-again σ ok p base.front base.latest d e front latest before low less same
          (events_inside σ (p ++ e ∷ []) (path_more σ p e t here.0 here.1)) a

-- The frontier of the last attempt, if there was one, is that of the predecessors of the events p and of an
-- event before e, whose task is the one noted.
pub record Remembered (σ : Trace) (p : List ℕ) (e : ℕ) (grown : Grown) : Type 0 where
  pub again : (t : ℕ) (f : Frontier) → grown.last ≡ Some (t, f) → (d : ℕ) × (1 ≤ d) × (d < e)
      × (task σ d ≡ t) × Before σ (p ++ d ∷ []) f.front f.latest

-- It may then be extended to that of e.
pub remembered : {σ : Trace} {p : List ℕ} {e : ℕ} {grown : Grown} → Remembered σ p e grown
    → Reusable σ p e grown
remembered {σ} {p} {e} z = record { again = z.again (task σ e) }

-- No frontier is kept at first.
pub remembered_none : {σ : Trace} {p : List ℕ} {e : ℕ} {grown : Grown} → grown.last ≡ None
    → Remembered σ p e grown
remembered_none n = record { again = λ t f q. cc }

-- One that is kept may be extended to that of any later event.
pub remembered_later : {σ : Trace} {p : List ℕ} {d e : ℕ} {grown : Grown} → d ≤ e → Remembered σ p d grown
    → Remembered σ p e grown
remembered_later h z = record {
  again = λ t f q. let (d, low, less, own, before) = z.again t f q in (d, low, omega arith, own, before);
}

-- After an attempt it is that of the event, unless this was skipped.
pub remembered_next : {σ : Trace} {k : ℕ} {c : Chain} {e : ℕ} {r : Trial} {old new : Grown} → 1 ≤ e
    → Remembered σ c.events e old → Attempted σ k c e r old new → Remembered σ c.events (suc e) new
remembered_next {σ} {k} {c} {e} {r} {old} {new} h z a = cases r a
  where
    newest : {m : Trial} → Attempted σ k c e m old new → m ≢ Skipped → Remembered σ c.events (suc e) new
    newest a n = record {
      again = λ t f q. let (g, kept, before) = a.grows n in
          let same : (task σ e, g) ≡ (t, f) = cc in (
            e,
            h,
            omega arith,
            ap (λ (l : ℕ × Frontier). l.0) same,
            rw (ap (λ (l : ℕ × Frontier). l.1) same) at before,
          );
    }

    cases : (m : Trial) → Attempted σ k c e m old new → Remembered σ c.events (suc e) new
    cases (Success f) a = newest a (λ q. cc)
    cases Failure a = newest a (λ q. cc)
    cases TaskFailure a = newest a (λ q. cc)
    cases Skipped a = rw (a.unchanged refl) (remembered_later (omega arith) z)
