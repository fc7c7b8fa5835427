-- Which chains lead nowhere: those whose last lock is not held where the chain could go on, or return to its
-- first event. And which events a chain cannot have, since an earlier one of their task was too late already.
-- Assumes nothing.
use Prim.Native.Nat.{ℕ, zero, suc, ◌-◌, ◌^◌, ◌≤◌, ◌<◌}
use mathlib.Core.Path.{◌≡◌, refl, sym, ◌∙◌}
use mathlib.Core.Logic.{◌≢◌, ⊎_elim}
use mathlib.Core.Bool.{true, false}
use mathlib.Core.List.Memᴰ
use mathlib.Core.List.{List, [], ◌∷◌, ◌++◌, Memᴰ}
use native.Mathlib.Omega.{arith}
use lib.Dec.{T, T_not, eqb, not_T}
use lib.Bits.{bit_and}
use lib.ListN.{length, get_or}
use Rattle.model.specs.Lists.{from, has_bit}
use Rattle.model.specs.Trace.{Trace, task, object, is_acquire}
use Rattle.model.specs.Relations.{predecessor, held}
use Rattle.model.specs.EventSet.{has}
use Rattle.model.specs.Pattern.{is_deadlock, closure_before}
use Rattle.laws.specs.Chain.{Chain, signature, start, add, fits}
use Rattle.laws.specs.Walk.{extensions, branch}
use Rattle.laws.specs.Returning.{Rooted, Covers, all_acquires, beside, IsCandidate, Leading, Spread}
use Rattle.laws.specs.Returning.{Returning}
use Rattle.laws.proofs.Tests.{T-ext, decided, and_iff, or_l, is_false, eq→eqb}
use Rattle.laws.proofs.Lists.{from_iff}
use Rattle.laws.proofs.Filters.{each_none}
use Rattle.laws.proofs.Bits.{has_bit-none, has_bit-or, has_bit_bit, apart_iff, apart-or}
use Rattle.laws.proofs.Trace.{same_task_iff}
use Rattle.laws.proofs.Relations.{previous_latest, previous_own, predecessor-previous}
use Rattle.laws.proofs.Closed.{closed-predecessor}
use Rattle.laws.specs.Order.{previous}
use Rattle.laws.proofs.WellFormed.{WellFormed, lock_lt}
use Rattle.laws.proofs.EventSet.{In, Within}
use Rattle.laws.proofs.Frontier.{closed-earlier}
use Rattle.laws.proofs.Verdict.{before_least, before_closed, before_contains, is_deadlock_iff}
use Rattle.laws.specs.Frontier.{wanted, Advanced, Before}
use Rattle.laws.proofs.Before.{before-extend}
use Rattle.laws.proofs.Pattern.{Inside}
use Rattle.laws.proofs.Extensions.{extensions-zero, extensions-suc, branch_unfit, branch_nowhere}

module _ (σ : Trace) where
  -- ---- chains with their first event in their masks

  -- The chain of one event.
  pub start_rooted : (a : ℕ) → Rooted σ (start (signature σ) a)
  start_rooted a = record {
    first_task = rw (has_bit_bit (task σ a) (task σ a)) (eq→eqb (task σ a) (task σ a) refl);
    guarded = λ m t. t;
  }

  -- A chain and one event more.
  pub add_rooted : (c : Chain) (e : ℕ) → Rooted σ c → Rooted σ (add (signature σ) c e)
  add_rooted c e r = record {
    first_task = rw (has_bit-or c.tasks (2 ^ (task σ e)) (task σ c.first))
        (or_l (has_bit c.tasks (task σ c.first)) _ r.first_task);
    guarded = λ m t. let s = simp (apart-or, and_iff) at t in r.guarded m s.0;
  }

  -- An event that fits: an acquire that holds the last lock, of another task than the chain's first event,
  -- and with none of its held locks.
  pub record Fitting (c : Chain) (e : ℕ) : Type 0 where
    pub acquires : T (is_acquire σ e)
    pub holds_last : T (has_bit (held σ e) (object σ c.last))
    pub other : task σ e ≢ task σ c.first
    pub apart : T (eqb (bit_and (held σ c.first) (held σ e)) 0)

  -- An event that fits a rooted chain does.
  pub fitting : (c : Chain) (e : ℕ) → Rooted σ c → fits (signature σ) c e ≡ true → Fitting c e
  fitting c e r f =
      let t : T (fits (signature σ) c e) = rw f tt in
      let s = simp and_iff at t in record {
        acquires = s.0.0.0;
        holds_last = s.0.0.1;
        other = λ q. T_not (has_bit c.tasks (task σ e)) s.0.1 (rw q r.first_task);
        apart = r.guarded (held σ e) s.1;
      }

  -- ---- the way back to the first event

  -- What leads from any acquire to another also leads from those beside one event.
  pub leading-all : (a : ℕ) (lead : List ℕ) → Leading σ all_acquires lead → Leading σ (beside σ a) lead
  leading-all a lead z = record {
    long = z.long;
    leads = λ e k c. z.leads e k record {
      later = omega (arith, c.later);
      acquires = c.acquires;
      other = λ q. cc;
      apart = (apart_iff 0 (held σ e)).1 (λ l t u. rw (has_bit-none l) at t);
    };
  }

  -- The locks that lead back, for a table of those that were held at other acquires.
  pub returning_spread : WellFormed σ → (a count : ℕ) (lead back : List ℕ)
      → Leading σ (beside σ a) lead → Spread lead count back → get_or back 0 0 ≡ held σ a
      → Returning σ a count back
  returning_spread ok a count lead back leading z own = record {
    long = z.long;
    complete = own;
    covers = covers;
    nowhere = nowhere;
  }
    where
      covers : (i : ℕ) → i < count → Covers (held σ a) (get_or back i 0)
      covers zero l x t = rw own t
      covers (suc i) l x t = z.grows i l x (covers i (omega arith) x t)

      -- An event that fits is a candidate.
      candidate : (c : Chain) (e : ℕ) → c.first ≡ a → a < e → Fitting c e → IsCandidate σ (beside σ a) e
      candidate c e q j f = record {
        later = j;
        acquires = f.acquires;
        other = λ s. f.other (rw q cc);
        apart = rw q at f.apart;
      }

      -- The lock of an event that fits does not lead back either: its held locks would.
      missed : (i : ℕ) → suc i < count → (c : Chain) (e : ℕ) → c.first ≡ a
          → has_bit (get_or back (suc i) 0) (object σ c.last) ≡ false → a < e → e ≤ length σ → Fitting c e
          → has_bit (get_or back i 0) (object σ e) ≡ false
      missed i l c e q h j k f =
          is_false (has_bit (get_or back i 0) (object σ e))
          (not_T (has_bit (get_or back i 0) (object σ e)) (λ t.
          T_not (has_bit (get_or back (suc i) 0) (object σ c.last)) (rw h tt)
          (z.leads i l (object σ e) (lock_lt σ ok e (omega arith) k (or_l (is_acquire σ e) _ f.acquires)) t
          (object σ c.last)
          (leading.leads e (omega (arith, k)) (candidate c e q j f) (object σ c.last) f.holds_last))))

      nowhere : (i : ℕ) → i < count → (c : Chain) → c.first ≡ a → Rooted σ c
          → has_bit (get_or back i 0) (object σ c.last) ≡ false → extensions σ i c ≡ []
      nowhere zero l c q w h = extensions-zero σ c
      nowhere (suc i) l c q w h =
          extensions-suc σ i c ∙ each_none (branch σ i c) (from (suc c.first) (length σ - c.first)) (λ e
          m.
          decided (fits (signature σ) c e)
          (λ f.
          let range = (from_iff (suc c.first) (length σ - c.first) e).0 m in
          let out = missed i l c e q h (omega arith) (omega arith) (fitting c e w f) in
          branch_nowhere σ i c e (rw q (unclosed i (omega arith) (object σ e) out))
          (nowhere i (omega arith) (add (signature σ) c e) q (add_rooted c e w) out))
          (branch_unfit σ i c e))
        where
          unclosed : (i : ℕ) → i < count → (l : ℕ) → has_bit (get_or back i 0) l ≡ false
              → has_bit (held σ a) l ≡
              false
          unclosed i k l o =
              is_false (has_bit (held σ a) l) (not_T (has_bit (held σ a) l) (λ t.
              T_not (has_bit (get_or back i 0) l) (rw o tt) (covers i k l t)))

  -- ---- later events of a task

  -- The closure before a later event of a task has all that is in the closure before an earlier one.
  pub before_later : (p : List ℕ) (e f : ℕ) → Inside σ (p ++ f ∷ []) → 1 ≤ e → e < f → task σ e ≡ task σ f
      → Within (closure_before σ (p ++ e ∷ [])) (In (closure_before σ (p ++ f ∷ [])))
  before_later p e f inside l k q =
      before_least σ (In (closure_before σ (p ++ f ∷ []))) (before_closed σ (p ++ f ∷ []))
      (p ++ e ∷ []) starts
    where
      starts : (x : ℕ) → Memᴰ x (p ++ e ∷ []) → predecessor σ x ≢ 0
          → In (closure_before σ (p ++ f ∷ [])) (predecessor σ x)
      starts x m d = ⊎_elim old (λ n. new (Memᴰ.eq_of_singleton n)) (Memᴰ.append_cases p m)
        where
          old : Memᴰ x p → In (closure_before σ (p ++ f ∷ [])) (predecessor σ x)
          old n = before_contains σ (p ++ f ∷ []) inside x (Memᴰ.append_left (f ∷ []) n) d

          new : x ≡ e → In (closure_before σ (p ++ f ∷ [])) (predecessor σ x)
          new s =
              let own = previous_latest σ f in
              let at_least : e ≤ previous σ f = own.latest e (omega arith)
              ((same_task_iff σ f e).1 (sym q)) in
              let z : previous σ f ≢ 0 = omega arith in
              let r = predecessor-previous σ f z in
              let closed = before_closed σ (p ++ f ∷ []) in
              let last = rw r at (before_contains σ (p ++ f ∷ []) inside f
              (Memᴰ.append_right p (Memᴰ.head refl)) (rw r z)) in
              let here = closed-earlier σ (In (closure_before σ (p ++ f ∷ []))) closed (previous σ f) e last l
              at_least (q ∙ sym (previous_own σ f z)) in
              rw s (closed-predecessor σ closed e here (rw s at d))

  -- Where the closure before an event has one of the chain's, no later event of its task makes a deadlock.
  pub not_deadlock_later : (p : List ℕ) (e f x : ℕ) → Inside σ (p ++ f ∷ []) → 1 ≤ e → e < f
      → task σ e ≡ task σ f → Memᴰ x p → T (has (closure_before σ (p ++ e ∷ [])) x)
      → is_deadlock σ (p ++ f ∷ []) ≡ false
  not_deadlock_later p e f x inside l k q m h =
      is_false (is_deadlock σ (p ++ f ∷ [])) (not_T (is_deadlock σ (p ++ f ∷ [])) (λ t.
      (is_deadlock_iff σ (p ++ f ∷ [])).0 t x (Memᴰ.append_left (f ∷ []) m) (before_later p e f inside l k q x
      h)))

  -- So the frontier before an earlier event of the task may be extended to that before a later one.
  pub before-again : WellFormed σ → (p front latest : List ℕ) (d e : ℕ) (front' latest' : List ℕ)
      → Before σ (p ++ d ∷ []) front latest → 1 ≤ d → d < e → task σ d ≡ task σ e → Inside σ (p ++ e ∷ [])
      → Advanced σ (wanted σ front (predecessor σ e)) front' latest'
      → Before σ (p ++ e ∷ []) front' latest'
  before-again ok p front latest d e front' latest' z h k q inside a =
      let high = inside e (Memᴰ.append_right p (Memᴰ.head refl)) in
      let both = before-extend σ ok (p ++ d ∷ []) front latest e front' latest' z (omega arith) high a in
      record {
        settled = both.settled;
        members = λ x i j. T-ext (has (closure_before σ (p ++ e ∷ [])) x) (has (closure_before σ (p ++ d ∷ []
            ++ e ∷ [])) x)
            (fewer x) (more x) ∙ both.members x i j;
      }
    where
      all_in : Inside σ (p ++ d ∷ [] ++ e ∷ [])
      all_in x m = ⊎_elim
          (λ n. ⊎_elim (λ o. inside x (Memᴰ.append_left (e ∷ []) o))
          (λ o. let high = inside e (Memᴰ.append_right p (Memᴰ.head refl)) in
          let s = Memᴰ.eq_of_singleton o in omega arith) (Memᴰ.append_cases p n))
          (λ n. inside x (Memᴰ.append_right p n)) (Memᴰ.append_cases (p ++ d ∷ []) m)

      fewer : Within (closure_before σ (p ++ e ∷ [])) (In (closure_before σ (p ++ d ∷ [] ++ e ∷ [])))
      fewer = before_least σ _ (before_closed σ (p ++ d ∷ [] ++ e ∷ [])) (p ++ e ∷ []) (λ x m.
          before_contains σ (p ++ d ∷ [] ++ e ∷ []) all_in x (⊎_elim
          (λ n. Memᴰ.append_left (e ∷ []) (Memᴰ.append_left (d ∷ []) n))
          (λ n. Memᴰ.append_right (p ++ d ∷ []) n) (Memᴰ.append_cases p m)))

      sub_in : Inside σ (p ++ d ∷ [])
      sub_in x m = all_in x (Memᴰ.append_left (e ∷ []) m)

      more : Within (closure_before σ (p ++ d ∷ [] ++ e ∷ [])) (In (closure_before σ (p ++ e ∷ [])))
      more = before_least σ _ (before_closed σ (p ++ e ∷ [])) (p ++ d ∷ [] ++ e ∷ []) (λ x m.
          ⊎_elim
          (λ n f. before_later p d e inside h k q (predecessor σ x) (before_contains σ (p ++ d ∷ []) sub_in x
          n f))
          (λ n f. before_contains σ (p ++ e ∷ []) inside x (Memᴰ.append_right p n) f)
          (Memᴰ.append_cases (p ++ d ∷ []) m))
