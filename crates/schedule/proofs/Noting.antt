-- What listing one event more does to the tables, and how they begin. Assumes nothing.
use Prim.Native.Nat.{ℕ, ◌≤◌, ◌<◌}
use mathlib.Core.Path.{◌≡◌, refl, sym, ap, ◌∙◌}
use mathlib.Core.Logic.{⊎_elim, ◌≢◌}
use mathlib.Core.Bool.{true, false, ◌||◌}
use mathlib.Core.List.Memᴰ
use mathlib.Core.List.{List, [], ◌∷◌, Memᴰ}
use native.Mathlib.Omega.{arith}
use lib.Dec.{T, eqb, eqb→eq, leb, leb→le, le→leb}
use lib.ListN.{length, get_or, set, replicate, length-set, length-replicate}
use lib.Seq.{get_or-set_same, get_or-set_other}
use borrow.Author.Tests.{eq-eqb, ne_eqb, lt-leb}
use Rattle.model.specs.Lists.{member}
use Rattle.model.specs.Trace.{Trace, tasks, locks, variables, task, object}
use Rattle.model.specs.Trace.{is_write, is_acquire, same_object}
use Rattle.model.specs.Relations.{matching}
use Rattle.model.specs.Schedule.{latest_write, may_follow}
use Rattle.laws.specs.Frontier.{Frontier}
use Rattle.laws.proofs.Tests.{and_i, or_l, or_r, or_elim, T-ext, eq→eqb, equal?, at-most?}
use Rattle.laws.proofs.Lists.{member_iff, zeros}
use Rattle.laws.proofs.Trace.{Unpacked, is_event_iff, same_task_iff, same_object_iff}
use Rattle.laws.proofs.WellFormed.{WellFormed, acquire_lt}
use Rattle.laws.proofs.Operations.{is_write_op, is_acquire-none}
use Rattle.laws.proofs.Marks.{WithMark, marked_outer}
use Rattle.laws.proofs.Schedule.{MayFollow, may_follow_iff}
use Rattle.schedule.specs.declared.Progress.{Progress}
use Rattle.schedule.specs.Listed.{UpTo, Acquired, Written, Listed}
use Rattle.schedule.proofs.Tasks.{listed_iff}
use Rattle.schedule.proofs.Laws.{Clear}

-- ---- the start

-- The tables where nothing is listed.
abbrev pub empty : Progress
empty = record { last = replicate tasks 0; acquires = replicate locks 0; writes = replicate variables 0 }

-- They are clear.
pub listed_start : (σ : Trace) → Listed σ [] empty
unfolding latest_write
listed_start σ = record {
  up_to = record {
    front = record { long = refl; own = λ t l d. absurd (d (zeros tasks t)) };
    event = λ e m. absurd (Memᴰ.not-nil m);
    listed = λ e h k. rw (zeros tasks (task σ e)) (sym (lt-leb e 0 h));
    started = λ e m. absurd (Memᴰ.not-nil m);
  };
  acquired = record {
    long = length-replicate {A = ℕ} locks 0;
    listed = λ l h d. absurd (d (zeros locks l));
    latest = λ e m. absurd (Memᴰ.not-nil m);
    matched = λ e m. absurd (Memᴰ.not-nil m);
  };
  written = record {
    long = length-replicate {A = ℕ} variables 0;
    last = λ e h. sym (zeros variables (object σ e));
  };
}

-- ---- the latest event of its task

module _ (σ : Trace) (ρ last : List ℕ) (u : UpTo σ ρ last) (e : ℕ) (m : MayFollow σ ρ e)
    (small : task σ e < tasks) where
  inside : (1 ≤ e) × (e ≤ length σ)
  inside = (is_event_iff σ e).0 m.event

  own : get_or (set last (task σ e) e) (task σ e) 0 ≡ e
  own = get_or-set_same last (task σ e) e 0 (omega (arith, u.front.long))

  other : (t : ℕ) → t ≢ task σ e → get_or (set last (task σ e) e) t 0 ≡ get_or last t 0
  other t d = get_or-set_other last (task σ e) t e 0 d

  front-next : Frontier σ (set last (task σ e) e)
  front-next = record {
    long = length-set last (task σ e) e ∙ u.front.long;
    own = λ t l d. ⊎_elim
        (λ (q : t ≡ task σ e). rw (q, own) (inside.1, refl))
        (λ (n : t ≢ task σ e). rw (other t n) (u.front.own t l (rw (other t n) at d)))
        (equal? t (task σ e));
  }

  listed_own : (f : ℕ) → 1 ≤ f → f ≤ length σ → task σ f ≡ task σ e
      → (eqb f e || member f ρ) ≡ leb f (get_or (set last (task σ e) e) (task σ f) 0)
  listed_own f h k q = rw (q, own) (T-ext (eqb f e || member f ρ) (leb f e) there back)
    where
      there : T (eqb f e || member f ρ) → T (leb f e)
      there = or_elim (eqb f e) (member f ρ) (λ s. le→leb f e (omega (arith, eqb→eq f e s))) (λ s.
          let listed = rw q at ((listed_iff σ ρ last u f h k).0 ((member_iff f ρ).0 s)) in
          ⊎_elim (λ b. le→leb f e b)
          (λ b. absurd (m.fresh ((listed_iff σ ρ last u e inside.0 inside.1).1 (omega arith))))
          (at-most? f e))

      back : T (leb f e) → T (eqb f e || member f ρ)
      back s =
          ⊎_elim (λ (r : f ≡ e). or_l (eqb f e) _ (eq→eqb f e r))
          (λ (d : f ≢ e). or_r (eqb f e) _ ((member_iff f ρ).1
          (m.ordered f h (omega (arith, leb→le f e s)) ((same_task_iff σ e f).1 (sym q)))))
          (equal? f e)

  listed_other : (f : ℕ) → 1 ≤ f → f ≤ length σ → task σ f ≢ task σ e
      → (eqb f e || member f ρ) ≡ leb f (get_or (set last (task σ e) e) (task σ f) 0)
  listed_other f h k d =
      rw (other (task σ f) d, ne_eqb f e (λ q. d (ap (task σ) q))) (u.listed f h k)

  -- The event is the latest listed one of its task.
  pub up_to-next : UpTo σ (e ∷ ρ) (set last (task σ e) e)
  up_to-next = record {
    front = front-next;
    event = λ f i. ⊎_elim (λ (q : f ≡ e). rw q inside) (u.event f) (Memᴰ.cases_cons i);
    listed = λ f h k. ⊎_elim (listed_own f h k) (listed_other f h k) (equal? (task σ f) (task σ e));
    started = λ x i f t. ⊎_elim (λ (q : x ≡ e). Memᴰ.tail (m.started f (rw q at t)))
        (λ j. Memᴰ.tail (u.started x j f t)) (Memᴰ.cases_cons i);
  }

-- ---- the latest acquire of its lock

module _ (σ : Trace) (before acquires : List ℕ) (z : Acquired σ before acquires) (e : ℕ) where
  -- What is no acquire changes nothing.
  pub acquired_keep : is_acquire σ e ≡ false → Acquired σ (e ∷ before) acquires
  acquired_keep n = record {
    long = z.long;
    listed = λ l h d. let (i, t, q) = z.listed l h d in (Memᴰ.tail i, t, q);
    latest = λ f i t. z.latest f (old f t i) t;
    matched = λ f i t d. Memᴰ.tail (z.matched f (old f t i) t d);
  }
    where
      old : (f : ℕ) → T (is_acquire σ f) → Memᴰ f (e ∷ before) → Memᴰ f before
      old f t i = ⊎_elim (λ (q : f ≡ e). absurd (rw (q, n) at t)) (λ j. j) (Memᴰ.cases_cons i)

  module _ (a : T (is_acquire σ e)) (l : object σ e < locks) (clear : Clear σ before e) where
    entry_own : (k : ℕ) → k ≡ object σ e → get_or (set acquires (object σ e) e) k 0 ≡ e
    entry_own k q = rw q (get_or-set_same acquires (object σ e) e 0 (omega (arith, z.long)))

    entry_other : (k : ℕ) → k ≢ object σ e → get_or (set acquires (object σ e) e) k 0 ≡ get_or acquires k 0
    entry_other k d = get_or-set_other acquires (object σ e) k e 0 d

    earlier : (f : ℕ) → Memᴰ f before → T (is_acquire σ f) → object σ f ≡ object σ e
        → Memᴰ (matching σ f) before × (f < e)
    earlier f i t q = clear f i (and_i (is_acquire σ f) _ t ((same_object_iff σ e f).1 (sym q)))

    latest-old : (f : ℕ) → Memᴰ f before → T (is_acquire σ f)
        → f ≤ get_or (set acquires (object σ e) e) (object σ f) 0
    latest-old f i t =
        ⊎_elim
        (λ (q : object σ f ≡ object σ e). rw (entry_own (object σ f) q) (omega (arith, earlier f i t q)))
        (λ (d : object σ f ≢ object σ e). rw (entry_other (object σ f) d) (z.latest f i t))
        (equal? (object σ f) (object σ e))

    matched-old : (f : ℕ) → Memᴰ f before → T (is_acquire σ f)
        → f ≢ get_or (set acquires (object σ e) e) (object σ f) 0 → Memᴰ (matching σ f) before
    matched-old f i t n =
        ⊎_elim (λ (q : object σ f ≡ object σ e). (earlier f i t q).0)
        (λ (d : object σ f ≢ object σ e). z.matched f i t (rw (entry_other (object σ f) d) at n))
        (equal? (object σ f) (object σ e))

    -- An acquire of a clear lock is the latest listed one of it.
    pub acquired-next : Acquired σ (e ∷ before) (set acquires (object σ e) e)
    acquired-next = record {
      long = length-set acquires (object σ e) e ∙ z.long;
      listed = λ k h d. ⊎_elim
          (λ (q : k ≡ object σ e). rw (entry_own k q) (Memᴰ.head refl, a, sym q))
          (λ (n : k ≢ object σ e).
          let (i, t, q) = z.listed k h (rw (entry_other k n) at d) in
          rw (entry_other k n) (Memᴰ.tail i, t, q)) (equal? k (object σ e));
      latest = λ f i t. ⊎_elim
          (λ (q : f ≡ e). rw (q, entry_own (object σ e) refl) (omega arith)) (λ j. latest-old f j t)
          (Memᴰ.cases_cons i);
      matched = λ f i t n. ⊎_elim
          (λ (q : f ≡ e). absurd (n (q ∙ sym (entry_own (object σ f) (ap (object σ) q)))))
          (λ j. Memᴰ.tail (matched-old f j t n)) (Memᴰ.cases_cons i);
    }

-- ---- the last write of its variable

module _ (σ : Trace) (before writes : List ℕ) (z : Written σ before writes) (e : ℕ) where
  -- What is no write changes nothing.
  pub written_keep : is_write σ e ≡ false → Written σ (e ∷ before) writes
  unfolding latest_write
  written_keep n = record { long = z.long; last = λ f h. rw n (z.last f h) }

  -- A write is the last listed one of its variable.
  pub written_next : is_write σ e ≡ true → Written σ (e ∷ before) (set writes (object σ e) e)
  unfolding latest_write same_object
  written_next w = record {
    long = length-set writes (object σ e) e ∙ z.long;
    last = λ f h. ⊎_elim
        (λ (q : object σ f ≡ object σ e). rw (w, eq-eqb (object σ f) (object σ e) q, q)
        (sym (get_or-set_same writes (object σ e) e 0 (omega (arith, z.long)))))
        (λ (d : object σ f ≢ object σ e). rw (w, ne_eqb (object σ f) (object σ e) d)
        (z.last f h ∙ sym (get_or-set_other writes (object σ e) (object σ f) e 0 d)))
        (equal? (object σ f) (object σ e));
  }

-- ---- the three tables

-- Listing event e brings the tables from the first to the second, whatever is listed.
abbrev pub Notes : Trace → ℕ → Progress → Progress → Type 0
Notes σ e p p' =
    (before : List ℕ) → Listed σ before p → T (may_follow σ before e) → Listed σ (e ∷ before) p'

-- An event as the code has unpacked it, with its mark.
pub record Noted (σ : Trace) (e op t o m : ℕ) : Type 0 where
  pub sound : WellFormed σ
  pub event : Unpacked σ e op t o
  pub mark : WithMark σ e op m

module _ {σ : Trace} {e op t o m : ℕ} (k : Noted σ e op t o m) (p : Progress) where
  latest : (before : List ℕ) → Listed σ before p → T (may_follow σ before e)
      → UpTo σ (e ∷ before) (set p.last t e)
  latest before z may =
      rw k.event.task_is.1 (up_to-next σ before p.last z.up_to e ((may_follow_iff σ before e).0 may)
      (omega (arith, k.event.task_is)))

  unwritten : op ≢ 1 → (before : List ℕ) → Listed σ before p
      → Written σ (e ∷ before) p.writes
  unwritten d before z =
      written_keep σ before p.writes z.written e (is_write_op σ e k.mark.op_is ∙ ne_eqb op 1 d)

  -- A write is the latest event of its task and the last write of its variable.
  pub write_noted : op ≡ 1 → Notes σ e p (record p { last = set p.last t e; writes = set p.writes o e })
  write_noted w before z may = record {
    up_to = latest before z may;
    acquired = acquired_keep σ before p.acquires z.acquired e
        (is_acquire-none σ e k.mark.op_is (omega arith));
    written = rw k.event.object_is.1 (written_next σ before p.writes z.written e
        (is_write_op σ e k.mark.op_is ∙ eq-eqb op 1 w));
  }

  -- An outer acquire is that of its task, and the latest acquire of its lock.
  pub acquire_noted : op ≡ 2 → m ≢ e
      → Notes σ e p (record p { last = set p.last t e; acquires = set p.acquires o e })
  acquire_noted a d before z may = record {
    up_to = latest before z may;
    acquired =
        let h : T (is_acquire σ e) = rw (marked_outer k.mark a d) tt in
        let follows = (may_follow_iff σ before e).0 may in
        rw k.event.object_is.1 (acquired-next σ before p.acquires z.acquired e h
        (acquire_lt σ k.sound e h)
        (λ f i s. (follows.free h f i s, follows.locked h f i s)));
    written = unwritten (omega arith) before z;
  }

  -- Another event is that of its task.
  pub other_noted : op ≢ 1 → is_acquire σ e ≡ false
      → Notes σ e p (record p { last = set p.last t e })
  other_noted d n before z may = record {
    up_to = latest before z may;
    acquired = acquired_keep σ before p.acquires z.acquired e n;
    written = unwritten d before z;
  }
