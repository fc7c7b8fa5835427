-- What the tables tell of an event is what the definitions say: whether its lock is clear, and whether it may
-- be listed next. What listing it does to the tables is in Noting. Assumes nothing.
use Prim.Native.Nat.{ℕ, ◌≤◌, ◌<◌}
use mathlib.Core.Path.{◌≡◌, sym, ◌∙◌}
use mathlib.Core.Logic.{⊎_elim, ◌↔◌, ◌≢◌}
use mathlib.Core.Bool.{true, false, ◌&&◌}
use mathlib.Core.List.{List, Memᴰ}
use native.Mathlib.Omega.{arith}
use lib.Dec.{T, not_T, eqb, eqb→eq}
use lib.ListN.{length, get_or}
use borrow.Author.Tests.{eq-eqb, ne_eqb, le-leb, lt-leb}
use Rattle.model.specs.Trace.{Trace, locks, variables, object, is_read, is_acquire, same_object}
use Rattle.model.specs.Tasks.{is_join}
use Rattle.model.specs.Relations.{joined, writer, matching}
use Rattle.model.specs.Schedule.{latest_write, may_follow}
use Rattle.laws.specs.EventKinds.{marked}
use Rattle.laws.proofs.Tests.{parts, and_l, and_i, T-ext, is_false, eq→eqb, equal?, at-most?}
use Rattle.laws.proofs.Trace.{is_event_iff, same_object_iff}
use Rattle.laws.proofs.Relations.{joined-none, matching_below}
use Rattle.laws.proofs.Marks.{marked_acquire}
use Rattle.laws.proofs.WellFormed.{WellFormed}
use Rattle.laws.proofs.Schedule.{Prior, Started, Ended, may_follow_iff}
use Rattle.schedule.specs.declared.Progress.{Progress}
use Rattle.schedule.specs.Listed.{UpTo, Acquired, Listed}
use Rattle.schedule.specs.Next.{is_listed, is_ready, is_next, is_unlocked}
use Rattle.schedule.proofs.Tasks.{is_listed_iff, next_iff, ended_iff}

-- ---- one lock

-- Each listed acquire of the lock of e is earlier, and has its match listed.
abbrev pub Clear : Trace → List ℕ → ℕ → Type 0
Clear σ before e = (f : ℕ) → Memᴰ f before → T (is_acquire σ f && same_object σ e f)
    → Memᴰ (matching σ f) before × (f < e)

module _ (σ : Trace) (before last acquires : List ℕ) (u : UpTo σ before last) (z : Acquired σ before acquires)
    (e : ℕ) (l : object σ e < locks) where
  abbrev top : ℕ
  top = get_or acquires (object σ e) 0

  at_most : (f : ℕ) → Memᴰ f before → T (is_acquire σ f && same_object σ e f) → f ≤ top
  at_most f m t =
      rw (← ((same_object_iff σ e f).0 (search parts))) at (z.latest f m (search parts))

  others : (f : ℕ) → Memᴰ f before → T (is_acquire σ f && same_object σ e f) → f ≢ top
      → Memᴰ (matching σ f) before
  others f m t d =
      z.matched f m (search parts) (rw ((same_object_iff σ e f).0 (search parts)) at d)

  listed-top : top ≢ 0 → Memᴰ top before × T (is_acquire σ top && same_object σ e top)
  listed-top d =
      let (m, t, o) = z.listed (object σ e) l d in
      (m, and_i (is_acquire σ top) _ t ((same_object_iff σ e top).1 (sym o)))

  match_iff : T (is_acquire σ top) → T (is_listed σ last (marked σ top)) ↔ Memᴰ (matching σ top) before
  match_iff t =
      rw (marked_acquire σ top t) (is_listed_iff σ before last u (matching σ top) (matching_below σ top t))

  -- The latest listed acquire of the lock stands for all: the others have their matches listed.
  clear_latest : top ≢ 0 → top < e → T (is_listed σ last (marked σ top)) ↔ Clear σ before e
  clear_latest d b =
      let (m, t) = listed-top d in
      let rule = match_iff (and_l (is_acquire σ top) _ t) in (
        λ h f n s. (
          ⊎_elim (λ (q : f ≡ top). rw q (rule.0 h)) (others f n s) (equal? f top),
          omega (arith, at_most f n s),
        ),
        λ each. rule.1 (each top m t).0,
      )

  -- An acquire's lock is clear, as the tables tell.
  pub is_unlocked_iff : T (is_unlocked σ last acquires e) ↔ Clear σ before e
  unfolding is_unlocked
  is_unlocked_iff = ⊎_elim none some (equal? top 0)
    where
      none : top ≡ 0 → T (is_unlocked σ last acquires e) ↔ Clear σ before e
      none q =
          rw (eq-eqb top 0 q)
          (λ _ f m t. absurd (omega (arith, at_most f m t, u.event f m)), λ _. tt)

      some : top ≢ 0 → T (is_unlocked σ last acquires e) ↔ Clear σ before e
      some d =
          let (m, t) = listed-top d in
          rw (ne_eqb top 0 d) (⊎_elim
          (λ (b : e ≤ top). rw (le-leb e top b) (λ h. absurd h, λ each. omega (arith, each top m t)))
          (λ (b : top < e). rw (lt-leb e top b) (clear_latest d b))
          (at-most? e top))

-- ---- one event more

-- What is no event is never listed.
pub no_such_event : (σ : Trace) (before : List ℕ) (e : ℕ) → ((1 ≤ e) × (e ≤ length σ) → ⊥)
    → false ≡ may_follow σ before e
no_such_event σ before e n =
    sym (is_false (may_follow σ before e)
    (not_T (may_follow σ before e) (λ t. n ((is_event_iff σ e).0 ((may_follow_iff σ before e).0 t).event))))

module _ (σ : Trace) (before : List ℕ) (p : Progress) (z : Listed σ before p) (e : ℕ)
    (inside : (1 ≤ e) × (e ≤ length σ)) (ok : WellFormed σ) where
  next : T (is_next σ p.last e) ↔ ((Memᴰ e before → ⊥) × Prior σ e (λ f. Memᴰ f before)
      × Started σ e (λ f. Memᴰ f before))
  next = next_iff σ before p.last z.up_to ok e inside.0 inside.1

  ends : T (is_ready σ p.last (joined σ e)) ↔ Ended σ e (λ f. Memᴰ f before)
  ends = ended_iff σ before p.last z.up_to ok e inside.0 inside.1

  -- An event that does not come next in its task may not follow.
  pub not-next : is_next σ p.last e ≡ false → false ≡ may_follow σ before e
  not-next n = sym (is_false (may_follow σ before e) (not_T (may_follow σ before e) (λ t.
      let m = (may_follow_iff σ before e).0 t in rw n at (next.1 (m.fresh, m.ordered, m.started)))))

  module _ (n : is_next σ p.last e ≡ true) where
    -- One that does may, where it reads, waits and locks as it should.
    may_follow_lem : (T (is_read σ e) → latest_write σ e before ≡ writer σ e)
        → T (is_ready σ p.last (joined σ e))
        → (T (is_acquire σ e) → Clear σ before e) → T (may_follow σ before e)
    may_follow_lem reads ready clear =
        let (fresh, ordered, started) = next.0 (rw n tt) in
        (may_follow_iff σ before e).1 (record {
          event = (is_event_iff σ e).1 inside;
          fresh = fresh;
          ordered = ordered;
          started = started;
          ended = ends.0 ready;
          free = λ a f m t. (clear a f m t).0;
          reads = reads;
          locked = λ a f m t. (clear a f m t).1;
        })

    -- What joins no task waits for nothing.
    alone : is_join σ e ≡ false → T (is_ready σ p.last (joined σ e))
    unfolding is_ready
    alone j = rw (joined-none σ e j) tt

    -- A read may where the last listed write of its variable is its writer.
    pub read_follows : is_read σ e ≡ true → is_join σ e ≡ false → is_acquire σ e ≡ false
        → object σ e < variables
        → eqb (get_or p.writes (object σ e) 0) (writer σ e) ≡ may_follow σ before e
    read_follows r j a b = T-ext (eqb (get_or p.writes (object σ e) 0) (writer σ e)) (may_follow σ before e)
        (λ t. may_follow_lem
        (λ _. z.written.last e b ∙ eqb→eq (get_or p.writes (object σ e) 0) (writer σ e) t)
        (alone j) (λ h. absurd (rw a at h)))
        (λ t. eq→eqb (get_or p.writes (object σ e) 0) (writer σ e)
        (sym (z.written.last e b) ∙ ((may_follow_iff σ before e).0 t).reads (rw r tt)))

    module _ (r : is_read σ e ≡ false) where
      -- An acquire may where its lock is clear.
      pub acquire_follows : is_join σ e ≡ false → is_acquire σ e ≡ true → object σ e < locks
          → is_unlocked σ p.last p.acquires e ≡ may_follow σ before e
      acquire_follows j a b =
          let rule = is_unlocked_iff σ before p.last p.acquires z.up_to z.acquired e b in
          T-ext (is_unlocked σ p.last p.acquires e) (may_follow σ before e)
          (λ t. may_follow_lem (λ h. absurd (rw r at h)) (alone j) (λ _. rule.0 t))
          (λ t.
          let m = (may_follow_iff σ before e).0 t in
          rule.1 (λ f i s. (m.free (rw a tt) f i s, m.locked (rw a tt) f i s)))

      -- Another event may where what it waits for is there.
      pub other_follows : is_acquire σ e ≡ false → is_ready σ p.last (joined σ e) ≡ may_follow σ before e
      other_follows a =
          T-ext (is_ready σ p.last (joined σ e)) (may_follow σ before e)
          (λ t. may_follow_lem (λ h. absurd (rw r at h)) t (λ h. absurd (rw a at h)))
          (λ t. ends.1 ((may_follow_iff σ before e).0 t).ended)
