-- What the tables tell of an event's task is what the definitions say: whether an event is listed, is
-- enabled, and whether what it awaits is listed. Assumes nothing.
use Prim.Native.Nat.{ℕ, ◌≤◌, ◌<◌}
use mathlib.Core.Path.{◌≡◌, sym}
use mathlib.Core.Logic.{⊎_elim, ◌↔◌, ◌≢◌}
use mathlib.Core.List.{List, Memᴰ}
use native.Mathlib.Omega.{arith}
use lib.Dec.{T, leb→le, le→leb}
use lib.ListN.{length, get_or}
use borrow.Author.Tests.{eq-eqb, ne_eqb}
use Rattle.model.specs.Trace.{Trace, task}
use Rattle.model.specs.Relations.{predecessor, joined}
use Rattle.model.specs.Schedule.{enabled}
use Rattle.laws.proofs.Tests.{T-ext, equal?, at-most?}
use Rattle.laws.proofs.Lists.{member_iff}
use Rattle.laws.proofs.Trace.{same_task_iff}
use Rattle.laws.specs.Order.{previous}
use Rattle.laws.proofs.Relations.{previous_latest, previous_below, previous_own, predecessor-previous}
use Rattle.laws.proofs.Relations.{predecessor_below, joined_below}
use Rattle.laws.proofs.WellFormed.{WellFormed}
use Rattle.laws.proofs.Schedule.{Prior, Started, Ended, enabled_iff}
use Rattle.laws.proofs.Downward.{Downward, predecessor_iff, joined_iff}
use Rattle.schedule.specs.Listed.{UpTo}
use Rattle.schedule.specs.Next.{is_listed, is_ready, is_next}

module _ (σ : Trace) (ρ last : List ℕ) (u : UpTo σ ρ last) where
  -- An event is listed where it is no later than the latest listed one of its task.
  pub listed_iff : (e : ℕ) → 1 ≤ e → e ≤ length σ → Memᴰ e ρ ↔ (e ≤ get_or last (task σ e) 0)
  listed_iff e h k = (
    λ m. leb→le e (get_or last (task σ e) 0) (rw (u.listed e h k) at ((member_iff e ρ).1 m)),
    λ l. (member_iff e ρ).0 (rw (u.listed e h k) (le→leb e (get_or last (task σ e) 0) l)),
  )

  -- The test for it, of which 0 is told apart.
  pub is_listed_iff : (e : ℕ) → e ≤ length σ → T (is_listed σ last e) ↔ Memᴰ e ρ
  unfolding is_listed
  is_listed_iff e k = ⊎_elim none some (equal? e 0)
    where
      none : e ≡ 0 → T (is_listed σ last e) ↔ Memᴰ e ρ
      none q = rw (eq-eqb e 0 q) (λ t. absurd t, λ m. omega (arith, u.event e m))

      some : e ≢ 0 → T (is_listed σ last e) ↔ Memᴰ e ρ
      some d =
          let rule = listed_iff e (omega arith) k in
          rw (ne_eqb e 0 d) (
            λ t. rule.1 (leb→le e (get_or last (task σ e) 0) t),
            λ m. le→leb e (get_or last (task σ e) 0) (rule.0 m),
          )

  -- What is 0 or listed, as the tables tell.
  pub is_ready_iff : (x : ℕ) → x ≤ length σ → T (is_ready σ last x) ↔ (x ≢ 0 → Memᴰ x ρ)
  unfolding is_ready
  is_ready_iff x k = ⊎_elim none some (equal? x 0)
    where
      none : x ≡ 0 → T (is_ready σ last x) ↔ (x ≢ 0 → Memᴰ x ρ)
      none q = rw (eq-eqb x 0 q) (λ _ d. absurd (d q), λ _. tt)

      some : x ≢ 0 → T (is_ready σ last x) ↔ (x ≢ 0 → Memᴰ x ρ)
      some d =
          let rule = is_listed_iff x k in rw (ne_eqb x 0 d) (λ t _. rule.0 t, λ m. rule.1 (m d))

  -- With an event all earlier ones of its task are listed, and its start.
  downward : Downward σ (λ f. Memᴰ f ρ)
  downward = record {
    prior = λ e m f z l t.
        let (h, k) = u.event e m in
        (listed_iff f z (omega arith)).1
        (rw (← ((same_task_iff σ e f).0 t)) (omega (arith, (listed_iff e h k).0 m)));
    started = u.started;
  }

  module _ (ok : WellFormed σ) (e : ℕ) (h : 1 ≤ e) (k : e ≤ length σ) where
    abbrev own : ℕ
    own = get_or last (task σ e) 0

    -- The latest listed event of the task is listed, and of the task.
    own_listed : own ≢ 0 → Memᴰ own ρ × (task σ own ≡ task σ e)
    own_listed d =
        let (low, same) = u.front.own (task σ e) (ok.task_lt e h k) d in
        ((listed_iff own (omega arith) low).1 (rw same (omega arith)), same)

    -- Where it is not the predecessor of an event that is not listed, but whose predecessor is, there is
    -- none.
    own-none : (Memᴰ e ρ → ⊥) → (predecessor σ e ≢ 0 → Memᴰ (predecessor σ e) ρ)
        → predecessor σ e ≢ own → own ≢ 0 → ⊥
    own-none fresh ready d some =
        let (m, same) = own_listed some in
        let earlier : own < e =
        ⊎_elim (λ b. absurd (fresh ((listed_iff e h k).1 b))) (λ b. b) (at-most? e own) in
        let high = (previous_latest σ e).latest own earlier ((same_task_iff σ e own).1 (sym same)) in
        let n : previous σ e ≢ 0 = omega arith in
        let p = predecessor-previous σ e n in
        let low = previous_below σ e in
        let listed = rw p at ready n in
        let reach = (listed_iff (previous σ e) (omega arith) (omega arith)).0 listed in
        omega (arith, rw (previous_own σ e n) at reach)

    -- The test tells that the event is not listed, but its predecessor is, where it has one.
    is_next_iff : T (is_next σ last e)
        ↔ ((Memᴰ e ρ → ⊥) × (predecessor σ e ≢ 0 → Memᴰ (predecessor σ e) ρ))
    unfolding is_next
    is_next_iff = ⊎_elim same other (equal? (predecessor σ e) own)
      where
        same : predecessor σ e ≡ own → T (is_next σ last e)
            ↔ ((Memᴰ e ρ → ⊥) × (predecessor σ e ≢ 0 → Memᴰ (predecessor σ e) ρ))
        same q = rw (eq-eqb (predecessor σ e) own q) (
          λ _. (
            λ m. omega (arith, (listed_iff e h k).0 m, predecessor_below σ e),
            λ d. rw q (own_listed (rw q at d)).0,
          ),
          λ _. tt,
        )

        other : predecessor σ e ≢ own → T (is_next σ last e)
            ↔ ((Memᴰ e ρ → ⊥) × (predecessor σ e ≢ 0 → Memᴰ (predecessor σ e) ρ))
        other d = rw (ne_eqb (predecessor σ e) own d) (⊎_elim
            (λ (z : own ≡ 0). rw (eq-eqb own 0 z) (
              λ t. (λ m. omega (arith, (listed_iff e h k).0 m), λ _. rule.0 t),
              λ (fresh, ready). rule.1 (ready (omega arith)),
            ))
            (λ (n : own ≢ 0). rw (ne_eqb own 0 n) (
              λ t. absurd t,
              λ (fresh, ready). own-none fresh ready d n,
            ))
            (equal? own 0))
          where
            rule : T (is_listed σ last (predecessor σ e)) ↔ Memᴰ (predecessor σ e) ρ
            rule = is_listed_iff (predecessor σ e) (omega (arith, predecessor_below σ e))

    -- So it is next exactly if it is not listed, though all earlier events of its task are, and its start.
    pub next_iff : T (is_next σ last e)
        ↔ ((Memᴰ e ρ → ⊥) × Prior σ e (λ f. Memᴰ f ρ) × Started σ e (λ f. Memᴰ f ρ))
    next_iff =
        let rule = predecessor_iff σ ok (λ f. Memᴰ f ρ) downward e in (
          λ t. let (fresh, ready) = is_next_iff.0 t in (fresh, (rule.1 ready).0, (rule.1 ready).1),
          λ (fresh, prior, started). is_next_iff.1 (fresh, rule.0 (prior, started)),
        )

    -- So the test is that for an enabled event.
    pub enabled-next : is_next σ last e ≡ enabled σ ρ e
    enabled-next =
        T-ext (is_next σ last e) (enabled σ ρ e) (λ t. (enabled_iff σ ρ e).1 (next_iff.0 t))
        (λ t. next_iff.1 ((enabled_iff σ ρ e).0 t))

    -- What a join waits for is there exactly if all of the joined task is listed.
    pub ended_iff : T (is_ready σ last (joined σ e)) ↔ Ended σ e (λ f. Memᴰ f ρ)
    ended_iff =
        let rule = joined_iff σ ok (λ f. Memᴰ f ρ) downward e in
        let there = is_ready_iff (joined σ e) (omega (arith, joined_below σ e)) in
        (λ t. rule.1 (there.0 t), λ h. there.1 (rule.0 h))
