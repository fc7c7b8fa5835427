-- The acquire of an outer release in a well-formed trace: the latest outer acquire of its lock, by whatever
-- task. No earlier outer release is of it, and other acquires were released before. Assumes nothing.
use Prim.Native.Nat.{ℕ, suc, ◌-◌, ◌≤◌, ◌<◌}
use mathlib.Core.Path.{◌≡◌, sym, ap, ◌∙◌}
use mathlib.Core.Logic.{⊎_elim, ◌≢◌}
use mathlib.Core.Bool.{Bool, ◌&&◌}
use native.Mathlib.Omega.{arith}
use lib.Dec.{T, eqb, eqb→eq}
use lib.ListN.{length}
use Rattle.model.specs.Lists.{last_before, first_from}
use Rattle.model.specs.Trace.{Trace, task, object, is_acquire, is_release, same_task, same_object}
use Rattle.model.specs.Relations.{acquire_of}
use Rattle.model.specs.Closed.{Again}
use Rattle.laws.proofs.Tests.{parts, and_i, equal?, eq→eqb}
use Rattle.laws.proofs.Searches.{Latest, last_before_latest, latest_same, Earliest, first_from_earliest}
use Rattle.laws.proofs.Trace.{same_task_iff, same_object_iff, acquire-event}
use Rattle.laws.proofs.Depth.{Of, Section, is_release_iff, holds_iff, own-depth, depth_leave}
use Rattle.laws.proofs.Depth.{depth_opens}
use Rattle.laws.proofs.Relations.{releases}
use Rattle.laws.proofs.WellFormed.{WellFormed, release-held, release-between}

module _ (σ : Trace) (ok : WellFormed σ) (e : ℕ) (inside : (1 ≤ e) × (e ≤ length σ))
    (t : T (is_release σ e)) where
  -- ---- the latest acquire of a release's lock

  -- The acquires of the event's lock.
  abbrev acquires : ℕ → Bool
  acquires f = is_acquire σ f && eqb (object σ e) (object σ f)

  -- The latest one before the release.
  abbrev pub opened : ℕ
  opened = last_before e acquires

  -- The acquire of its own task since which it holds the lock.
  own_opens : (a : ℕ) × Section σ (task σ e) (object σ e) e a
  own_opens =
      depth_opens σ e (task σ e) (object σ e)
      ((holds_iff σ e (task σ e) (object σ e)).0 (release-held σ ok e t))

  own : ℕ
  own = own_opens.0

  own_section : Section σ (task σ e) (object σ e) e own
  unfolding own
  own_section = own_opens.1

  own_acquire : T (is_acquire σ own)
  own_acquire = own_section.acquire

  own_nonzero : own ≢ 0
  own_nonzero = omega (arith, acquire-event σ own own_acquire)

  own-task : task σ own ≡ task σ e
  own-task = own_section.of.task_is

  own-object : object σ own ≡ object σ e
  own-object = own_section.of.object_is

  opened_latest : Latest e acquires opened
  opened_latest = last_before_latest e acquires

  -- An outer release of it before e would leave the task at depth 0.
  no_release : (r : ℕ) → own < r → r < e → T (releases σ own r) → ⊥
  no_release r h k p =
      let same-lock : object σ own ≡ object σ r = (same_object_iff σ own r).0 (search parts) in
      let same-task : task σ own ≡ task σ r = (same_task_iff σ own r).0 (search parts) in
      let of : Of σ (task σ e) (object σ e) r = record {
        task_is = sym same-task ∙ own-task;
        object_is = sym same-lock ∙ own-object;
      } in
      let (leaving, one) = (is_release_iff σ r).0 (search parts) in
      omega (
        arith,
        own-depth σ (task σ e) (object σ e) r of,
        depth_leave σ r (task σ e) (object σ e) leaving of.task_is of.object_is,
        own_section.within (suc r) (omega arith) (omega arith),
      )

  -- The latest acquire of the lock is the task's own.
  opened_own : opened ≡ own
  opened_own =
      ⊎_elim (λ q. q)
      (λ d. absurd (between (omega (
        arith,
        opened_latest.latest own own_section.before
            passes,
        d,
      ))))
      (equal? opened own)
    where
      passes : T (acquires own)
      passes = and_i (is_acquire σ own) _ own_acquire (eq→eqb _ _ (sym own-object))

      between : own < opened → ⊥
      between h =
          let nonzero : opened ≢ 0 = omega arith in
          let p = opened_latest.passes nonzero in
          let same : object σ e ≡ object σ opened = eqb→eq _ _ (search parts) in
          let again : Again σ own opened = record {
            later = h;
            first = own_acquire;
            second = search parts;
            shared = (same_object_iff σ own opened).1 (own-object ∙ same);
          } in
          let (r, a, b, c) = release-between σ ok own opened again in
          no_release r a (omega (arith, opened_latest.below nonzero)) c

  -- It is an acquire of the event's task.
  pub opened_acquire : (opened ≢ 0) × (opened < e) × T (is_acquire σ opened)
  opened_acquire =
      rw opened_own (own_nonzero, own_section.before, own_acquire)

  -- It is the match of the release.
  pub opened_match : opened ≡ acquire_of σ e
  unfolding acquire_of
  opened_match = latest_same opened_latest (last_before_latest e _) forth back
    where
      forth : opened ≢ 0 → T (acquires opened)
          → T (is_acquire σ opened && same_object σ e opened && same_task σ e opened)
      forth d p =
          let same : object σ e ≡ object σ opened = eqb→eq _ _ (search parts) in
          let mine : task σ e ≡ task σ opened = sym own-task ∙ ap (task σ) (sym opened_own) in
          search (parts, and_i, (same_object_iff σ e opened).1 same, (same_task_iff σ e opened).1 mine)

      back : (acquire_of σ e ≢ 0)
          → T (is_acquire σ (acquire_of σ e) && same_object σ e (acquire_of σ e)
          && same_task σ e (acquire_of σ e))
          → T (acquires (acquire_of σ e))
      back d p =
          let same : object σ e ≡ object σ (acquire_of σ e) = (same_object_iff σ e (acquire_of σ e)).0
          (search parts) in
          search (parts, and_i, eq→eqb (object σ e) (object σ (acquire_of σ e)) same)

  -- The release releases it,
  pub opened_released : T (releases σ opened e)
  opened_released =
      rw opened_own
      (search (and_i, t, (same_object_iff σ own e).1 own-object, (same_task_iff σ own e).1 own-task))

  -- and no earlier event does.
  pub opened_unreleased : first_from (suc opened) (e - suc opened) (releases σ opened) ≡ 0
  opened_unreleased = rw opened_own unreleased
    where
      found : Earliest (suc own) (e - suc own) (releases σ own)
          (first_from (suc own) (e - suc own) (releases σ own))
      found = first_from_earliest (suc own) (e - suc own) (releases σ own)

      unreleased : first_from (suc own) (e - suc own) (releases σ own) ≡ 0
      unreleased =
          let r = first_from (suc own) (e - suc own) (releases σ own) in
          ⊎_elim (λ z. z)
          (λ d. absurd (no_release r (omega (arith, found.from d))
          (omega (arith, found.below d, own_section.before))
          (found.passes d)))
          (equal? r 0)

  -- Another acquire that the event would release was released before.
  pub other_released : (f : ℕ) → f < e → f ≢ opened → T (is_acquire σ f) → T (releases σ f e)
      → first_from (suc f) (e - suc f) (releases σ f) ≢ 0
  other_released f h d a p =
      let same : object σ f ≡ object σ e = (same_object_iff σ f e).0 (search parts) in
      let passes : T (acquires f) = and_i (is_acquire σ f) _ a (eq→eqb _ _ (sym same)) in
      let below : f < opened = omega (arith, opened_latest.latest f h passes) in
      let (nonzero, before, acquire) = opened_acquire in
      let shared : object σ e ≡ object σ opened = eqb→eq _ _
      (search (parts, opened_latest.passes nonzero)) in
      let again : Again σ f opened = record {
        later = below;
        first = a;
        second = acquire;
        shared = (same_object_iff σ f opened).1 (same ∙ shared);
      } in
      let (r, x, y, z) = release-between σ ok f opened again in
      let found = first_from_earliest (suc f) (e - suc f) (releases σ f) in
      omega (arith, found.found r (omega arith) x (omega arith) z)
