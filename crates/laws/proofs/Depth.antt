-- How deep a task is in a lock: what one event changes, which events are outer ones, and that between a depth
-- above 0 and a later depth 0 an outer release stands, and before a depth above 0 an outer acquire.
-- Assumes nothing.
use Prim.Native.Nat.{ℕ, zero, suc, ◌-◌, ◌≤◌, ◌<◌}
use mathlib.Core.Path.{◌≡◌, refl, ◌∙◌}
use mathlib.Core.Logic.{⊎_elim, ◌↔◌, ◌≢◌}
use mathlib.Core.Bool.{true, false, cond, ◌||◌, and-false}
use native.Mathlib.Omega.{arith}
use lib.Dec.{T, not_T, eqb, eqb→eq, ltb→lt, lt→ltb}
use borrow.Author.Tests.{eq-eqb, ne_eqb}
use Rattle.model.specs.Trace.{Trace, no_event, at, task, object, has_acquire_op, has_release_op, enters}
use Rattle.model.specs.Trace.{leaves}
use Rattle.model.specs.Trace.{operates}
use Rattle.model.specs.Trace.{depth, own_depth, is_acquire, is_release}
use Rattle.model.specs.Relations.{holds}
use Rattle.laws.proofs.Tests.{parts, and_l, and_r, and_i, decided, equal?, eq→eqb, is_true}
use Rattle.laws.proofs.Tests.{is_false}
use Rattle.laws.proofs.Trace.{enters-leaves}

module _ (σ : Trace) where
  -- ---- outer events

  -- An outer acquire enters its lock from depth 0.
  pub is_acquire_iff : (e : ℕ) → T (is_acquire σ e) ↔ (T (enters σ e) × (own_depth σ e ≡ 0))
  unfolding is_acquire
  is_acquire_iff e = (
    λ t. (and_l (enters σ e) _ t, eqb→eq (own_depth σ e) 0 (and_r (enters σ e) _ t)),
    λ r. and_i (enters σ e) _ r.0 (eq→eqb (own_depth σ e) 0 r.1),
  )

  -- An outer release leaves it from depth 1.
  pub is_release_iff : (e : ℕ) → T (is_release σ e) ↔ (T (leaves σ e) × (own_depth σ e ≡ 1))
  unfolding is_release
  is_release_iff e = (
    λ t. (and_l (leaves σ e) _ t, eqb→eq (own_depth σ e) 1 (and_r (leaves σ e) _ t)),
    λ r. and_i (leaves σ e) _ r.0 (eq→eqb (own_depth σ e) 1 r.1),
  )

  -- Of events that enter a lock the outer ones are at depth 0,
  pub is_acquire_own : (e d : ℕ) → T (enters σ e) → own_depth σ e ≡ d → is_acquire σ e ≡ eqb d 0
  unfolding is_acquire
  is_acquire_own e d a q = rw (is_true (enters σ e) a, q)

  -- and of those that leave it at depth 1.
  pub is_release_own : (e d : ℕ) → T (leaves σ e) → own_depth σ e ≡ d → is_release σ e ≡ eqb d 1
  unfolding is_release
  is_release_own e d a q = rw (is_true (leaves σ e) a, q)

  -- A task holds a lock where its depth is above 0.
  pub holds_iff : (e t l : ℕ) → T (holds σ e t l) ↔ (0 < depth σ e t l)
  unfolding holds
  holds_iff e t l = (ltb→lt 0 (depth σ e t l), lt→ltb 0 (depth σ e t l))

  -- ---- one event more

  -- An acquire of the task and the lock adds 1, a release takes 1, and other events change nothing.
  pub depth-step : (e t l : ℕ)
      → depth σ (suc e) t l
      ≡ cond (operates σ t l e) (cond (enters σ e) (suc (depth σ e t l)) (depth σ e t l - 1)) (depth σ e t l)
  unfolding depth
  depth-step e t l = refl

  -- Before event 1 the depth is 0.
  pub depth-start : (t l : ℕ) → depth σ 1 t l ≡ 0
  unfolding depth operates enters leaves has_acquire_op has_release_op at no_event
  depth-start t l = rw and-false

  -- What one event does to a depth.
  pub data Moved (e t l : ℕ) : Type 0 where
    stays : operates σ t l e ≡ false → depth σ (suc e) t l ≡ depth σ e t l → Moved e t l
    deeper : T (enters σ e) → task σ e ≡ t → object σ e ≡ l → depth σ (suc e) t l ≡ suc (depth σ e t l)
        → Moved e t l
    back : T (leaves σ e) → task σ e ≡ t → object σ e ≡ l → depth σ (suc e) t l ≡ depth σ e t l - 1
        → Moved e t l

  -- One of the three.
  pub depth_moved : (e t l : ℕ) → Moved e t l
  unfolding operates
  depth_moved e t l =
      decided (operates σ t l e) moves (λ n. stays n (depth-step e t l ∙ rw n))
    where
      moves : operates σ t l e ≡ true → Moved e t l
      moves y =
          let h : T (operates σ t l e) = rw y tt in
          let own : task σ e ≡ t = eqb→eq (task σ e) t (search parts) in
          let same : object σ e ≡ l = eqb→eq (object σ e) l (search parts) in
          let either : T (enters σ e || leaves σ e) = search parts in
          decided (enters σ e)
          (λ a. deeper (rw a tt) own same (depth-step e t l ∙ rw (y, a)))
          (λ a. back (rw a at either) own same (depth-step e t l ∙ rw (y, a)))

  -- An acquire makes its task deeper in its lock,
  pub depth_enter : (e t l : ℕ) → T (enters σ e) → task σ e ≡ t → object σ e ≡ l
      → depth σ (suc e) t l ≡ suc (depth σ e t l)
  unfolding operates
  depth_enter e t l a p q =
      depth-step e t l ∙ rw (is_true (enters σ e) a, eq-eqb (task σ e) t p, eq-eqb (object σ e) l q)

  -- and a release less deep.
  pub depth_leave : (e t l : ℕ) → T (leaves σ e) → task σ e ≡ t → object σ e ≡ l
      → depth σ (suc e) t l ≡ depth σ e t l - 1
  unfolding operates
  depth_leave e t l a p q =
      let no = is_false (enters σ e) (not_T (enters σ e) (λ t. enters-leaves σ e t a)) in
      depth-step e t l
      ∙ rw (no, is_true (leaves σ e) a, eq-eqb (task σ e) t p, eq-eqb (object σ e) l q)

  -- An event with another object changes nothing,
  pub depth_apart : (e t l : ℕ) → object σ e ≢ l → depth σ (suc e) t l ≡ depth σ e t l
  unfolding operates
  depth_apart e t l d = depth-step e t l ∙ rw (ne_eqb (object σ e) l d, and-false (eqb (task σ e) t))

  -- nor does another task's event,
  pub depth_other : (e t l : ℕ) → task σ e ≢ t → depth σ (suc e) t l ≡ depth σ e t l
  unfolding operates
  depth_other e t l d = depth-step e t l ∙ rw (ne_eqb (task σ e) t d)

  -- nor an event that neither enters nor leaves a lock.
  pub depth_access : (e t l : ℕ) → enters σ e ≡ false → leaves σ e ≡ false
      → depth σ (suc e) t l ≡ depth σ e t l
  unfolding operates
  depth_access e t l a r = depth-step e t l ∙ rw (a, r, and-false)

  -- One event adds at most 1.
  pub depth_grows : (e t l : ℕ) → depth σ (suc e) t l ≤ suc (depth σ e t l)
  depth_grows e t l = by_move (depth_moved e t l)
    where
      by_move : Moved e t l → depth σ (suc e) t l ≤ suc (depth σ e t l)
      by_move (stays n q) = omega arith
      by_move (deeper a p r q) = omega arith
      by_move (back a p r q) = omega arith

  -- A task is at most as deep as there are earlier events.
  pub depth_le : (e t l : ℕ) → depth σ e t l ≤ e - 1
  unfolding depth
  depth_le zero t l = omega arith
  depth_le (suc zero) t l = omega (arith, depth-start t l)
  depth_le (suc (suc e)) t l = omega (arith, depth_le (suc e) t l, depth_grows (suc e) t l)

  -- ---- sections

  -- The event is of task t, and its object is l.
  pub record Of (t l e : ℕ) : Type 0 where
    pub task_is : task σ e ≡ t
    pub object_is : object σ e ≡ l

  -- Its own depth is then that of the task in the lock.
  pub own-depth : (t l e : ℕ) → Of t l e → own_depth σ e ≡ depth σ e t l
  unfolding own_depth
  own-depth t l e o = rw (o.task_is, o.object_is)

  -- A release to depth 0 is an outer one,
  pub last_release : (t l e : ℕ) → Moved e t l → 0 < depth σ e t l → depth σ (suc e) t l ≡ 0
      → T (is_release σ e) × Of t l e
  last_release t l e (stays n q) h z = absurd (omega arith)
  last_release t l e (deeper a p r q) h z = absurd (omega arith)
  last_release t l e (back a p r q) h z =
      let o : Of t l e = record { task_is = p; object_is = r } in
      ((is_release_iff e).1 (a, omega (arith, own-depth t l e o)), o)

  -- and an acquire from depth 0 too.
  pub first_acquire : (t l e : ℕ) → Moved e t l → depth σ e t l ≡ 0 → 0 < depth σ (suc e) t l
      → T (is_acquire σ e) × Of t l e
  first_acquire t l e (stays n q) z h = absurd (omega arith)
  first_acquire t l e (back a p r q) z h = absurd (omega arith)
  first_acquire t l e (deeper a p r q) z h =
      let o : Of t l e = record { task_is = p; object_is = r } in
      ((is_acquire_iff e).1 (a, omega (arith, own-depth t l e o)), o)

  -- A depth above 0 and a later one of 0: between them the task releases the lock.
  pub depth_falls : (t l i j : ℕ) → i ≤ j → 0 < depth σ i t l → depth σ j t l ≡ 0
      → (q : ℕ) × (i ≤ q) × (q < j) × T (is_release σ q) × Of t l q
  unfolding depth
  depth_falls t l i zero h p z = let q : i ≡ 0 = omega arith in absurd (omega (arith, rw q at p))
  depth_falls t l i (suc j) h p z =
      ⊎_elim (λ (q : i ≡ suc j). absurd (omega (arith, rw q at p)))
      (λ d. ⊎_elim
      (λ y. let (q, a, b, c, o) = depth_falls t l i j (omega arith) p y in (q, a, omega arith, c, o))
      (λ n.
      let (c, o) = last_release t l j (depth_moved j t l) (omega arith) z in
      (j, omega arith, omega arith, c, o))
      (equal? (depth σ j t l) 0))
      (equal? i (suc j))

  -- The acquire a of lock l by task t, which is held from then on to event e.
  pub record Section (t l e a : ℕ) : Type 0 where
    pub before : a < e
    pub acquire : T (is_acquire σ a)
    pub of : Of t l a
    pub within : (j : ℕ) → a < j → j ≤ e → 0 < depth σ j t l

  -- Where a task holds a lock, there is one.
  pub depth_opens : (e t l : ℕ) → 0 < depth σ e t l → (a : ℕ) × Section t l e a
  unfolding depth
  depth_opens zero t l p = absurd (omega arith)
  depth_opens (suc e) t l p =
      ⊎_elim (λ z. (e, new z))
      (λ d. let (a, s) = depth_opens e t l (omega arith) in (a, longer a s))
      (equal? (depth σ e t l) 0)
    where
      new : depth σ e t l ≡ 0 → Section t l (suc e) e
      new z =
          let r = first_acquire t l e (depth_moved e t l) z p in
          record {
            before = omega arith;
            acquire = r.0;
            of = r.1;
            within = λ j h k. let q : j ≡ suc e = omega arith in rw q p;
          }

      longer : (a : ℕ) → Section t l e a → Section t l (suc e) a
      longer a s = record {
        before = omega (arith, s.before);
        acquire = s.acquire;
        of = s.of;
        within = λ j h k. ⊎_elim
            (λ (q : j ≡ suc e). rw q p) (λ d. s.within j h (omega arith)) (equal? j (suc e));
      }
