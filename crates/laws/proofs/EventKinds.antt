-- The tests for an event by its kind, and the kind by the depth of its lock. Assumes nothing.
use Prim.Native.Nat.{ℕ, ◌≤◌, ◌<◌}
use mathlib.Core.Path.{◌≡◌, refl, sym, ◌∙◌}
use mathlib.Core.Logic.{⊎_elim, ◌≢◌}
use mathlib.Core.Bool.{Bool, true, false, cond, not, ◌&&◌, ◌||◌}
use native.Mathlib.Omega.{arith}
use lib.Dec.{T, eqb}
use borrow.Author.Tests.{ne_eqb, lt-ltb, eqb-true}
use Rattle.model.specs.Trace.{Trace, locks, at, object, is_read, has_acquire_op, has_release_op}
use Rattle.model.specs.Trace.{enters, leaves, own_depth, is_acquire, is_release, is_inner}
use Rattle.laws.specs.EventKinds.{uncounted_kind, is_uncounted, kind}
use Rattle.laws.proofs.Tests.{parts, decided, equal?, is_true, and_i, or_l, or_r}
use Rattle.laws.proofs.Tests.{or_elim}
use Rattle.laws.proofs.Operations.{is_acquire_op, is_release_op, is_acquire-none, is_release-none}
use Rattle.laws.proofs.Operations.{is_acquire-task, is_release-task}

-- The kind of an operation, by whether it is an outer acquire or release.
abbrev kind_of : ℕ → Bool → Bool → ℕ
kind_of op x y = cond ((eqb op 2 && not x) || (eqb op 3 && not y)) uncounted_kind op

-- What holds of each operation, outer or not, holds of an event.
by-operation : (σ : Trace) (e : ℕ) (P : ℕ → Bool → Bool → Type 0)
    → P 2 true false → P 2 false false → P 3 false true → P 3 false false
    → ((op : ℕ) → op ≢ 2 → op ≢ 3 → P op false false) → P (at σ e).op (is_acquire σ e) (is_release σ e)
by-operation σ e P a b c d other =
    ⊎_elim
    (λ (q : (at σ e).op ≡ 2).
    let none = is_release-none σ e refl (omega arith) in
    decided (is_acquire σ e) (λ y. rw (q, y, none) a) (λ n. rw (q, n, none) b))
    (λ (m : (at σ e).op ≢ 2).
    let none = is_acquire-none σ e refl m in
    ⊎_elim
    (λ (q : (at σ e).op ≡ 3).
    decided (is_release σ e) (λ y. rw (q, y, none) c) (λ n. rw (q, n, none) d))
    (λ (n : (at σ e).op ≢ 3). rw (none, is_release-none σ e refl n) (other (at σ e).op m n))
    (equal? (at σ e).op 3))
    (equal? (at σ e).op 2)

module _ (σ : Trace) (e : ℕ) {k : ℕ} (q : k ≡ kind σ e) where
  -- A read's kind is 0,
  pub is_read-kind : is_read σ e ≡ eqb k 0
  unfolding kind is_uncounted is_read has_acquire_op has_release_op
  is_read-kind =
      rw q (by-operation σ e (λ op x y. eqb op 0 ≡ eqb (kind_of op x y) 0) refl refl refl refl
      (λ op m n. rw (ne_eqb op 2 m, ne_eqb op 3 n)))

  -- an outer acquire's is 2,
  pub is_acquire-kind : is_acquire σ e ≡ eqb k 2
  unfolding kind is_uncounted has_acquire_op has_release_op
  is_acquire-kind =
      rw q (by-operation σ e (λ op x y. x ≡ eqb (kind_of op x y) 2) refl refl refl refl
      (λ op m n. rw (ne_eqb op 2 m, ne_eqb op 3 n) (sym (ne_eqb op 2 m))))

  -- and an outer release's is 3.
  pub is_release-kind : is_release σ e ≡ eqb k 3
  unfolding kind is_uncounted has_acquire_op has_release_op
  is_release-kind =
      rw q (by-operation σ e (λ op x y. y ≡ eqb (kind_of op x y) 3) refl refl refl refl
      (λ op m n. rw (ne_eqb op 2 m, ne_eqb op 3 n) (sym (ne_eqb op 3 n))))

  -- That of a record that does not count is 4.
  pub is_uncounted-kind : (at σ e).op ≢ uncounted_kind → is_uncounted σ e ≡ eqb k uncounted_kind
  unfolding kind
  is_uncounted-kind d =
      rw q (decided (is_uncounted σ e) (λ y. rw y) (λ n. rw n (sym (ne_eqb (at σ e).op uncounted_kind d))))

module _ (σ : Trace) (e : ℕ) where
  -- A record that does not count is no outer acquire,
  pub uncounted_acquire : is_uncounted σ e ≡ true → is_acquire σ e ≡ false
  unfolding kind
  uncounted_acquire y = is_acquire-kind σ e refl ∙ rw y

  -- no outer release,
  pub uncounted_release : is_uncounted σ e ≡ true → is_release σ e ≡ false
  unfolding kind
  uncounted_release y = is_release-kind σ e refl ∙ rw y

  -- and no read.
  pub uncounted_read : is_uncounted σ e ≡ true → is_read σ e ≡ false
  unfolding kind
  uncounted_read y = is_read-kind σ e refl ∙ rw y

  -- So an outer acquire is no such record,
  pub acquire_uncounted : T (is_acquire σ e) → is_uncounted σ e ≡ false
  acquire_uncounted a = decided (is_uncounted σ e) (λ y. absurd (rw (uncounted_acquire y) at a)) (λ n. n)

  -- and neither is an outer release.
  pub release_uncounted : T (is_release σ e) → is_uncounted σ e ≡ false
  release_uncounted a = decided (is_uncounted σ e) (λ y. absurd (rw (uncounted_release y) at a)) (λ n. n)

  -- An outer release is no outer acquire.
  pub release_acquire : T (is_release σ e) → is_acquire σ e ≡ false
  release_acquire r =
      let three = eqb-true (kind σ e) 3 (sym (is_release-kind σ e refl) ∙ is_true (is_release σ e) r) in
      is_acquire-kind σ e refl ∙ ne_eqb (kind σ e) 2 (omega arith)

  -- An inner acquire or release is one.
  pub inner_uncounted : T (is_inner σ e) → is_uncounted σ e ≡ true
  unfolding is_inner is_uncounted enters leaves
  inner_uncounted t =
      is_true ((has_acquire_op σ e && not (is_acquire σ e)) || (has_release_op σ e && not (is_release σ e)))
      (or_elim (enters σ e && not (is_acquire σ e)) (leaves σ e && not (is_release σ e))
      (λ u. or_l (has_acquire_op σ e && not (is_acquire σ e)) _
      (let a : T (has_acquire_op σ e) = search parts in let n : T (not (is_acquire σ e)) = search parts in
      and_i (has_acquire_op σ e) _ a n))
      (λ u. or_r (has_acquire_op σ e && not (is_acquire σ e)) _
      (let a : T (has_release_op σ e) = search parts in let n : T (not (is_release σ e)) = search parts in
      and_i (has_release_op σ e) _ a n)) t)

  -- So it is no outer acquire.
  pub acquire_inner : T (is_acquire σ e) → is_inner σ e ≡ false
  acquire_inner a =
      decided (is_inner σ e) (λ y. absurd (rw (uncounted_acquire (inner_uncounted (rw y tt))) at a)) (λ n. n)

module _ (σ : Trace) (e : ℕ) {op : ℕ} (q : op ≡ (at σ e).op) where
  -- The kind of a read or a write is its operation.
  pub kind_access : op < 2 → op ≡ kind σ e
  unfolding kind is_uncounted has_acquire_op has_release_op
  kind_access h = rw (← q, ne_eqb op 2 (omega arith), ne_eqb op 3 (omega arith))

  -- That of an acquire of a lock is its operation at depth 0,
  pub kind_enter : op ≡ 2 → object σ e < locks → (d : ℕ) → own_depth σ e ≡ d
      → cond (eqb d 0) 2 uncounted_kind ≡ kind σ e
  unfolding kind is_uncounted has_acquire_op has_release_op
  kind_enter a l d p =
      rw (is_acquire_op σ e q, lt-ltb (object σ e) locks l, ← q, a, p)
      (decided (eqb d 0) (λ y. rw y) (λ n. rw n))

  -- and that of a release at depth 1.
  pub kind_leave : op ≡ 3 → object σ e < locks → (d : ℕ) → own_depth σ e ≡ d
      → cond (eqb d 1) 3 uncounted_kind ≡ kind σ e
  unfolding kind is_uncounted has_acquire_op has_release_op
  kind_leave a l d p =
      rw (is_release_op σ e q, lt-ltb (object σ e) locks l, ← q, a, p)
      (decided (eqb d 1) (λ y. rw y) (λ n. rw n))

  -- A start or a join has the kind of a record that does not count.
  pub kind-task : 2 ≤ op → op < 4 → locks ≤ object σ e → uncounted_kind ≡ kind σ e
  unfolding kind is_uncounted has_acquire_op has_release_op
  kind-task h k l =
      rw (is_acquire-task σ e q l, is_release-task σ e q l, ← q)
      (⊎_elim (λ (a : op ≡ 2). rw a)
      (λ (d : op ≢ 2). let a : op ≡ 3 = omega arith in rw a) (equal? op 2))
