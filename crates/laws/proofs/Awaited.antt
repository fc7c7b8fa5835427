-- What an event awaits besides its predecessor: a read its writer, and a join what it waits for.
-- Assumes nothing.
use Prim.Native.Nat.{ℕ, ◌-◌, ◌≤◌}
use mathlib.Core.Path.{◌≡◌, refl, sym, ◌∙◌}
use mathlib.Core.Logic.{⊎_elim, ◌≢◌}
use mathlib.Core.Bool.{true, false, cond}
use native.Mathlib.Omega.{arith}
use lib.Dec.{T, eqb}
use borrow.Author.Tests.{ne_eqb, eqb-true}
use Rattle.model.specs.Trace.{Trace, at, is_read, is_acquire}
use Rattle.model.specs.Tasks.{is_join}
use Rattle.model.specs.Relations.{writer, joined}
use Rattle.model.specs.Closed.{Direct, writer_is, joined_is}
use Rattle.laws.specs.Order.{awaited}
use Rattle.laws.proofs.Tests.{decided, is_true, equal?}
use Rattle.laws.proofs.Relations.{writer_read, writer-none, joined-none}
use Rattle.laws.proofs.Operations.{is_read_op, is_join-none, is_acquire-none}
use Rattle.laws.proofs.Closed.{direct_below}

module _ (σ : Trace) (e : ℕ) where
  -- A read awaits its writer,
  pub awaited_read : is_read σ e ≡ true → awaited σ e ≡ writer σ e
  unfolding awaited
  awaited_read y = rw y

  -- and another event what it joins.
  pub awaited_other : is_read σ e ≡ false → awaited σ e ≡ joined σ e
  unfolding awaited
  awaited_other n = rw n

  -- An event that is neither a read nor a join awaits nothing.
  pub awaited-none : is_read σ e ≡ false → is_join σ e ≡ false → awaited σ e ≡ 0
  unfolding awaited
  awaited-none n m = rw n (joined-none σ e m)

  -- So does an acquire.
  pub awaited_acquire : T (is_acquire σ e) → awaited σ e ≡ 0
  awaited_acquire a =
      ⊎_elim
      (λ (q : (at σ e).op ≡ 2). awaited-none (is_read_op σ e refl ∙ ne_eqb (at σ e).op 0 (omega arith))
      (is_join-none σ e refl (omega arith)))
      (λ (d : (at σ e).op ≢ 2). absurd (rw (is_acquire-none σ e refl d) at a)) (equal? (at σ e).op 2)

  -- The operation tells the writer off it.
  pub writer_off : cond (eqb (at σ e).op 0) (awaited σ e) 0 ≡ writer σ e
  writer_off =
      decided (is_read σ e)
      (λ y. rw (sym (is_read_op σ e refl) ∙ y) (awaited_read y))
      (λ n. rw (sym (is_read_op σ e refl) ∙ n) (sym (writer-none σ e n)))

  -- What is awaited is needed,
  pub awaited_direct : Direct σ e (awaited σ e)
  awaited_direct = decided (is_read σ e) (λ y. writer_is (awaited_read y)) (λ n. joined_is (awaited_other n))

  -- and so earlier.
  pub awaited_below : awaited σ e ≤ e - 1
  awaited_below = direct_below σ e (awaited σ e) awaited_direct

  -- A writer is awaited,
  pub writer-awaited : writer σ e ≢ 0 → writer σ e ≡ awaited σ e
  writer-awaited d = sym (awaited_read (is_true (is_read σ e) (writer_read σ e d)))

  -- and so is what a join waits for, since no read joins a task.
  pub joined-awaited : joined σ e ≢ 0 → joined σ e ≡ awaited σ e
  unfolding is_read
  joined-awaited d = decided (is_read σ e) (λ y. absurd (d (alone y))) (λ n. sym (awaited_other n))
    where
      alone : is_read σ e ≡ true → joined σ e ≡ 0
      alone y = let zero = eqb-true (at σ e).op 0 y in joined-none σ e (is_join-none σ e refl (omega arith))
