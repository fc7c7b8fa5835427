-- How one event changes a table of the locks that each task holds; what it holds is in specs/Walked.
-- Assumes nothing.
use Prim.Native.Nat.{ℕ, suc, ◌*◌, ◌%◌, ◌^◌, ◌<◌}
use mathlib.Core.Path.{◌≡◌, refl, sym, ◌∙◌}
use mathlib.Core.Logic.{⊎_elim, ◌≢◌}
use mathlib.Core.Bool.{true, false, or-false, or-true}
use mathlib.Core.List.{List}
use native.Mathlib.Omega.{arith}
use lib.Bits.{bit_or, bit_xor, or_lt, xor_lt}
use lib.Pow.{pow-lt}
use lib.ListN.{get_or, set, replicate, length-set, length-replicate, get_or-replicate}
use lib.Seq.{get_or-set_same, get_or-set_other}
use borrow.Author.Tests.{eq-eqb, ne_eqb}
use Rattle.model.specs.Lists.{has_bit}
use Rattle.model.specs.Trace.{Trace, tasks, locks, task, object, is_acquire, is_release}
use Rattle.model.specs.Relations.{holds, held}
use Rattle.laws.specs.Walked.{Locksets}
use Rattle.laws.proofs.Tests.{equal?, at-most?}
use Rattle.laws.proofs.Bits.{has_bit-none, has_bit_bit, has_bit_ext, has_bit_beyond, has_bit_xor}
use Rattle.laws.proofs.Bits.{has_bit-shift, shift_one}
use Rattle.laws.proofs.Relations.{held_lt, held_bit}
use Rattle.laws.proofs.Holds.{holds-start, holds_apart, holds_access, holds_other, holds_acquire}
use Rattle.laws.proofs.Holds.{holds_release}

module _ (σ : Trace) where
  -- Before event 1 no task holds any.
  pub locksets-start : Locksets σ 1 (replicate tasks 0)
  locksets-start = record {
    long = length-replicate {A = ℕ} tasks 0;
    fits = λ t h. rw (get_or-replicate {A = ℕ} tasks t 0 0 h) (omega arith);
    at = λ t l h k. rw (get_or-replicate {A = ℕ} tasks t 0 0 h, has_bit-none l, holds-start σ t l);
  }

  -- The mask of an event's own task is that of its held locks.
  pub locksets-held : (e : ℕ) (table : List ℕ) → Locksets σ e table → task σ e < tasks
      → get_or table (task σ e) 0 ≡ held σ e
  locksets-held e table z b = has_bit_ext (get_or table (task σ e) 0) (held σ e) same
    where
      same : (l : ℕ) → has_bit (get_or table (task σ e) 0) l ≡ has_bit (held σ e) l
      same l =
          ⊎_elim
          (λ h. has_bit_beyond (get_or table (task σ e) 0) locks l (z.fits (task σ e) b) h
          ∙ sym (has_bit_beyond (held σ e) locks l (held_lt σ e) h))
          (λ h. z.at (task σ e) l b h ∙ sym (held_bit σ e l h)) (at-most? locks l)

  -- The event's task gets another mask, in which its own locks are those that it holds then.
  pub locksets-set : (e m : ℕ) (table : List ℕ) → Locksets σ e table → task σ e < tasks → m < 2 ^ locks
      → ((l : ℕ) → l < locks → has_bit m l ≡ holds σ (suc e) (task σ e) l)
      → Locksets σ (suc e) (set table (task σ e) m)
  locksets-set e m table z b f n = record {
    long = length-set table (task σ e) m ∙ z.long;
    fits = λ t h. ⊎_elim (fits_same t) (fits_other t h) (equal? t (task σ e));
    at = λ t l h k. ⊎_elim (same t l k) (other t l h k) (equal? t (task σ e));
  }
    where
      here : get_or (set table (task σ e) m) (task σ e) 0 ≡ m
      here = get_or-set_same table (task σ e) m 0 (omega (arith, z.long))

      fits_same : (t : ℕ) → t ≡ task σ e → get_or (set table (task σ e) m) t 0 < 2 ^ locks
      fits_same t q = rw (q, here) f

      fits_other : (t : ℕ) → t < tasks → t ≢ task σ e → get_or (set table (task σ e) m) t 0 < 2 ^ locks
      fits_other t h d = rw (get_or-set_other table (task σ e) t m 0 d) (z.fits t h)

      same : (t l : ℕ) → l < locks → t ≡ task σ e
          → has_bit (get_or (set table (task σ e) m) t 0) l ≡ holds σ (suc e) t l
      same t l k q = rw (q, here) (n l k)

      other : (t l : ℕ) → t < tasks → l < locks → t ≢ task σ e
          → has_bit (get_or (set table (task σ e) m) t 0) l ≡ holds σ (suc e) t l
      other t l h k d =
          rw (get_or-set_other table (task σ e) t m 0 d, holds_other σ e t l (λ q. d (sym q))) (z.at t l h k)

  -- An outer acquire sets its lock's bit.
  pub locksets_acquire : (e : ℕ) (table : List ℕ) → Locksets σ e table → task σ e < tasks
      → is_acquire σ e ≡ true → object σ e < locks
      → Locksets σ (suc e) (set table (task σ e) (bit_or (get_or table (task σ e) 0)
      (1 * 2 ^ object σ e % 2 ^ 64)))
  locksets_acquire e table z b a o =
      locksets-set e (bit_or m (1 * 2 ^ l % 2 ^ 64)) table z b
      (rw (shift_one 64 l o) (or_lt 64 m (2 ^ l) (z.fits (task σ e) b) (pow-lt o))) bits
    where
      m : ℕ
      m = get_or table (task σ e) 0

      l : ℕ
      l = object σ e

      bits : (j : ℕ) → j < locks → has_bit (bit_or m (1 * 2 ^ l % 2 ^ 64)) j ≡ holds σ (suc e) (task σ e) j
      bits j k =
          rw (has_bit-shift 64 m l j o, z.at (task σ e) j b k)
          (⊎_elim
          (λ (q : l ≡ j). rw (
            eq-eqb l j q,
            or-true,
            holds_acquire σ e (task σ e) j a q,
            eq-eqb (task σ e)
                (task σ e) refl,
          ))
          (λ (d : l ≢ j). rw (ne_eqb l j d, or-false, holds_apart σ e (task σ e) j d)) (equal? l j))

  -- An outer release clears its lock's bit, which is set.
  pub locksets_release : (e : ℕ) (table : List ℕ) → Locksets σ e table → task σ e < tasks
      → is_release σ e ≡ true → object σ e < locks → holds σ e (task σ e) (object σ e) ≡ true
      → Locksets σ (suc e) (set table (task σ e) (bit_xor (get_or table (task σ e) 0)
      (1 * 2 ^ object σ e % 2 ^ 64)))
  locksets_release e table z b r o h =
      locksets-set e (bit_xor m (1 * 2 ^ l % 2 ^ 64)) table z b
      (rw (shift_one 64 l o) (xor_lt 64 m (2 ^ l) (z.fits (task σ e) b) (pow-lt o))) bits
    where
      m : ℕ
      m = get_or table (task σ e) 0

      l : ℕ
      l = object σ e

      bits : (j : ℕ) → j < locks → has_bit (bit_xor m (1 * 2 ^ l % 2 ^ 64)) j ≡ holds σ (suc e) (task σ e) j
      bits j k =
          rw (shift_one 64 l o, has_bit_xor m (2 ^ l) j, has_bit_bit l j, z.at (task σ e) j b k)
          (⊎_elim
          (λ (q : l ≡ j). rw (
            eq-eqb l j q,
            ← q,
            h,
            holds_release σ e (task σ e) l r refl,
            eq-eqb
                (task σ e) (task σ e) refl,
          ))
          (λ (d : l ≢ j). rw (ne_eqb l j d, holds_apart σ e (task σ e) j d)) (equal? l j))

  -- An event that is no outer acquire or release leaves them.
  pub locksets_access : (e : ℕ) (table : List ℕ) → is_acquire σ e ≡ false → is_release σ e ≡ false
      → Locksets σ e table → Locksets σ (suc e) table
  locksets_access e table a r z = record {
    long = z.long;
    fits = z.fits;
    at = λ t l h k. z.at t l h k ∙ sym (holds_access σ e t l a r);
  }
