-- What one event is refused with and what it does to the tables of the check, by its operation and object.
-- Assumes nothing.
use Prim.Native.Nat.{ℕ, suc, ◌+◌, ◌≤◌, ◌<◌}
use mathlib.Core.Path.{◌≡◌, refl, sym, ap, ◌∙◌}
use mathlib.Core.Logic.{◌≢◌}
use mathlib.Core.Bool.{Bool, true, false, cond, ◌||◌}
use mathlib.Core.List.{List}
use native.Mathlib.Numerals.{add-one}
use native.Mathlib.Omega.{arith}
use lib.Dec.{T, eqb}
use lib.ListN.{length, get_or, set, length-set}
use borrow.Author.Tests.{eq-eqb, ne_eqb}
use Rattle.std.specs.Prelude.{Ok, Err}
use Rattle.model.specs.declared.Question.{Question}
use Rattle.model.specs.declared.Question.TheVariants.{Written}
use Rattle.model.specs.Refused.{number}
use Rattle.model.specs.Trace.{Trace, locks, variables, at, task, object}
use Rattle.model.specs.Trace.{is_write}
use Rattle.model.specs.Tasks.{is_start, is_join}
use Rattle.model.specs.Relations.{holds, writer}
use Rattle.model.specs.WellFormed.{is_free}
use Rattle.laws.specs.Walked.{Holders, LatestEvents}
use Rattle.laws.proofs.Numbers.{number_positive}
use Rattle.laws.proofs.LatestEvents.{latest-set, latest_keep, latest-writer}
use Rattle.laws.proofs.Kept.{holders_access}
use Rattle.laws.proofs.Operations.{is_read_op, is_write_op, is_start-none, is_join-none, accesses_is}
use Rattle.laws.proofs.Operations.{is_start_lock, is_join_lock, tasks_is}
use Rattle.laws.proofs.Faults.{fault_acquire, fault_release}
use Rattle.laws.proofs.Faults.{fault_write, fault_read}
use Rattle.recording.specs.declared.Past.{Past}
use Rattle.recording.specs.declared.Locks.{Locks}
use Rattle.recording.specs.declared.Op.{Op}
use Rattle.recording.specs.declared.Op.TheVariants.{Read, Write, Acquire, Release}
use Rattle.recording.specs.declared.Asked.TheVariants.{Passed}
use Rattle.recording.specs.Asked.{code, Done, Plainly}

-- ---- numbers of questions

-- A question that is passed decides nothing,
passing : (b : Bool) (k x : ℕ) → k ≢ 0 → cond b 0 k ≡ 0 → cond b x k ≡ x
passing true k x d y = refl
passing false k x d y = absurd (d y)

-- and one that refuses gives its number.
refusing : (b : Bool) (q : Question) (k x : ℕ) → number q ≡ cond b 0 k → cond b x k ≡ number q
refusing true q k x y = absurd (omega (arith, y, number_positive q))
refusing false q k x y = sym y

-- ---- operations

-- The number of an operation has two bits.
pub code_lt : (o : Op) → code o < 4
code_lt Read = omega arith
code_lt Write = omega arith
code_lt Acquire = omega arith
code_lt Release = omega arith

-- An acquire's is 2, and a release's 3; no other is above 1.
pub code_release : (o : Op) → 2 ≤ code o → o ≢ Acquire → code o ≡ 3
code_release Read h d = absurd (omega (arith, h))
code_release Write h d = absurd (omega (arith, h))
code_release Acquire h d = absurd (d refl)
code_release Release h d = refl

pub code_last : (o : Op) → o ≢ Read → o ≢ Write → o ≢ Acquire → code o ≡ 3
code_last Read r w a = absurd (r refl)
code_last Write r w a = absurd (w refl)
code_last Acquire r w a = absurd (a refl)
code_last Release r w a = refl

-- The operation with a number.
op_of : ℕ → Op
op_of n = cond (eqb n 0) Read (cond (eqb n 1) Write (cond (eqb n 2) Acquire Release))

op_of_code : (o : Op) → op_of (code o) ≡ o
unfolding op_of
op_of_code Read = refl
op_of_code Write = refl
op_of_code Acquire = refl
op_of_code Release = refl

-- Two operations have two numbers.
pub code_apart : (o p : Op) → o ≢ p → code o ≢ code p
code_apart o p d q = d (sym (op_of_code o) ∙ ap op_of q ∙ op_of_code p)

-- ---- an event

-- An event with its operation and object, to which the check has come.
pub record Coming (σ : Trace) (e op o : ℕ) (past : Past) : Type 0 where
  pub op_is : op ≡ (at σ e).op
  pub object_is : (o < variables) × (o ≡ object σ e)
  pub done : Done σ e past

module _ {σ : Trace} {e op o : ℕ} {past : Past}
    (u : Coming σ e op o past) where
  z : Done σ e past
  z = u.done

  is_op : op ≡ (at σ e).op
  is_op = u.op_is

  is-object : o ≡ object σ e
  is-object = u.object_is.1

  unwritten : op ≢ 1 → LatestEvents (is_write σ) (object σ) (suc e) past.writes
  unwritten d =
      latest_keep (is_write σ) (object σ) e past.writes z.written (is_write_op σ e is_op ∙ ne_eqb op 1 d)

  -- ---- reads and writes

  module _ (a : op < 2) where
    -- It is no start and no join.
    access_forks : (is_start σ e || is_join σ e) ≡ false
    access_forks = rw (is_start-none σ e is_op (omega arith), is_join-none σ e is_op (omega arith))

    -- It leaves the holders.
    accessed : (w : List ℕ) → length w ≡ variables → LatestEvents (is_write σ) (object σ) (suc e) w
        → Done σ (e + 1) (record past { writes = w })
    accessed w long written =
        let (no-enter, no-leave) = accesses_is σ e is_op a in
        rw (add-one e) (record {
          holder = holders_access no-enter no-leave z.holder;
          writes_long = long;
          written = written;
        })

  -- The latest write of a read's variable.
  last_write : op ≡ 0 → get_or past.writes o 0 ≡ writer σ e
  last_write a =
      rw is-object (latest-writer σ e past.writes z.written (is_read_op σ e is_op ∙ eq-eqb op 0 a)
      (omega (arith, z.writes_long, u.object_is)))

  -- A read whose variable has no write.
  pub read_refused : op ≡ 0 → get_or past.writes o 0 ≡ 0 → Plainly σ e (Err Written) past
  read_refused a n = (access_forks (omega arith), fault_read σ e is_op a ∙ rw (sym (last_write a) ∙ n))

  -- A read of a variable that was written.
  pub read_passed : op ≡ 0 → get_or past.writes o 0 ≢ 0 → Plainly σ e (Ok Passed) past
  read_passed a n = (
    access_forks (omega arith),
    fault_read σ e is_op a ∙ rw (ne_eqb (writer σ e) 0 (λ q. n (last_write a ∙ q))),
    accessed (omega arith) past.writes z.writes_long (unwritten (omega arith)),
  )

  -- A write.
  pub written : op ≡ 1 → Plainly σ e (Ok Passed) (record past { writes = set past.writes o e })
  written a =
      rw is-object (
        access_forks (omega arith),
        fault_write σ e is_op a,
        accessed (omega arith) (set past.writes (object σ e) e)
            (length-set past.writes (object σ e) e ∙ z.writes_long)
            (latest-set (is_write σ) (object σ) e past.writes z.written write
            (omega (arith, z.writes_long, u.object_is))),
      )
    where
      write : T (is_write σ e)
      write = rw (is_write_op σ e is_op, eq-eqb op 1 a) tt

  -- ---- acquires and releases

  module _ (h : o < 64) where
    lock : object σ e < locks
    lock = omega (arith, is-object)

    -- It is no start and no join.
    lock_forks : (is_start σ e || is_join σ e) ≡ false
    lock_forks = rw (is_start_lock σ e is_op lock, is_join_lock σ e is_op lock)

    locked : op ≢ 1 → (held : Locks) → Holders σ (e + 1) held.holders held.depths
        → Done σ (e + 1) (record past { locks = held })
    locked n held y =
        rw (add-one e) (record {
          holder = rw (add-one e) at y;
          writes_long = z.writes_long;
          written = unwritten n;
        })

    -- An acquire that question 5 refuses,
    pub acquire_refused : op ≡ 2 → (q : Question) → number q ≡ cond (is_free σ e) 0 5
        → Plainly σ e (Err q) past
    acquire_refused a q y = (lock_forks, fault_acquire σ e is_op a lock ∙ refusing (is_free σ e) q _ _ y)

    -- and one that it passes.
    pub acquired : op ≡ 2 → (held : Locks) → ◌≡◌ {A = ℕ} 0 (cond (is_free σ e) 0 5)
        → Holders σ (e + 1) held.holders held.depths → Plainly σ e (Ok Passed) (record past { locks = held })
    acquired a held y k = (
      lock_forks,
      fault_acquire σ e is_op a lock ∙ passing (is_free σ e) _ _ (omega arith) (sym y),
      locked (omega arith) held k,
    )

    -- A release that question 6 refuses,
    pub release_refused : op ≡ 3 → (q : Question) → number q ≡ cond (holds σ e (task σ e) (object σ e)) 0 6
        → Plainly σ e (Err q) past
    release_refused a q y =
        (lock_forks, fault_release σ e is_op a lock ∙ refusing (holds σ e (task σ e) (object σ e)) q _ _ y)

    -- and one that it passes.
    pub released : op ≡ 3 → (held : Locks) → ◌≡◌ {A = ℕ} 0 (cond (holds σ e (task σ e) (object σ e)) 0 6)
        → Holders σ (e + 1) held.holders held.depths → Plainly σ e (Ok Passed) (record past { locks = held })
    released a held y k = (
      lock_forks,
      fault_release σ e is_op a lock ∙ passing (holds σ e (task σ e) (object σ e)) _ _ (omega arith) (sym y),
      locked (omega arith) held k,
    )

  -- ---- starts and joins

  -- A record that names no lock leaves locks and variables.
  pub unlocked : locks ≤ object σ e → 2 ≤ op → Done σ (e + 1) past
  unlocked beyond h =
      let (no-enter, no-leave) = tasks_is σ e is_op beyond in
      rw (add-one e) (record {
        holder = holders_access no-enter no-leave z.holder;
        writes_long = z.writes_long;
        written = unwritten (omega arith);
      })
