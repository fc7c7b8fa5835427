-- The tests as the code asks them of the tables and the records, case by case. Assumes nothing.
use Prim.Native.Nat.{ℕ, ◌*◌, ◌≤◌, ◌<◌}
use mathlib.Core.Path.{◌≡◌, sym, ◌∙◌}
use mathlib.Core.Logic.{◌≢◌}
use mathlib.Core.Bool.{Bool, true, false}
use mathlib.Core.List.{List}
use native.Mathlib.Omega.{arith}
use lib.Dec.{eqb, leb}
use lib.ListN.{length, get_or}
use borrow.Author.Tests.{eq-eqb, ne_eqb, le-leb, lt-leb}
use Rattle.model.specs.Trace.{Trace, variables, at, task, object, is_read}
use Rattle.model.specs.Relations.{predecessor, joined}
use Rattle.model.specs.Recording.{decode_all}
use Rattle.model.specs.Schedule.{may_follow}
use Rattle.laws.specs.EventKinds.{marked}
use Rattle.laws.specs.Order.{awaited}
use Rattle.laws.proofs.Trace.{decode_all-length}
use Rattle.laws.proofs.Relations.{predecessor_below, joined-none}
use Rattle.laws.proofs.Operations.{is_read_op, is_join-none, is_acquire-none}
use Rattle.laws.proofs.Awaited.{awaited_read, awaited_other, awaited_below}
use Rattle.laws.proofs.Marks.{WithMark, marked_le, marked_uncounted, marked_outer}
use Rattle.laws.proofs.WellFormed.{WellFormed, acquire_lt}
use Rattle.schedule.specs.declared.Progress.{Progress}
use Rattle.schedule.specs.Listed.{Listed}
use Rattle.schedule.specs.Next.{is_listed, is_ready, is_next, is_unlocked}
use Rattle.schedule.proofs.Laws.{read_follows, acquire_follows, other_follows}

-- ---- one table

module _ (σ : Trace) (last : List ℕ) (e : ℕ) where
  -- 0 is not listed.
  pub listed-none : e ≡ 0 → false ≡ is_listed σ last e
  unfolding is_listed
  listed-none q = rw (eq-eqb e 0 q)

  -- Another number is where the latest listed event of its task reaches it.
  pub listed_some : (t : ℕ) → t ≡ task σ e → e ≢ 0 → leb e (get_or last t 0) ≡ is_listed σ last e
  unfolding is_listed
  listed_some t q d = rw (ne_eqb e 0 d, q)

  -- What is awaited is there where it is 0,
  pub ready-none : e ≡ 0 → true ≡ is_ready σ last e
  unfolding is_ready
  ready-none q = rw (eq-eqb e 0 q)

  -- or listed.
  pub ready_some : e ≢ 0 → is_listed σ last e ≡ is_ready σ last e
  unfolding is_ready
  ready_some d = rw (ne_eqb e 0 d)

  module _ {p t : ℕ} (q : p ≡ predecessor σ e) (r : t ≡ task σ e) where
    -- An event is next where its predecessor is the latest listed event of its task,
    pub next_own : p ≡ get_or last t 0 → true ≡ is_next σ last e
    unfolding is_next
    next_own same = rw (← q, ← r, eq-eqb p (get_or last t 0) same)

    module _ (d : p ≢ get_or last t 0) where
      -- and not where another one of that is listed;
      pub next_late : get_or last t 0 ≢ 0 → false ≡ is_next σ last e
      unfolding is_next
      next_late n = rw (← q, ← r, ne_eqb p (get_or last t 0) d, ne_eqb (get_or last t 0) 0 n)

      -- where none is, the predecessor decides, the start.
      pub next_start : get_or last t 0 ≡ 0 → is_listed σ last p ≡ is_next σ last e
      unfolding is_next
      next_start n = rw (← q, ← r, ne_eqb p (get_or last t 0) d, eq-eqb (get_or last t 0) 0 n)

  module _ (acquires : List ℕ) (o : ℕ) (is : o ≡ object σ e) where
    -- A lock of which no acquire is listed is free.
    pub unlocked_first : get_or acquires o 0 ≡ 0 → true ≡ is_unlocked σ last acquires e
    unfolding is_unlocked
    unlocked_first q = rw (← is, eq-eqb (get_or acquires o 0) 0 q)

    -- A lock that a later acquire took keeps the event back.
    pub unlocked_late : get_or acquires o 0 ≢ 0 → e ≤ get_or acquires o 0 → false
        ≡ is_unlocked σ last acquires e
    unfolding is_unlocked
    unlocked_late d h = rw (← is, ne_eqb (get_or acquires o 0) 0 d, le-leb e (get_or acquires o 0) h)

    -- Of a lock that earlier acquires took, the match of the latest one decides.
    pub unlocked_matched : (m : ℕ) → m ≡ marked σ (get_or acquires o 0) → get_or acquires o 0 ≢ 0
        → get_or acquires o 0 < e → is_listed σ last m ≡ is_unlocked σ last acquires e
    unfolding is_unlocked
    unlocked_matched m q d h =
        rw (← is, ne_eqb (get_or acquires o 0) 0 d, lt-leb e (get_or acquires o 0) h, q)

-- The match of an event of the records is one of them, or 0.
pub matching_in : (b : List ℕ) (e m : ℕ) → m ≡ marked (decode_all b) e → e ≤ length (decode_all b)
    → 2 * m ≤ length b
matching_in b e m q h = omega (arith, marked_le (decode_all b) e h, decode_all-length b)

-- So is its predecessor,
pub predecessor_in : (b : List ℕ) (e : ℕ) {p : ℕ} → p ≡ predecessor (decode_all b) e → 2 * e ≤ length b
    → 2 * p ≤ length b
predecessor_in b e q h = omega (arith, predecessor_below (decode_all b) e)

-- and what it awaits.
pub awaited_in : (b : List ℕ) (e : ℕ) {w : ℕ} → w ≡ awaited (decode_all b) e → 2 * e ≤ length b
    → 2 * w ≤ length b
awaited_in b e q h = omega (arith, awaited_below (decode_all b) e)

-- ---- one event more

-- What the code answers for event e is the definition's answer, whatever is listed.
abbrev pub Answers : Trace → Progress → ℕ → Bool → Type 0
Answers σ p e r =
    (before : List ℕ) → Listed σ before p → r ≡ may_follow σ before e

-- An event that is next, with its operation and mark as the code has read them.
pub record Asked (σ : Trace) (p : Progress) (e op m : ℕ) : Type 0 where
  pub sound : WellFormed σ
  pub inside : (1 ≤ e) × (e ≤ length σ)
  pub next : is_next σ p.last e ≡ true
  pub mark : WithMark σ e op m

module _ {σ : Trace} {p : Progress} {e op m : ℕ} (k : Asked σ p e op m) where
  is_op : op ≡ (at σ e).op
  is_op = k.mark.op_is

  unread : op ≢ 0 → is_read σ e ≡ false
  unread d = is_read_op σ e is_op ∙ ne_eqb op 0 d

  -- A read may follow where the last listed write of its variable is its writer,
  pub asked_read : op ≡ 0 → (o w : ℕ) → (o < variables) × (o ≡ object σ e) → w ≡ awaited σ e
      → Answers σ p e (eqb (get_or p.writes o 0) w)
  asked_read r o w is-object is-awaited before z =
      let read = is_read_op σ e is_op ∙ eq-eqb op 0 r in
      rw (is-object.1, is-awaited ∙ awaited_read σ e read)
      (read_follows σ before p z e k.inside k.sound k.next read
      (is_join-none σ e is_op (omega arith)) (is_acquire-none σ e is_op (omega arith)) (omega arith))

  -- an outer acquire where its lock is clear,
  pub asked_acquire : op ≡ 2 → m ≢ e → (r : Bool) → r ≡ is_unlocked σ p.last p.acquires e
      → Answers σ p e r
  asked_acquire a d r is before z =
      let outer = marked_outer k.mark a d in
      is ∙ acquire_follows σ before p z e k.inside k.sound k.next
      (unread (omega arith)) (is_join-none σ e is_op (omega arith)) outer
      (acquire_lt σ k.sound e (rw outer tt))

  -- a start or an inner acquire always,
  pub asked_uncounted : op ≡ 2 → m ≡ e → Answers σ p e true
  unfolding is_ready
  asked_uncounted a q before z =
      let alone = joined-none σ e (is_join-none σ e is_op (omega arith)) in
      let ready : is_ready σ p.last (joined σ e) ≡ true = rw alone in
      sym ready ∙ other_follows σ before p z e k.inside k.sound k.next
      (unread (omega arith)) (marked_uncounted k.mark a q)

  -- and another event where what it awaits is there.
  pub asked_other : op ≢ 0 → op ≢ 2 → {w : ℕ} → w ≡ awaited σ e → {r : Bool} → r ≡ is_ready σ p.last w
      → Answers σ p e r
  asked_other d n q is before z =
      let same = q ∙ awaited_other σ e (unread d) in
      is ∙ rw same (other_follows σ before p z e k.inside k.sound k.next
      (unread d) (is_acquire-none σ e is_op n))
