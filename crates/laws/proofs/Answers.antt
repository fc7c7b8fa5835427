-- The answers of the calls on one event and on one lock, by the questions that decide them; those of the
-- listing and the verdict are in Calls. Assumes nothing.
use Prim.Native.Nat.{ℕ}
use mathlib.Core.Path.{◌≡◌}
use mathlib.Core.Logic.{◌≢◌}
use mathlib.Core.Bool.{true, false}
use mathlib.Core.List.{List}
use lib.Dec.{ltb}
use borrow.Author.Tests.{eq-eqb, ne_eqb, eqb-false}
use Rattle.model.specs.Trace.{locks, is_event}
use Rattle.model.specs.Recording.{trace}
use Rattle.model.specs.Calls.Questions.{is_accepted, knows_event, knows_lock}
use Rattle.model.specs.Calls.Check.{check}
use Rattle.model.specs.Calls.Relations.{relations_refusal, relations}
use Rattle.model.specs.Calls.Load.{load_refusal, load}
use Rattle.laws.specs.Answered.{refused_relations, event_relations, refused_load, lock_load}
use Rattle.laws.proofs.Tests.{decided}

-- ---- relations

module _ (b : List ℕ) (e : ℕ) where
  -- A recording that is refused.
  pub relations_unchecked : (check b).refusal ≢ 0 → relations b e ≡ refused_relations (check b).refusal
      (check b).event
  unfolding relations relations_refusal
  relations_unchecked d = rw (ne_eqb (check b).refusal 0 d, ne_eqb (check b).refusal 0 d)

  module _ (c : (check b).refusal ≡ 0) where
    -- 9: no such event.
    pub relations_unknown : is_event (trace b) e ≡ false → relations b e ≡ refused_relations 9 0
    unfolding relations relations_refusal knows_event
    relations_unknown n = rw (eq-eqb (check b).refusal 0 c, n)

    -- The relations of an event.
    pub relations_answer : is_event (trace b) e ≡ true → relations b e ≡ event_relations (trace b) e
    unfolding relations relations_refusal knows_event
    relations_answer y = rw (eq-eqb (check b).refusal 0 c, y)

-- ---- load

module _ (b : List ℕ) (l : ℕ) where
  -- A recording that is refused.
  pub load_unchecked : (check b).refusal ≢ 0 → load b l ≡ refused_load (check b).refusal (check b).event
  unfolding load load_refusal
  load_unchecked d = rw (ne_eqb (check b).refusal 0 d, ne_eqb (check b).refusal 0 d)

  module _ (c : (check b).refusal ≡ 0) where
    -- 14: no such lock.
    pub load_unknown : ltb l locks ≡ false → load b l ≡ refused_load 14 0
    unfolding load load_refusal knows_lock
    load_unknown n = rw (eq-eqb (check b).refusal 0 c, n)

    -- The load of a lock.
    pub load_answer : ltb l locks ≡ true → load b l ≡ lock_load (trace b) l
    unfolding load load_refusal knows_lock
    load_answer y = rw (eq-eqb (check b).refusal 0 c, y)

  -- A load that is not refused is that of its lock.
  pub load_accepted : (load b l).refusal ≡ 0 → load b l ≡ lock_load (trace b) l
  unfolding load
  load_accepted e =
      decided (is_accepted (load_refusal b l)) (λ y. rw y)
      (λ n. absurd (eqb-false (load_refusal b l).refusal 0 n (rw n at e)))
