-- The match of one event by its kind, and what noting the event does to what is kept. Assumes nothing.
use Prim.Native.Nat.{ℕ, ◌+◌, ◌*◌, ◌%◌, ◌^◌, ◌≤◌, ◌<◌}
use mathlib.Core.Path.{◌≡◌, sym, ◌∙◌}
use mathlib.Core.Logic.{◌≢◌}
use mathlib.Core.Bool.{true, false, ◌&&◌}
use mathlib.Core.List.{List}
use native.Mathlib.Numerals.{add-one}
use native.Mathlib.Omega.{arith}
use lib.Bits.{bit_or, bit_xor}
use lib.Dec.{T, eqb}
use lib.ListN.{length, get_or, set, length-map}
use borrow.Author.Tests.{eq-eqb, ne_eqb}
use Rattle.model.specs.Lists.{last_before}
use Rattle.model.specs.Trace.{Trace, tasks, locks, variables, at, task, object, is_acquire, is_release}
use Rattle.model.specs.Recording.{decode_all}
use Rattle.model.specs.Calls.Check.{check_events}
use Rattle.laws.specs.Sizes.{table_length}
use Rattle.laws.specs.EventKinds.{uncounted_kind, is_uncounted, kind}
use Rattle.laws.specs.Walked.{LatestEvents, KeptDepths, Locksets, marked_before}
use Rattle.laws.proofs.Tests.{is_true}
use Rattle.laws.proofs.Trace.{acquire-object, release-object, record-event}
use Rattle.laws.proofs.LatestEvents.{latest-set, latest_keep}
use Rattle.laws.proofs.Locksets.{locksets_acquire, locksets_release, locksets_access}
use Rattle.laws.proofs.EventKinds.{is_acquire-kind, is_release-kind, is_uncounted-kind}
use Rattle.laws.proofs.WellFormed.{WellFormed, release-held}
use Rattle.laws.proofs.OpenAcquires.{opened_acquire}
use Rattle.laws.proofs.Matches.{marked_new, marked_release}
use Rattle.laws.proofs.Questions.{events_sound}
use Rattle.sections.specs.declared.Kind as K
use Rattle.sections.specs.declared.Section.{Section}
use Rattle.sections.specs.declared.OpenSections.{OpenSections}
use Rattle.sections.specs.Kinds.{kind_code, IsKind}
use Rattle.sections.specs.Kept.{of_lock, depths, acquires, OpenBefore}
use Rattle.sections.proofs.Fields.{with_acquire, acquire_set, depth_left, acquire_at}
use Rattle.sections.proofs.KindOf.{Coming, access_depths, outer_acquire, outer_release}

-- Event e of a well-formed trace, with its kind.
pub record OfKind (σ : Trace) (e : ℕ) (k : K.Kind) : Type 0 where
  pub sound : WellFormed σ
  pub event : (1 ≤ e) × (e ≤ length σ)
  pub kind_is : IsKind σ e k

-- An event of accepted records is one, whatever is kept before it.
pub of_accepted : (b : List ℕ) {e : ℕ} {k : K.Kind} {Kept : Type 0}
    → (1 ≤ e) × (2 * e ≤ length b) × (e < table_length) × ((check_events (decode_all b)).refusal ≡ 0)
    × IsKind (decode_all b) e k × Kept
    → OfKind (decode_all b) e k
of_accepted b (first, last, short, accepted, kind, kept) = record {
  sound = events_sound b accepted;
  event = record-event b _ (first, last);
  kind_is = kind;
}

module _ {σ : Trace} {e : ℕ} {k : K.Kind} (u : OfKind σ e k) where
  code_is : kind_code k ≡ kind σ e
  code_is = u.kind_is.code_is

  acquire : kind_code k ≡ 2 → is_acquire σ e ≡ true
  acquire a = is_acquire-kind σ e code_is ∙ eq-eqb (kind_code k) 2 a

  no_acquire : kind_code k ≢ 2 → is_acquire σ e ≡ false
  no_acquire d = is_acquire-kind σ e code_is ∙ ne_eqb (kind_code k) 2 d

  release : kind_code k ≡ 3 → is_release σ e ≡ true
  release a = is_release-kind σ e code_is ∙ eq-eqb (kind_code k) 3 a

  no_release : kind_code k ≢ 3 → is_release σ e ≡ false
  no_release d = is_release-kind σ e code_is ∙ ne_eqb (kind_code k) 3 d

  uncounted : is_uncounted σ e ≡ eqb (kind_code k) uncounted_kind
  uncounted = is_uncounted-kind σ e code_is (omega (arith, u.kind_is.op_lt))

  -- A kind that counts is the operation.
  op_is : kind_code k ≢ uncounted_kind → kind_code k ≡ (at σ e).op
  unfolding kind
  op_is d = code_is ∙ rw (uncounted ∙ ne_eqb (kind_code k) uncounted_kind d)

  -- ---- matches

  -- An inner event, a start or a join has its own number,
  pub uncounted_match : kind_code k ≡ uncounted_kind → e ≡ marked_before σ (e + 1) e
  uncounted_match a =
      let is = uncounted ∙ eq-eqb (kind_code k) uncounted_kind a in
      rw (add-one e) (sym (marked_new σ e (no_release (omega arith)) ∙ rw is))

  -- and another one that is no outer release has no match yet.
  pub no_match : kind_code k ≢ 3 → kind_code k ≢ uncounted_kind → ◌≡◌ {A = ℕ} 0 (marked_before σ (e + 1) e)
  no_match d n =
      let counted = uncounted ∙ ne_eqb (kind_code k) uncounted_kind n in
      rw (add-one e) (sym (marked_new σ e (no_release d) ∙ rw counted))

  module _ {l : ℕ} (is-object : (l < variables) × (l ≡ object σ e)) where
    -- The object of an outer acquire or release is a lock.
    pub acquire_lock : kind_code k ≡ 2 → l < locks
    acquire_lock a = rw is-object.1 (acquire-object σ e (rw (acquire a) tt))

    pub release_lock : kind_code k ≡ 3 → l < locks
    release_lock a = rw is-object.1 (release-object σ e (rw (release a) tt))

    -- An outer release has the latest acquire of its lock, which is earlier.
    pub release_match : (table : List Section) → length table ≡ locks
        → LatestEvents (is_acquire σ) (object σ) e (acquires table) → kind_code k ≡ 3
        → ((of_lock table l).acquire ≤ e) × ((of_lock table l).acquire ≡ marked_before σ (e + 1) e)
    release_match table long z a =
        let t : T (is_release σ e) = rw (release a) tt in
        let b = release_lock a in
        let size = length-map table (λ (s : Section). s.acquire) in
        let latest : (of_lock table l).acquire
        ≡ last_before e (λ f. is_acquire σ f && eqb (object σ e) (object σ f)) =
        rw (← (acquire_at table l), is-object.1)
        (z.at (object σ e) (omega (arith, is-object, b, long, size))) in
        let opened = opened_acquire σ u.sound e u.event t in (
          rw latest (omega (arith, opened.1)),
          rw (add-one e) (marked_release σ u.sound e u.event t latest),
        )

    -- ---- what is kept

    module _ {sections : OpenSections} (before : OpenBefore σ e sections) where
      acquires_long : length (acquires sections.locks) ≡ locks
      acquires_long =
          length-map sections.locks _ ∙ sym (length-map sections.locks _) ∙ before.depth.long

      -- With its operation and object.
      pub coming : {op : ℕ} → op ≡ (at σ e).op → Coming σ e op l sections.locks
      coming q = record {
        sound = u.sound;
        event = u.event;
        op_is = (omega (arith, u.kind_is.op_lt), q);
        object_is = is-object.1;
        depths_are = before.depth;
      }

      unacquired : kind_code k ≢ 2 → LatestEvents (is_acquire σ) (object σ) (e + 1) (acquires sections.locks)
      unacquired d =
          rw (add-one e)
          (latest_keep (is_acquire σ) (object σ) e (acquires sections.locks) before.acquire (no_acquire d))

      unlocked : kind_code k ≢ 2 → kind_code k ≢ 3 → Locksets σ (e + 1) sections.locksets
      unlocked c d =
          rw (add-one e)
          (locksets_access σ e sections.locksets (no_acquire c) (no_release d) before.lockset)

      -- A read or a write changes nothing of it,
      pub access_noted : kind_code k ≢ 2 → kind_code k ≢ 3 → kind_code k ≢ uncounted_kind
          → OpenBefore σ (e + 1) sections
      access_noted c d n = record {
        depth = let q = op_is n in access_depths (coming q) (omega (arith, u.kind_is.op_lt));
        lockset = unlocked c d;
        acquire = unacquired c;
      }

      -- and a record that does not count at most the depths.
      pub depth_noted : kind_code k ≡ uncounted_kind → {table : List Section}
          → KeptDepths σ (e + 1) (depths table) → acquires table ≡ acquires sections.locks
          → OpenBefore σ (e + 1) (record { locks = table; locksets = sections.locksets })
      depth_noted a z left = record {
        depth = z;
        lockset = unlocked (omega arith) (omega arith);
        acquire = rw left (unacquired (omega arith));
      }

      module _ {t : ℕ} (is-task : (t < tasks) × (t ≡ task σ e)) where
        -- The task of an outer acquire holds its lock, of which it is the latest one,
        pub acquire_noted : kind_code k ≡ 2
            → OpenBefore σ (e + 1) (record {
              locks = with_acquire sections.locks l e;
              locksets = set sections.locksets t (bit_or (get_or sections.locksets t 0) (1 * 2 ^ l % 2 ^ 64));
            })
        acquire_noted a =
            let b = acquire_lock a in
            let op = op_is (omega arith) in record {
              depth = rw (depth_left sections.locks l e) (outer_acquire (coming op) b a (sym a ∙ code_is));
              lockset = rw (add-one e, is-task.1, is-object.1)
                  (locksets_acquire σ e sections.locksets before.lockset (omega (arith, is-task)) (acquire a)
                  (omega (arith, is-object, b)));
              acquire = rw (add-one e, acquire_set sections.locks l e, is-object.1)
                  (latest-set (is_acquire σ) (object σ) e (acquires sections.locks) before.acquire
                  (rw (acquire a) tt) (omega (arith, is-object, b, acquires_long)));
            }

        -- and that of an outer release no more.
        pub release_noted : kind_code k ≡ 3 → OpenBefore σ (e + 1) (record {
          locks = sections.locks;
          locksets = set sections.locksets t (bit_xor (get_or sections.locksets t 0) (1 * 2 ^ l % 2 ^ 64));
        })
        release_noted a =
            let b = release_lock a in
            let op = op_is (omega arith) in
            let held = release-held σ u.sound e (rw (release a) tt) in record {
              depth = outer_release (coming op) b a (sym a ∙ code_is);
              lockset = rw (add-one e, is-task.1, is-object.1)
                  (locksets_release σ e sections.locksets before.lockset (omega (arith, is-task)) (release a)
                  (omega (arith, is-object, b)) (is_true _ held));
              acquire = unacquired (omega arith);
            }
