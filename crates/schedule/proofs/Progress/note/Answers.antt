-- `schedule::Progress::note` meets its contract: each return cites the law of its case. Assumes nothing.
use Prim.Native.Nat.{ℕ}
use mathlib.Core.Path.{◌≡◌, refl}
use native.Mathlib.Omega.{arith}
use Rattle.model.specs.Trace.{at}
use Rattle.model.specs.Recording.{decode_all}
use Rattle.recording.proofs.Accepted.{sound}
use Rattle.recording.specs.declared.Op.{Op}
use Rattle.recording.specs.declared.Op.TheVariants.{Write, Acquire}
use Rattle.recording.specs.Asked.{code}
use Rattle.recording.proofs.Laws.{code_lt, code_apart}
use Rattle.laws.specs.EventKinds.{marked}
use Rattle.laws.proofs.Operations.{is_acquire-none}
use Rattle.laws.proofs.Marks.{marked_uncounted, marked_outer}
use Rattle.laws.proofs.WellFormed.{acquire_lt}
use Rattle.schedule.proofs.Noting.{Noted, write_noted, acquire_noted, other_noted}
use Rattle.schedule.proofs.Progress.note.Goals as goal
use Rattle.schedule.proofs.Progress.note.Goals.{After-object-object, After-matching}

-- The event as it was unpacked, and its mark.
unpacked : (c : goal.After-object-object) (o : Op) (m : ℕ)
    → code o ≡ (at (decode_all c.args.trace.now.records.bytes.now) c.args.e).op
    → m ≡ marked (decode_all c.args.trace.now.records.bytes.now) c.args.e
    → Noted (decode_all c.args.trace.now.records.bytes.now) c.args.e (code o) c.task.result
    c.object-object.result m
unpacked c o m is mark = record {
  sound = sound c.args.trace.now.records;
  event = record {
    op_is = (code_lt o, is);
    task_is = c.task.ensures;
    object_is = c.object-object.ensures;
  };
  mark = record { event = c.requires.0; op_is = is; mark_is = mark };
}

-- An acquire, with its mark.
acquire : (c : goal.After-matching)
    → Noted (decode_all c.args.trace.now.records.bytes.now) c.args.e 2 c.task.result c.object-object.result
    c.matching.result
acquire c =
    unpacked (goal.at.After-matching c).After-object-object Acquire _ c.in-Acquire.ensures c.matching.ensures

pub returns-in-Write : goal.returns-in-Write
returns-in-Write c =
    let u = unpacked (goal.at.returns-in-Write c).After-object-object Write _ c.in-Write.ensures refl in
    write_noted u _ refl

pub returns-in_default : goal.returns-in_default
returns-in_default c =
    let u = unpacked (goal.at.returns-in_default c).After-object-object _ _ c.operation.ensures refl in
    other_noted u _ (code_apart _ Write c.in_default.not-Write)
    (is_acquire-none _ _ u.mark.op_is (code_apart _ Acquire c.in_default.not-Acquire))

pub bounds-self-object-then-matching-e : goal.bounds-self-object-then-matching-e
bounds-self-object-then-matching-e c =
    let u = acquire (goal.at.bounds-self-object-then-matching-e c).After-matching in
    let outer = marked_outer u.mark refl c.if-matching-e.true in
    let lock = acquire_lt _ u.sound c.args.e (rw outer tt) in
    omega (arith, lock, u.event.object_is)

pub returns-then-matching-e : goal.returns-then-matching-e
returns-then-matching-e c =
    let u = acquire (goal.at.returns-then-matching-e c).After-matching in
    acquire_noted u _ refl c.if-matching-e.true

pub returns-else-matching-e : goal.returns-else-matching-e
returns-else-matching-e c =
    let u = acquire (goal.at.returns-else-matching-e c).After-matching in
    other_noted u _ (omega arith) (marked_uncounted u.mark refl c.if-matching-e.false)
