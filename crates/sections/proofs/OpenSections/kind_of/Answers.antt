-- `sections::OpenSections::kind_of` meets its contract: the held locks decide on an acquire, and the depth of
-- its lock on a release. Assumes nothing.
use Prim.Native.Nat.{ℕ, ◌<◌}
use mathlib.Core.Path.{◌≡◌, refl, sym, ◌∙◌}
use native.Mathlib.Omega.{arith}
use Rattle.model.specs.Trace.{at}
use Rattle.model.specs.Recording.{decode_all}
use Rattle.laws.proofs.Trace.{record-event}
use Rattle.laws.proofs.EventKinds.{kind_access}
use Rattle.laws.proofs.Questions.{events_sound}
use Rattle.recording.specs.declared.Op.TheVariants as Op
use Rattle.recording.proofs.Laws.{code_lt, code_apart}
use Rattle.sections.specs.declared.Kind.TheVariants.{Read, Write, Acquire, Release, Uncounted}
use Rattle.sections.proofs.KindOf.{Coming, of_kind, task_kind, enter_outer, enter_inner, leave_outer}
use Rattle.sections.proofs.KindOf.{leave_inner}
use Rattle.sections.proofs.OpenSections.kind_of.Goals as goal
use Rattle.sections.proofs.OpenSections.kind_of.Goals.{After-operation}

-- The event with its operation and object.
coming : (c : goal.After-operation) {op : ℕ} → op ≡ (at (decode_all c.args.records.now) c.args.e).op → op < 4
    → Coming (decode_all c.args.records.now) c.args.e op c.object-l.result c.args.self.now.locks
coming c is small =
    let b = c.args.records.now in record {
      sound = events_sound b c.requires.2;
      event = record-event b c.args.e (c.requires.0, c.requires.1);
      op_is = (small, is);
      object_is = c.object-l.ensures.1;
      depths_are = c.requires.4;
    }

pub returns-in-Read : goal.returns-in-Read
returns-in-Read c =
    let u = coming (goal.at.returns-in-Read c).After-operation c.in-Read.ensures (omega arith) in
    of_kind u Read (kind_access _ c.args.e c.in-Read.ensures (omega arith))

pub returns-in-Write : goal.returns-in-Write
returns-in-Write c =
    let u = coming (goal.at.returns-in-Write c).After-operation c.in-Write.ensures (omega arith) in
    of_kind u Write (kind_access _ c.args.e c.in-Write.ensures (omega arith))

pub returns-in_default : goal.returns-in_default
returns-in_default c =
    let k = c.operation.result in
    let u = coming (goal.at.returns-in_default c).After-operation c.operation.ensures (code_lt k) in
    let a = code_apart k Op.Read c.in_default.not-Read in
    let b = code_apart k Op.Write c.in_default.not-Write in
    of_kind u Uncounted (task_kind u (omega arith) c.if-l-ge64.true)

pub returns-in-Acquire : goal.returns-in-Acquire
returns-in-Acquire c =
    let u = coming (goal.at.returns-in-Acquire c).After-operation c.in-Acquire.ensures (omega arith) in
    of_kind u Acquire (enter_outer u c.if-l-ge64.false refl
    (rw c.requires.3 at (sym c.in_mask.ensures ∙ c.if-not-in_mask.true))).0

pub returns-in_default-2 : goal.returns-in_default-2
returns-in_default-2 c =
    let u = coming (goal.at.returns-in_default-2 c).After-operation c.in-Acquire.ensures (omega arith) in
    of_kind u Uncounted (enter_inner u c.if-l-ge64.false refl
    (rw c.requires.3 at (sym c.in_mask.ensures ∙ c.if-not-in_mask.false))).0

pub returns-in-Release : goal.returns-in-Release
returns-in-Release c =
    let u = coming (goal.at.returns-in-Release c).After-operation c.in-Release.ensures (omega arith) in
    of_kind u Release (leave_outer u c.if-l-ge64.false refl c.if-self-l-eq1.true).0

pub returns-in_default-2-2 : goal.returns-in_default-2-2
returns-in_default-2-2 c =
    let u = coming (goal.at.returns-in_default-2-2 c).After-operation c.in-Release.ensures (omega arith) in
    of_kind u Uncounted (leave_inner u c.if-l-ge64.false refl c.if-self-l-eq1.false).0
