-- `relations::Walk::note` meets its contract: the event has its row, and a release is its acquire's match.
-- Assumes nothing.
use Prim.Native.Nat.{◌<◌}
use mathlib.Core.Path.{◌∙◌}
use native.Mathlib.Omega.{arith}
use borrow.Author.Rules.{rules}
use borrow.Author.Tests.{ne_eqb}
use lib.Dec.{T}
use Rattle.model.specs.Trace.{is_release}
use Rattle.model.specs.Recording.{decode_all}
use Rattle.laws.proofs.Trace.{record-event}
use Rattle.laws.proofs.EventKinds.{is_release-kind}
use Rattle.recording.proofs.Accepted.{sound}
use Rattle.sections.specs.declared.Kind.TheVariants.{Release}
use Rattle.sections.specs.Kinds.{kind_code}
use Rattle.sections.proofs.KindOf.{kind_apart}
use Rattle.relations.specs.Tables.{Noted}
use Rattle.relations.proofs.Rows.{Lengths, row_noted, release_noted}
use Rattle.relations.proofs.Walk.note.Goals as goal
use Rattle.relations.proofs.Walk.note.Goals.{After-put}

-- What is noted of the earlier events, with an entry for each event.
kept : (c : goal.After-put) → Noted (decode_all c.args.records.now.bytes.now) c.args.e c.args.tables.now
    × Lengths c.args.tables.now × (c.args.e < 4096)
kept c = (
  c.requires.3,
  record {
    held = search rules;
    predecessors = search rules;
    awaited = search rules;
    matches = search rules;
  },
  omega (arith, c.requires.1, c.args.records.now.short),
)

pub returns-in-Release : goal.returns-in-Release
returns-in-Release c =
    let r = c.args.records.now in
    let b = r.bytes.now in
    let is = is_release-kind (decode_all b) c.args.e c.kind_of-kind.ensures.code_is in
    let release : T (is_release (decode_all b) c.args.e) = rw (is, c.in-Release.is) tt in
    let (noted, long, inside) = kept (goal.at.returns-in-Release c).After-put in (
      record { section = c.note-2.ensures; latest = c.note.ensures },
      rw c.put.ensures (release_noted noted long inside c.row_of-row.ensures.1 (sound r)
          (record-event b c.args.e (c.requires.0, c.requires.1)) release),
    )

pub returns-in_default : goal.returns-in_default
returns-in_default c =
    let k = c.kind_of-kind.result in
    let is = is_release-kind _ c.args.e c.kind_of-kind.ensures.code_is in
    let none = is ∙ ne_eqb (kind_code k) 3 (kind_apart k Release c.in_default.not-Release) in
    let (noted, long, inside) = kept (goal.at.returns-in_default c).After-put in (
      record { section = c.note-2.ensures; latest = c.note.ensures },
      rw c.put.ensures (row_noted noted long inside c.row_of-row.ensures.1 none),
    )
