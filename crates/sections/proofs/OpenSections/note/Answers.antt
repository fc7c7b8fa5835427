-- `sections::OpenSections::note` meets its contract: each return is the case of a kind. Assumes nothing.
use mathlib.Core.Path.{refl}
use Rattle.sections.specs.declared.Kind.TheVariants.{Acquire, Release, Uncounted}
use Rattle.sections.proofs.KindOf.{kind_apart}
use Rattle.sections.proofs.Locks.{of_accepted, acquire_lock, release_lock, acquire_noted, release_noted}
use Rattle.sections.proofs.Locks.{access_noted}
use Rattle.sections.proofs.OpenSections.note.Goals as goal

pub overflow_shl-self : goal.overflow_shl-self
overflow_shl-self c =
    acquire_lock (of_accepted c.args.records.now c.requires) c.object-l.ensures (rw c.in-Acquire.is refl)

pub bounds-self-l : goal.bounds-self-l
bounds-self-l c =
    acquire_lock (of_accepted c.args.records.now c.requires) c.object-l.ensures (rw c.in-Acquire.is refl)

pub returns-in-Acquire : goal.returns-in-Acquire
returns-in-Acquire c =
    acquire_noted (of_accepted c.args.records.now c.requires) c.object-l.ensures c.requires.5
    c.task-t.ensures (rw c.in-Acquire.is refl)

pub overflow_shl-self-in-Release : goal.overflow_shl-self-in-Release
overflow_shl-self-in-Release c =
    release_lock (of_accepted c.args.records.now c.requires) c.object-l.ensures
    (rw c.in-Release.is refl)

pub returns-in-Release : goal.returns-in-Release
returns-in-Release c =
    release_noted (of_accepted c.args.records.now c.requires) c.object-l.ensures c.requires.5
    c.task-t.ensures (rw c.in-Release.is refl)

pub returns-in_default : goal.returns-in_default
returns-in_default c =
    let d = c.in_default in
    access_noted (of_accepted c.args.records.now c.requires) c.object-l.ensures c.requires.5
    (kind_apart c.args.k Acquire d.not-Acquire) (kind_apart c.args.k Release d.not-Release)
    (kind_apart c.args.k Uncounted d.not-Uncounted)
