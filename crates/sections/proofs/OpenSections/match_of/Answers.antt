-- `sections::OpenSections::match_of` meets its contract: an outer release has the latest outer acquire of its
-- lock. Assumes nothing.
use mathlib.Core.Path.{refl}
use native.Mathlib.Omega.{arith}
use borrow.Author.Rules.{rules}
use Rattle.sections.specs.declared.Kind.TheVariants.{Release, Uncounted}
use Rattle.sections.proofs.KindOf.{kind_apart}
use Rattle.sections.proofs.Locks.{of_accepted, release_lock, release_match, uncounted_match, no_match}
use Rattle.sections.proofs.OpenSections.match_of.Goals as goal

pub bounds-self-object : goal.bounds-self-object
bounds-self-object c =
    release_lock (of_accepted c.args.records.now c.requires) c.object.ensures (rw c.in-Release.is refl)

pub returns-in-Release : goal.returns-in-Release
returns-in-Release c =
    release_match (of_accepted c.args.records.now c.requires) c.object.ensures c.args.self.now.locks
    (search rules) c.requires.5 (rw c.in-Release.is refl)

pub returns-in-Uncounted : goal.returns-in-Uncounted
returns-in-Uncounted c = (
  omega arith,
  uncounted_match (of_accepted c.args.records.now c.requires) (rw c.in-Uncounted.is refl),
)

pub returns-in_default : goal.returns-in_default
returns-in_default c =
    let d = c.in_default in (
      omega arith,
      no_match (of_accepted c.args.records.now c.requires) (kind_apart c.args.k Release d.not-Release)
          (kind_apart c.args.k Uncounted d.not-Uncounted),
    )
