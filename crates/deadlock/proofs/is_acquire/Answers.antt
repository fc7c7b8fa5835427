-- `deadlock::is_acquire` meets its contract: the operation, and the object. Assumes nothing.
use Rattle.model.specs.Recording.{decode_all}
use Rattle.laws.proofs.Questions.{events_sound}
use Rattle.deadlock.proofs.Chains.{acquires-not, acquires-task, acquires_own}
use Rattle.recording.specs.declared.Op.TheVariants.{Acquire}
use Rattle.recording.proofs.Laws.{code_apart}
use mathlib.Core.Path.{refl}
use borrow.Author.Tests.{le-ltb}
use Rattle.deadlock.proofs.is_acquire.Goals as goal

pub returns-then-l-lt64 : goal.returns-then-l-lt64
returns-then-l-lt64 c =
    rw c.in_mask.ensures
    (acquires_own (decode_all c.args.records.now) (events_sound c.args.records.now c.requires.2)
    c.args.e c.in-Acquire.ensures c.object-l.ensures.1 refl c.if-l-lt64.true c.requires.3)

pub returns-else-l-lt64 : goal.returns-else-l-lt64
returns-else-l-lt64 c =
    rw (le-ltb c.object-l.result 64 c.if-l-lt64.false)
    (acquires-task (decode_all c.args.records.now) (events_sound c.args.records.now c.requires.2)
    c.args.e c.in-Acquire.ensures c.object-l.ensures.1 c.if-l-lt64.false)

pub returns-in_default : goal.returns-in_default
returns-in_default c =
    acquires-not (decode_all c.args.records.now) (events_sound c.args.records.now c.requires.2)
    c.args.e c.operation.ensures (code_apart _ Acquire c.in_default.not-Acquire)
