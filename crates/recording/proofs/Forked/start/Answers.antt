-- `recording::Forked::start` meets its contract: each return cites the law of its case. Assumes nothing.
use mathlib.Core.Path.{◌∙◌}
use mathlib.Core.Logic.{⊎_elim}
use Rattle.recording.proofs.Tasks.{new_is, not_own, start_refused, start_passed}
use Rattle.recording.proofs.Forked.start.Goals as goal

pub returns-then-u-t : goal.returns-then-u-t
returns-then-u-t c =
    let r = c.requires in
    let task = c.task-t.ensures.1 in
    start_refused r.3 r.4 r.2 (⊎_elim (λ q. not_own r.3 r.4 r.2 (q ∙ task))
    (λ y. new_is r.3 r.4 r.2 (rw task at y.0) c.is_blank-blank.ensures ∙ y.1) c.then-u-t.either)

pub returns : goal.returns
returns c =
    let r = c.requires in
    start_passed r.3 r.4 r.2
    (new_is r.3 r.4 r.2 (rw c.task-t.ensures.1 at c.if-u-t.false) c.if-not-blank.ensures)
