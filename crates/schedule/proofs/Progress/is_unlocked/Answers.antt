-- `schedule::Progress::is_unlocked` meets its contract: each return cites the law of its case. Assumes
-- nothing.
use mathlib.Core.Path.{◌∙◌}
use Rattle.schedule.proofs.Asking.{unlocked_first, unlocked_late, unlocked_matched, matching_in}
use Rattle.schedule.proofs.Progress.is_unlocked.Goals as goal

pub returns-then-latest-eq0 : goal.returns-then-latest-eq0
returns-then-latest-eq0 c =
    unlocked_first _ _ c.args.e c.args.self.now.acquires c.object.result
    c.object.ensures.1 c.if-latest-eq0.true

pub returns-then-e-latest : goal.returns-then-e-latest
returns-then-e-latest c =
    unlocked_late _ _ c.args.e c.args.self.now.acquires c.object.result
    c.object.ensures.1 c.if-latest-eq0.false c.if-e-latest.true

pub is_listed-requires : goal.is_listed-requires
is_listed-requires c =
    matching_in c.args.trace.now.records.bytes.now _ _ c.matching.ensures
    (rw (← c.object.ensures.1) at c.requires.3)

pub returns : goal.returns
returns c =
    c.is_listed.ensures
    ∙ unlocked_matched _ _ c.args.e _ _ c.object.ensures.1 _ c.matching.ensures c.if-latest-eq0.false
    c.if-e-latest.false
