-- `recording::Forked::ask_object` meets its contract: an access or a record of a lock leaves starts
-- and joins. Assumes nothing.
use Rattle.recording.proofs.Tasks.{lives_plain}
use Rattle.recording.proofs.Forked.ask_object.Goals as goal

pub returns-in-Passed : goal.returns-in-Passed
returns-in-Passed c =
    let (plain, passes, done) = rw c.in-Passed.is at c.in_ok-ask.ensures in
    (passes, record { past = done; lives = lives_plain plain c.requires.2.lives })
