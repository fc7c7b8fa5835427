-- `recording::Forked::ask` meets its contract: what the event does is asked first, and then whether its task
-- is over. Assumes nothing.
use Rattle.recording.proofs.Walk.{answer_over, answer_passed}
use Rattle.recording.proofs.Forked.ask.Goals as goal

pub returns-then-over-ne0-clause-fault : goal.returns-then-over-ne0-clause-fault
returns-then-over-ne0-clause-fault c =
    answer_over c.requires.2 c.task-t.ensures c.in_ok-ask_object.ensures c.if-over-ne0.true

pub returns : goal.returns
returns c =
    let passed = answer_passed c.requires.2 c.task-t.ensures c.in_ok-ask_object.ensures c.if-over-ne0.false in
    record { fault = passed.0; next = passed.1 }
