-- `vectors::answers::answer_call` meets its contract: no word is longer than the line.
-- Assumes nothing.
use Rattle.std.proofs.Common.{arith, ap, ℕ, ◌≤◌, ◌-◌, length, drop, Bor, List}
use Rattle.std.proofs.lemmas.List.Elements.{All-take, All-drop, All-same}
use Rattle.std.proofs.lemmas.Result.{on_ok_weaker}
use Rattle.vectors.proofs.answers.answer_call.Goals as goal

pub returns-clause-answered : goal.returns-clause-answered
returns-clause-answered c =
    let most = length c.args.line.now in
    let words = c.as_slice.result.now in
    let within : Bor (List ℕ) → Type 0 = λ w. length w.now ≤ most in
    let is_line = ap length c.in_ok-line.ensures.cases.0 in
    let all = All-same within words c.in_ok-words.words.items c.as_slice.ensures.value
    (λ k d lt. omega (arith, is_line, c.in_ok-words.ensures k d lt)) in
    on_ok_weaker c.make_call.result
    (λ h. h most (All-take within (length words - 2) (drop 2 words) (All-drop within 2 words all)))
    c.make_call.ensures.answered
