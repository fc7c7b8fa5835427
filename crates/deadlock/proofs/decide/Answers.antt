-- `deadlock::decide` meets its contract: question 10, and then the frontier of the predecessors. Assumes
-- nothing.
use mathlib.Core.Path.{◌≡◌, sym}
use mathlib.Core.Bool.{cond}
use borrow.Author.Rules.{rules}
use Rattle.std.specs.Prelude.{Some}
use Rattle.model.specs.declared.Verdict.TheVariants.{Not, Deadlock}
use Rattle.model.specs.Bytes.{numbers}
use Rattle.model.specs.Recording.{decode_all}
use Rattle.laws.specs.Frontier.{Before}
use Rattle.laws.proofs.Results.{passed_on}
use Rattle.deadlock.specs.Judged.{judged}
use Rattle.deadlock.proofs.Verdicts.{judged-none, judged-verdict}
use Rattle.deadlock.proofs.decide.Goals as goal
use Rattle.deadlock.proofs.decide.Goals.{After-avoids}

-- The frontier is that of the lent pattern.
reached : (c : After-avoids) → Before (decode_all c.args.trace.now.records.bytes.now)
    (numbers c.args.bytes.now) c.reach.new.frontier.front c.reach.new.frontier.latest
reached c =
    let (trace, bytes) = c.in_ok-pattern.ensures.gives in
    rw (trace, bytes) at c.reach.ensures

-- What the test of its events tells is the verdict.
decides : (c : After-avoids) → judged (decode_all c.args.trace.now.records.bytes.now) c.args.bytes.now
    ≡ Some (cond c.avoids.result Deadlock Not)
decides c =
    let (trace, bytes) = c.in_ok-pattern.ensures.gives in
    let ns = numbers c.in_ok-pattern.pattern.bytes.now in
    let v = c.avoids.ensures ns (sym c.len.ensures, λ i e h k. search rules) in
    judged-verdict _ c.args.bytes.now (sym c.in_ok-pattern.ensures.lends) _ _ c.avoids.result
    (reached c) (rw (trace, bytes) at v)

pub returns-in_err-pattern : goal.returns-in_err-pattern
returns-in_err-pattern c =
    let none = c.in_err-pattern.ensures in
    rw (passed_on c.from_residual.result _ c.from_residual.ensures.1)
    (none.gives, judged-none _ c.args.bytes.now (sym none.lends))

pub returns-then-avoids : goal.returns-then-avoids
returns-then-avoids c =
    let z = reached (goal.at.returns-then-avoids c).After-avoids in (
      rw c.if-avoids.true at (decides (goal.at.returns-then-avoids c).After-avoids),
      record { long = z.settled.front_ok.long; members = z.members },
    )

pub returns : goal.returns
returns c = rw c.if-avoids.false at (decides (goal.at.returns c).After-avoids)
