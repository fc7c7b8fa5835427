-- `recording::Records::read` meets its contract: what is not refused has its records after the header.
-- Assumes nothing.
use borrow.Author.Rules.{rules}
use Rattle.laws.proofs.Results.{passed_on, is_passed, passed_bytes}
use Rattle.laws.proofs.Questions.{part-trace, part_small, part_accepted}
use Rattle.recording.proofs.Records.read.Goals as goal

pub returns-in_err-check : goal.returns-in_err-check
returns-in_err-check c = rw (passed_on c.from_residual.result _ c.from_residual.ensures.1) (record {
  outcome = c.in_err-check.ensures;
  events = tt;
})

pub slice_bounds-result-count : goal.slice_bounds-result-count
slice_bounds-result-count c = passed_bytes _ c.in_ok-check.ensures

pub slice_bounds-result-start : goal.slice_bounds-result-start
slice_bounds-result-start c = let h = passed_bytes _ c.in_ok-check.ensures in search rules

pub invariant_of-result : goal.invariant_of-result
invariant_of-result c =
    let ok = is_passed _ c.in_ok-check.ensures in record {
      short = part_small c.args.recording.now ok (c.type_inv.recording 1).fits;
      accepted = part_accepted c.args.recording.now ok;
    }

pub returns-clause-events : goal.returns-clause-events
returns-clause-events c = part-trace c.args.recording.now
