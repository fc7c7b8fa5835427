-- `pruning::ways_back` meets its contract: the table that is filled has the ways back. Assumes nothing.
use mathlib.Core.Path.{sym, ◌∙◌}
use Rattle.model.specs.Recording.{decode_all}
use Rattle.laws.specs.Returning.{Returning}
use Rattle.laws.proofs.Returning.{returning_spread}
use Rattle.recording.proofs.Accepted.{sound}
use Rattle.pruning.proofs.ways_back.Goals as goal
use Rattle.pruning.proofs.ways_back.Goals.{After-fill_back-back}

-- The table has the ways back.
filled : (c : After-fill_back-back) → Returning (decode_all c.args.trace.now.records.bytes.now) c.args.a
    c.args.count
    c.fill_back-back.result
filled c =
    let b = c.args.trace.now.records.bytes.now in
    returning_spread (decode_all b) (sound c.args.trace.now.records) c.args.a c.args.count
    c.args.lead.now _ c.requires.3 c.fill_back-back.ensures.0 (c.fill_back-back.ensures.1 ∙ c.held.ensures)

pub returns-then-not-lock_in_mask : goal.returns-then-not-lock_in_mask
returns-then-not-lock_in_mask c = record {
  back = c.fill_back-back.result;
  returning = filled (goal.at.returns-then-not-lock_in_mask c).After-fill_back-back;
  apart = sym c.lock_in_mask.ensures ∙ c.if-not-lock_in_mask.true;
}

pub returns : goal.returns
returns c = (
  filled (goal.at.returns c).After-fill_back-back,
  sym c.lock_in_mask.ensures ∙
      c.if-not-lock_in_mask.false,
)
