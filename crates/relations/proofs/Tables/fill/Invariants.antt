-- `relations::Tables::fill` meets its contract: before each event the earlier ones are noted.
-- Assumes nothing.
use Rattle.model.specs.Recording.{decode_all}
use Rattle.relations.specs.Tables.{Noted, Walked}
use Rattle.relations.proofs.Tables.fill.Given as goal

abbrev pub invariant-loop-e : goal.invariant-loop-e
invariant-loop-e l = Walked (decode_all l.records.bytes.now) l.e l.walk × Noted
    (decode_all l.records.bytes.now) l.e l.self
