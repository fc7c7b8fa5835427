-- `closure::reach` meets its contract: the wanted events are a frontier, and it advances to theirs.
-- Assumes nothing.
use mathlib.Core.Path.{refl}
use borrow.Author.Rules.{rules}
use Rattle.model.specs.Recording.{decode_all}
use Rattle.laws.proofs.Turns.{settled-start}
use Rattle.recording.proofs.Accepted.{sound}
use Rattle.closure.proofs.Tops.{wanted_frontier, wanted-closes}
use Rattle.closure.proofs.reach.Goals as goal

pub advance-requires : goal.advance-requires
advance-requires c =
    let σ = decode_all c.args.trace.now.records.bytes.now in
    let want = c.wanted.result in
    rw c.requires
    (settled-start σ _ want _ (wanted_frontier σ c.args.words.now want (search rules) c.wanted.ensures)
    refl refl)

pub returns : goal.returns
returns c =
    let records = c.args.trace.now.records.bytes.now in
    let want = c.wanted.result in
    wanted-closes (decode_all records) c.args.words.now want (search rules) c.wanted.ensures
    (sound c.args.trace.now.records) _ _ c.advance.ensures.0
