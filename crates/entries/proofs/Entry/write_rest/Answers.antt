-- `entries::Entry::write_rest` meets its contract: what is stored in the rest is stored in the whole.
-- Assumes nothing.
use mathlib.Core.List.{◌∷◌}
use lib.ListN.{length}
use Rattle.model.specs.Bytes.{encode}
use Rattle.laws.proofs.Parts.{sets_part}
use Rattle.entries.proofs.Entry.write_rest.Goals as goal

pub returns : goal.returns
returns c =
    let a = c.args in
    let w = c.write in
    let events = a.self.now.events.now in
    λ _. sets_part a.at a.out.now w.new.out (encode (length events ∷ events)) w.ensures
