-- `printing::put` meets its contract: the part behind the position is what was copied. Assumes nothing.
use Rattle.std.proofs.Common.{◌≡◌, ◌∙◌, ◌+◌, ◌-◌, ◌≤◌, ℕ, List, ◌++◌, length, take, drop, arith, sym}
use Rattle.std.proofs.Common.{append_assoc}
use Rattle.std.proofs.Math.Seq.{drop-drop}
use Rattle.std.proofs.lemmas.List.Edits.{sets, sets-eq}
use Rattle.printing.proofs.put.Goals as goal

-- What a copy left in a part of a text, said of the whole.
copied : (at : ℕ) (text left bytes : List ℕ) → at + length bytes ≤ length text → left ≡ bytes
    → take at text ++ (left ++ drop (at + length bytes - at) (drop at text)) ≡ sets text at bytes
copied at text left bytes h e =
    let size : at + length bytes - at ≡ length bytes = omega arith in
    rw (size, e, drop-drop (length bytes) at text)
    (sym (sets-eq bytes text at h ∙ append_assoc (take at text) bytes (drop (at + length bytes) text)))

pub returns : goal.returns
returns c = (
  omega arith,
  copied c.args.at c.args.text.now c.copy_from_slice.new.self c.args.bytes.now c.requires
      c.copy_from_slice.ensures.after,
)
