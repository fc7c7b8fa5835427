-- `vectors::text::digits_of` meets its contract: a byte has two digits. Assumes nothing.
use Rattle.std.proofs.Common.{◌≡◌, ◌∙◌, ◌*◌, length, string_bytes, ap}
use Rattle.std.proofs.lemmas.Result.{IfOk-weaker}
use Rattle.hex.specs.Hex.{lower_digits, encode_lower}
use Rattle.hex.proofs.HexLemmas.{length-encode_with}
use Rattle.vectors.proofs.text.digits_of.Goals as goal

pub returns : goal.returns
returns c =
    let bytes = c.args.bytes.now in
    IfOk-weaker c.encode.result (λ text. string_bytes text ≡ encode_lower bytes)
    (λ text. length (string_bytes text) ≡ 2 * length bytes)
    (λ text e. ap length e ∙ length-encode_with lower_digits bytes)
    c.encode.ensures
