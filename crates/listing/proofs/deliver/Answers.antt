-- `listing::deliver` meets its contract: the entries are copied, or found again, or exceed the room. Assumes
-- nothing.
use Prim.Native.Nat.{ℕ, ◌≤◌}
use mathlib.Core.Path.{◌≡◌, sym, ap, ◌∙◌}
use mathlib.Core.List.{List, ◌++◌}
use native.Mathlib.Omega.{arith}
use lib.ListN.{length, take, drop, length-replicate, length-take}
use Rattle.laws.proofs.Parts.{sets-written}
use Rattle.listing.proofs.Answers.{delivered_copied}
use Rattle.listing.proofs.deliver.Goals as goal

pub returns : goal.returns
returns c =
    let f = c.in_ok-found in
    let found = f.ensures in
    let out = c.args.out.now in
    let buffer = length-replicate {A = ℕ} 65536 0 in
    let bytes = take f.found.bytes c.search_all.new.out in
    let size = length-take f.found.bytes c.search_all.new.out in
    let fits : f.found.bytes ≤ length out = omega (arith, f.found.roomy.1, found.within) in
    let room : length bytes ≤ length out = omega (arith, fits) in
    let long : length bytes ≡ f.found.bytes =
    omega (arith, size, c.search_all.auto.out, buffer, c.if-bytes-gt65536.false) in
    delivered_copied _ out _ _ f.found found fits
    (omega (arith, buffer, c.if-bytes-gt65536.false)) _
    (ap (λ (w : List ℕ). w ++ drop f.found.bytes out) c.copy_from_slice.ensures.after
    ∙ ap (λ (k : ℕ). bytes ++ drop k out) (sym long) ∙ sym (sets-written bytes out room))
