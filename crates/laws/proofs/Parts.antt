-- Laws of a part that runs to the end, `&s[a..]` and `&mut s[a..]`, and of `sets l i vs`, the list l with vs
-- stored from i on. Assumes nothing.
use Prim.Native.Nat.{ℕ, suc, ◌+◌, ◌-◌, ◌≤◌}
use mathlib.Core.Path.{◌≡◌, sym, ap, ap₂, ◌∙◌}
use mathlib.Core.List.{List, [], ◌∷◌, ◌++◌, append-nil}
use native.Mathlib.Omega.{arith}
use native.Mathlib.Nat.{zero-add, add-zero, add-suc, le_of_eq, le_refl, le-add_right}
use lib.ListN.{length, take, drop, set, length-drop, drop_of_length-le, take-append-drop}
use lib.Seq.{sets, sets-eq, take_all, take-set-le, drop-set-add}
use Rattle.model.specs.Bytes.{written}

module _ {A : Type 0} where
  -- ---- a part to the end

  -- What a callee is handed of a part to the end.
  pub part-from : (a : ℕ) (xs : List A) → take (length xs - a) (drop a xs) ≡ drop a xs
  part-from a xs = take_all (length xs - a) (drop a xs) (le_of_eq (length-drop a xs))

  -- What the whole is after a callee left ys in a part to the end.
  pub put-from : (a : ℕ) (xs ys : List A)
      → take a xs ++ (ys ++ drop (length xs - a) (drop a xs)) ≡ take a xs ++ ys
  put-from a xs ys = rw (drop_of_length-le (drop a xs) (le_of_eq (length-drop a xs)), append-nil)

  -- ---- stores one after the other

  -- Stores one after the other are one.
  pub sets-append : (l : List A) (i : ℕ) (xs ys : List A)
      → sets (sets l i xs) (i + length xs) ys ≡ sets l i (xs ++ ys)
  sets-append l i [] ys = rw (add-zero i)
  sets-append l i (x ∷ xs) ys =
      let e : i + suc (length xs) ≡ suc i + length xs = omega arith in
      rw e (sets-append (set l i x) (suc i) xs ys)

  -- Stores into what lies from a on.
  pub sets-drop : (a : ℕ) (l : List A) (i : ℕ) (ys : List A)
      → take a l ++ sets (drop a l) i ys ≡ sets l (a + i) ys
  sets-drop a l i [] = take-append-drop a l
  sets-drop a l i (y ∷ ys) =
      ap₂ (λ (p q : List A). p ++ sets q (suc i) ys)
      (sym (take-set-le a l (a + i) y (le-add_right a i))) (sym (drop-set-add a l i y))
      ∙ sets-drop a (set l (a + i) y) (suc i) ys
      ∙ ap (λ (k : ℕ). sets (set l (a + i) y) k ys) (add-suc a i)

  -- A callee that was lent the part from a on and stored ys at its front: said of the whole.
  pub sets_part : (a : ℕ) (l r ys : List A) → r ≡ sets (take (length l - a) (drop a l)) 0 ys
      → take a l ++ (r ++ drop (length l - a) (drop a l)) ≡ sets l a ys
  sets_part a l r ys h =
      put-from a l r
      ∙ ap (λ (t : List A). take a l ++ t) (h ∙ ap (λ (t : List A). sets t 0 ys) (part-from a l))
      ∙ sets-drop a l 0 ys ∙ ap (λ (k : ℕ). sets l k ys) (add-zero a)

-- Stores at the front of an output that has room.
pub sets-written : (bs out : List ℕ) → length bs ≤ length out → sets out 0 bs ≡ written bs out
sets-written bs out h =
    let room : 0 + length bs ≤ length out = omega arith in
    sets-eq bs out 0 room ∙ ap (λ (n : ℕ). bs ++ drop n out) (zero-add (length bs))

-- What a copy leaves is stored at the front.
pub sets_copied : (src dst left : List ℕ) → length src ≤ length dst
    → left ≡ take (length src) src ++ drop (length src) dst → left ≡ sets dst 0 src
sets_copied src dst left h q =
    q ∙ rw (take_all (length src) src (le_refl (length src))) (sym (sets-written src dst h))
