-- Laws of the entries of patterns, of the output with them, and of what a search has found so far.
-- Assumes nothing.
use Rattle.std.specs.Prelude.{Result, Ok, Err}
use Prim.Native.Nat.{ℕ, ◌+◌, ◌*◌, ◌-◌, ◌≤◌, ◌<◌}
use mathlib.Core.Path.{◌≡◌, refl, sym, ap, subst, ◌∙◌}
use mathlib.Core.List.{List, [], ◌∷◌, ◌++◌, append-nil, append_assoc}
use native.Mathlib.Omega.{arith}
use native.Mathlib.Numerals.{add-one}
use lib.ListN.{length, get_or, take, length-append}
use lib.Seq.{sets, take-suc, length-take-le}
use Rattle.model.specs.Bytes.{encode, two_bytes}
use Rattle.model.specs.Calls.List.{entries}
use Rattle.laws.proofs.Bytes.{encode-length, encode-append}
use Rattle.laws.proofs.Parts.{sets-append}
use Rattle.entries.specs.declared.found.Found.{Found}
use Rattle.entries.specs.declared.Full.{Full}
use Rattle.entries.specs.Taken.{Taken, Adds}

-- ---- entries

-- The entries of joined patterns.
pub entries-append : (ps qs : List (List ℕ)) → entries (ps ++ qs) ≡ entries ps ++ entries qs
entries-append [] qs = refl
entries-append (p ∷ ps) qs =
    ap (λ (b : List ℕ). encode (length p ∷ p) ++ b) (entries-append ps qs)
    ∙ sym (append_assoc (encode (length p ∷ p)) (entries ps) (entries qs))

-- More patterns take the bytes of their entries.
pub entries-length : (ps qs : List (List ℕ))
    → length (entries (ps ++ qs)) ≡ length (entries ps) + length (entries qs)
entries-length ps qs = ap length (entries-append ps qs) ∙ length-append (entries ps) (entries qs)

-- The entry of a pattern is its size and its events,
pub entry_of : (p : List ℕ) → entries (p ∷ []) ≡ encode (length p ∷ p)
entry_of p = append-nil (encode (length p ∷ p))

-- two bytes each.
pub entry_length : (p : List ℕ) → length (entries (p ∷ [])) ≡ 2 * length p + 2
entry_length p =
    let two : 2 * length (length p ∷ p) ≡ 2 * length p + 2 = omega arith in
    ap length (entry_of p) ∙ encode-length (length p ∷ p) ∙ two

-- One event more is written behind the size.
pub entry_more : (out path : List ℕ) (i : ℕ) → i < length path
    → sets (sets out 2 (encode (take i path))) (2 * i + 2) (two_bytes (get_or path i 0))
    ≡ sets out 2 (encode (take (i + 1) path))
entry_more out path i h =
    let front = encode (take i path) in
    let long = length-take-le i path (omega arith) in
    let here : 2 * i + 2 ≡ 2 + length front = omega (arith, encode-length (take i path)) in
    rw (here, add-one i, take-suc path i 0 h, encode-append (take i path) (get_or path i 0 ∷ []))
    (sets-append out 2 front (two_bytes (get_or path i 0)))

-- ---- what is found

-- Nothing is found at first.
pub taken_none : {room : ℕ} {out : List ℕ} {f : Found}
    → (f.patterns ≡ 0) × (f.bytes ≡ 0) × (f.room ≡ room) → Taken room [] out out (Ok f)
taken_none q = record {
  long = refl;
  within = q.2;
  counted = (q.0, q.1);
  written = λ h. refl;
  over = tt;
}

-- Without patterns nothing is added.
pub adds_none : (out : List ℕ) (f : Found) → Adds [] out out f (Ok f)
adds_none out f = record { adds = λ ps out₀ t. rw (append-nil ps) t }

-- Patterns are added one after the other.
pub adds_trans : (xs ys : List (List ℕ)) (a b c : List ℕ) (f g : Found) (r : Result Found Full)
    → Adds xs a b f (Ok g) → Adds ys b c g r → Adds (xs ++ ys) a c f r
adds_trans xs ys a b c f g r x y = record { adds = both }
  where
    both : (ps : List (List ℕ)) (out₀ : List ℕ) → Taken f.room ps out₀ a (Ok f)
        → Taken f.room (ps ++ (xs ++ ys)) out₀ c r
    both ps out₀ t =
        let first = x.adds ps out₀ t in
        let same : g.room ≡ f.room = first.within in
        rw (← append_assoc ps xs ys)
        (subst (λ (room : ℕ). Taken room (ps ++ xs) out₀ b (Ok g) → Taken room ((ps ++ xs) ++ ys) out₀ c r)
        same (y.adds (ps ++ xs) out₀) first)

-- Once full, what is found takes more than the room, and it still does with more patterns.
pub taken_over : (room : ℕ) (ps qs : List (List ℕ)) (out₀ out : List ℕ) (e : Full)
    → Taken room ps out₀ out (Err e) → Taken room (ps ++ qs) out₀ out (Err e)
taken_over room ps qs out₀ out e t =
    record {
      long = t.long;
      within = tt;
      counted = tt;
      written = tt;
      over = omega (arith, t.over, entries-length ps qs);
    }

-- Once the room is exceeded, any further patterns may be added.
pub adds_over : (xs ys : List (List ℕ)) (a b : List ℕ) (f : Found) (e : Full) → Adds xs a b f (Err e)
    → Adds (xs ++ ys) a b f (Err e)
adds_over xs ys a b f e x =
    record {
      adds =
          λ ps out₀ t. rw (← append_assoc ps xs ys)
          (taken_over f.room (ps ++ xs) ys out₀ b e (x.adds ps out₀ t));
    }

-- ---- one pattern more

module _ (out p : List ℕ) (f : Found) where
  -- A pattern whose entry does not fit the room,
  pub adds_full : f.room - f.bytes < 2 * length p + 2 → (e : Full) → Adds (p ∷ []) out out f (Err e)
  adds_full r e =
      record {
        adds =
            λ ps out₀ t. record {
              long = t.long;
              within = tt;
              counted = tt;
              written = tt;
              over = omega (arith, t.counted, entry_length p, entries-length ps (p ∷ []));
            };
      }

  -- and one whose entry does: it is counted, and written behind those before where all of them fit the
  -- output.
  pub adds_one : (g : Found) → g.patterns ≡ f.patterns + 1 → g.bytes ≡ f.bytes + (2 * length p + 2)
      → g.room ≡ f.room → (out' : List ℕ) → length out' ≡ length out
      → (f.bytes + (2 * length p + 2) ≤ length out → out' ≡ sets out f.bytes (encode (length p ∷ p)))
      → Adds (p ∷ []) out out' f (Ok g)
  adds_one g patterns bytes room out' long w =
      let e = entry_length p in
      record {
        adds =
            λ ps out₀ t. let here : f.bytes ≡ 0 + length (entries ps) = omega (arith, t.counted) in record {
              long = long ∙ t.long;
              within = room ∙ t.within;
              counted = (
                omega (arith, patterns, t.counted, length-append ps (p ∷ [])),
                omega (arith, bytes, e, here, entries-length ps (p ∷ [])),
              );
              written =
                  λ fits. w (omega (arith, bytes)) ∙ ap (sets out f.bytes) (sym (entry_of p)) ∙ rw (
                    t.written (omega (arith, bytes)),
                    here,
                    entries-append ps (p ∷ []),
                  ) (sets-append out₀ 0 (entries ps) (entries (p ∷ [])));
              over = tt;
            };
      }
