-- The bytes of a part of extents.
use Rattle.std.proofs.Common.{◌≡◌, ◌+◌, ◌-◌, ◌≤◌, ℕ, zero, suc, Bool, true, false, List, [], ◌∷◌, ◌++◌, length, take, drop, min, refl, sym, ap, ◌∙◌, arith, drop-drop, length-drop}
use Rattle.std.specs.Prelude.{◌==◌, map, if◌then◌else◌}
use Rattle.std.specs.List.{range_with_len}
use Rattle.std.proofs.lemmas.List.{drop-take, take-take}
use Rattle.std.proofs.lemmas.List.Concat.{flat_map-append}
use Rattle.std.proofs.lemmas.List.FromFn.{length-map-range_with_len, take-map-range_with_len}
use Rattle.sdr_base.specs.ZcoObjects.{ExtentRow, ObjectRow}
use Rattle.zco_obj.specs.Links.{piece_of}
use Rattle.zco_obj.specs.declared.extent.ExtentPiece.{ExtentPiece}
use Rattle.zco_part.specs.Pieces.{asked, cut, extents_at, filled, pieces}
use Rattle.zco_pieces.specs.Bytes.{bytes_named, part_bytes}

-- numbers in a row without some first ones
drop_range : (f : ℕ → ℕ) (a n k : ℕ) → k ≤ n → drop k (map f (range_with_len a n)) ≡ map f (range_with_len (a + k) (n - k))
drop_range f a n zero le =
    let e : a ≡ a + 0 = omega arith in
    let m : n ≡ n - 0 = omega arith in
    ap (λ x. map f (range_with_len x n)) e ∙ ap (λ x. map f (range_with_len (a + 0) x)) m
drop_range f a zero (suc k) le = absurd (omega (arith, le))
drop_range f a (suc n) (suc k) le =
    let e : a + 1 + k ≡ a + suc k = omega arith in
    let m : n - k ≡ suc n - suc k = omega arith in
    drop_range f (a + 1) n k (omega (arith, le)) ∙ ap (λ x. map f (range_with_len x (n - k))) e ∙ ap (λ x. map f (range_with_len (a + suc k) x)) m

-- a part of a list before another, and of that
take_join : (n : ℕ) (xs ys : List ℕ) → take n (xs ++ ys) ≡ take n xs ++ take (n - length xs) ys
take_join n [] ys = let e : n ≡ n - length (let z : List ℕ = [] in z) = omega arith in none n ∙ ap (λ k. take n [] ++ take k ys) e
  where
    none : (n : ℕ) → take n ys ≡ take n [] ++ take n ys
    none zero = refl
    none (suc n) = refl
take_join zero (x ∷ xs) ys = let e : 0 ≡ 0 - length (x ∷ xs) = omega arith in ap (λ k. take k ys) e
take_join (suc n) (x ∷ xs) ys =
    let e : n - length xs ≡ suc n - suc (length xs) = omega arith in
    let l : suc (length xs) ≡ length (x ∷ xs) = omega arith in
    ap (λ (zs : List ℕ). x ∷ zs) (take_join n xs ys) ∙ ap (λ k. x ∷ (take n xs ++ take k ys)) (e ∙ ap (λ m. suc n - m) l)

drop_join : (n : ℕ) (xs ys : List ℕ) → drop n (xs ++ ys) ≡ drop n xs ++ drop (n - length xs) ys
drop_join n [] ys = let e : n ≡ n - length (let z : List ℕ = [] in z) = omega arith in ap (λ k. drop k ys) e ∙ nil n (drop (n - length (let z : List ℕ = [] in z)) ys)
  where
    nil : (n : ℕ) (zs : List ℕ) → zs ≡ drop n [] ++ zs
    nil zero zs = refl
    nil (suc n) zs = refl
drop_join zero (x ∷ xs) ys = let e : 0 ≡ 0 - length (x ∷ xs) = omega arith in ap (λ k. (x ∷ xs) ++ drop k ys) e
drop_join (suc n) (x ∷ xs) ys =
    let e : n - length xs ≡ suc n - suc (length xs) = omega arith in
    let l : suc (length xs) ≡ length (x ∷ xs) = omega arith in
    drop_join n xs ys ∙ ap (λ k. drop n xs ++ drop k ys) (e ∙ ap (λ m. suc n - m) l)

module _ (held : ℕ → ℕ → ℕ) where
  -- the bytes of one piece
  abbrev pub own_bytes : ExtentPiece → List ℕ
  own_bytes p = map (held p.of) (range_with_len p.offset p.bytes)

  pub own_length : (p : ExtentPiece) → length (own_bytes p) ≡ p.bytes
  own_length p = length-map-range_with_len (held p.of) p.offset p.bytes

  -- a piece that has no byte is left out
  filled_bytes : (p : ExtentPiece) → bytes_named held (filled p) ≡ own_bytes p
  filled_bytes p = by (p.bytes == 0) refl
    where
      none : (n : ℕ) → (n == 0) ≡ true → map (held p.of) (range_with_len p.offset n) ≡ []
      none zero e = refl
      none (suc n) e = absurd (grind (arith, e))

      alone : (xs : List ℕ) → xs ++ [] ≡ xs
      alone [] = refl
      alone (x ∷ xs) = ap (λ (ys : List ℕ). x ∷ ys) (alone xs)

      by : (b : Bool) → (p.bytes == 0) ≡ b → bytes_named held (if b then [] else p ∷ []) ≡ own_bytes p
      by true e = sym (none p.bytes e)
      by false e = alone (own_bytes p)

  -- a piece is cut to its bytes from one place on and before another
  cut_bytes : (from to : ℕ) (p : ExtentPiece) → from ≤ to → own_bytes (cut from to p) ≡ take (to - from) (drop from (own_bytes p))
  cut_bytes from to p le = by (min from p.bytes) refl
    where
      by : (first : ℕ) → min from p.bytes ≡ first →
          map (held p.of) (range_with_len (p.offset + min from p.bytes) (min to p.bytes - min from p.bytes)) ≡ take (to - from) (drop from (own_bytes p))
      by first e =
          let l = own_length p in
          let at = drop_range (held p.of) p.offset p.bytes (min from p.bytes) (omega arith) in
          let same : drop from (own_bytes p) ≡ drop (min from p.bytes) (own_bytes p) = dropped from (own_bytes p) ∙ ap (λ n. drop (min from n) (own_bytes p)) l in
          let cutoff : min to p.bytes - min from p.bytes ≡ min (to - from) (p.bytes - min from p.bytes) = omega (arith, le) in
          ap (λ n. map (held p.of) (range_with_len (p.offset + min from p.bytes) n)) cutoff
          ∙ sym (take-map-range_with_len (held p.of) (p.offset + min from p.bytes) (p.bytes - min from p.bytes) (min (to - from) (p.bytes - min from p.bytes)) (omega arith))
          ∙ taken (to - from) (p.bytes - min from p.bytes) (map (held p.of) (range_with_len (p.offset + min from p.bytes) (p.bytes - min from p.bytes)))
          (length-map-range_with_len (held p.of) (p.offset + min from p.bytes) (p.bytes - min from p.bytes))
          ∙ ap (take (to - from)) (sym at ∙ sym same)
        where
          dropped : (n : ℕ) (xs : List ℕ) → drop n xs ≡ drop (min n (length xs)) xs
          dropped zero xs = let e : 0 ≡ min 0 (length xs) = omega arith in ap (λ k. drop k xs) e
          dropped (suc n) [] = none (min (suc n) (length (let z : List ℕ = [] in z)))
            where
              none : (n : ℕ) → (let z : List ℕ = [] in z) ≡ drop n []
              none zero = refl
              none (suc n) = refl
          dropped (suc n) (x ∷ xs) =
              let e : suc (min n (length xs)) ≡ min (suc n) (length (x ∷ xs)) = omega arith in
              dropped n xs ∙ ap (λ k. drop k (x ∷ xs)) e

          taken : (n m : ℕ) (xs : List ℕ) → length xs ≡ m → take (min n m) xs ≡ take n xs
          taken n m xs l = ap (λ k. take (min n k) xs) (sym l) ∙ whole n xs
            where
              whole : (n : ℕ) (xs : List ℕ) → take (min n (length xs)) xs ≡ take n xs
              whole zero xs = let e : min 0 (length xs) ≡ 0 = omega arith in ap (λ k. take k xs) e
              whole (suc n) [] = none (min (suc n) (length (let z : List ℕ = [] in z)))
                where
                  none : (n : ℕ) → take n [] ≡ (let z : List ℕ = [] in z)
                  none zero = refl
                  none (suc n) = refl
              whole (suc n) (x ∷ xs) =
                  let e : min (suc n) (length (x ∷ xs)) ≡ suc (min n (length xs)) = omega arith in
                  ap (λ k. take k (x ∷ xs)) e ∙ ap (λ (ys : List ℕ). x ∷ ys) (whole n xs)

  -- the bytes of what extents name from one place on and before another are those of all that they name
  pub pieces_bytes : (from to : ℕ) (es : List ExtentRow) → from ≤ to →
      bytes_named held (pieces from to es) ≡ take (to - from) (drop from (bytes_named held (map piece_of es)))
  pieces_bytes from to [] le = none (to - from) from
    where
      none : (n k : ℕ) → (let z : List ℕ = [] in z) ≡ take n (drop k [])
      none zero zero = refl
      none zero (suc k) = refl
      none (suc n) zero = refl
      none (suc n) (suc k) = refl
  pieces_bytes from to (e ∷ es) le =
      let p = piece_of e in
      let B = own_bytes p in
      let R = bytes_named held (map piece_of es) in
      let l = own_length p in
      let rest = pieces (from - e.length) (to - e.length) es in
      let n : (to - e.length) - (from - e.length) ≡ (to - from) - length (drop from B) =
      (let d = length-drop from B in omega (arith, le, d, l)) in
      flat_map-append own_bytes (filled (cut from to p)) rest
      ∙ ap (λ xs. xs ++ bytes_named held rest) (filled_bytes (cut from to p) ∙ cut_bytes from to p le)
      ∙ ap (λ xs. take (to - from) (drop from B) ++ xs) (pieces_bytes (from - e.length) (to - e.length) es (omega (arith, le)))
      ∙ ap (λ k. take (to - from) (drop from B) ++ take k (drop (from - e.length) R)) n
      ∙ sym (take_join (to - from) (drop from B) (drop (from - e.length) R))
      ∙ ap (λ k. take (to - from) (drop from B ++ drop (from - k) R)) (sym l)
      ∙ ap (take (to - from)) (sym (drop_join from B R))

  -- a part of a part
  pub asked_bytes : (offset count : ℕ) (row : ObjectRow) → offset + count ≤ row.part_length →
      bytes_named held (asked offset count row) ≡ take count (drop offset (part_bytes held row))
  asked_bytes offset count row inside =
      let B = bytes_named held (map piece_of row.extents) in
      let from = row.part_offset + offset in
      let n : from + count - from ≡ count = omega arith in
      let l : row.part_length ≡ offset + (row.part_length - offset) = omega (arith, inside) in
      pieces_bytes from (from + count) row.extents (omega arith)
      ∙ ap (λ k. take k (drop from B)) n
      ∙ ap (take count) (sym (drop-drop offset row.part_offset B))
      ∙ sym (take-take count (row.part_length - offset) (drop offset (drop row.part_offset B)) (omega (arith, inside)))
      ∙ ap (take count) (sym (drop-take offset (row.part_length - offset) (drop row.part_offset B))
      ∙ ap (λ k. drop offset (take k (drop row.part_offset B))) (sym l))

-- extents of pieces name these
pub pieces_placed : (addrs : List ℕ) (ps : List ExtentPiece) → length addrs ≡ length ps → map piece_of (extents_at addrs ps) ≡ ps
pieces_placed [] [] e = refl
pieces_placed [] (p ∷ ps) e = absurd (omega (arith, e))
pieces_placed (a ∷ as') [] e = absurd (omega (arith, e))
pieces_placed (a ∷ as') (p ∷ ps) e = ap (λ (qs : List ExtentPiece). p ∷ qs) (pieces_placed as' ps (omega (arith, e)))
