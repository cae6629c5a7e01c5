-- The pieces that an object is cut into fit its bytes, and cover them.
use Rattle.std.proofs.Common.{◌≡◌, ◌+◌, ◌*◌, ◌/◌, ◌%◌, ◌≤◌, ◌<◌, ℕ, true, List, [], ◌∷◌, length, take, drop, refl, sym, ap, ◌∙◌, arith, length-append, length-drop, take-take}
use Rattle.std.specs.Int.{div_ceil}
use Rattle.std.specs.Prelude.{map}
use Rattle.std.specs.List.{range_with_len}
use Rattle.std.proofs.Math.Nat.{mul-le-mul_right}
use Rattle.std.proofs.lemmas.Grind.{div_ceil_times}
use Rattle.std.proofs.lemmas.List.{length-take}
use Rattle.std.proofs.lemmas.List.Sums.{sum_by-cons}
use Rattle.std.proofs.lemmas.Nat.{div-add-mod', mod_below}
use Rattle.sdr_base.specs.ZcoObjects.{ExtentRow, ObjectRow}
use Rattle.zco_obj.specs.Kept.{ObjectFits, extents_length}
use Rattle.zco_obj.specs.Links.{piece_of}
use Rattle.zco_obj.specs.declared.extent.ExtentPiece.{ExtentPiece}
use Rattle.zco_part.specs.Pieces.{asked, extents_at, whole_row}
use Rattle.zco_pieces.specs.Bytes.{FitsText, bytes_named, part_bytes}
use Rattle.zco_pieces.specs.Cutting.{HasPiece}
use Rattle.zco_pieces.specs.Places.{cut_length, lies_in}
use Rattle.zco_pieces.specs.Runs.{IsCloneOf}
use Rattle.zco_pieces.specs.declared.piece.Piece.{Piece}
use Rattle.zco_pieces.proofs.BytesLemmas.{asked_bytes, own_length, pieces_placed}
use Rattle.zco_pieces.proofs.PlaceLemmas.{lies}

-- extents have as many bytes as they name
pub named_length : (held : ℕ → ℕ → ℕ) (es : List ExtentRow) → length (bytes_named held (map piece_of es)) ≡ extents_length es
named_length held [] = refl
named_length held (e ∷ es) =
    let own = own_length held (piece_of e) in
    let a = length-append (map (held e.source) (range_with_len e.offset e.length)) (bytes_named held (map piece_of es)) in
    let s = sum_by-cons (λ (x : ExtentRow). x.length) e es in
    let ih = named_length held es in
    omega (arith, own, a, s, ih)

-- an object's part has as many bytes as it says
pub part_length : (held : ℕ → ℕ → ℕ) (row : ObjectRow) → ObjectFits row → length (part_bytes held row) ≡ row.part_length
part_length held row f =
    let B = bytes_named held (map piece_of row.extents) in
    let t = length-take row.part_length (drop row.part_offset B) in
    let d = length-drop row.part_offset B in
    let n = named_length held row.extents in
    let p = f.part in
    omega (arith, t, d, n, p)

-- the piece of a number begins within the object
pub piece_begins : (total most k : ℕ) → HasPiece total most k → k * most < total
piece_begins total most k h =
    let c = div_ceil_times total most h.some in
    let b = h.below in
    let m = mul-le-mul_right most (let z : k + 1 ≤ div_ceil total most = omega (arith, b) in z) in
    let above = c.1 in
    omega (arith, m, above)

-- a clone of so many bytes has these
pub clone_length : (held : ℕ → ℕ → ℕ) (row clone : ObjectRow) (offset count : ℕ) → ObjectFits row → offset + count ≤ row.part_length →
    IsCloneOf row offset count clone → clone.part_length ≡ count
clone_length held row clone offset count f inside c =
    let ps = asked offset count row in
    let is = ap (λ (r : ObjectRow). r.part_length) c.is in
    let n = named_length held (extents_at c.addrs ps) in
    let p = ap (λ (qs : List ExtentPiece). length (bytes_named held qs)) (pieces_placed c.addrs ps c.each) in
    let b = ap (length {A = ℕ}) (asked_bytes held offset count row inside) in
    let t = length-take count (drop offset (part_bytes held row)) in
    let d = length-drop offset (part_bytes held row) in
    let l = part_length held row f in
    omega (arith, is, n, p, b, t, d, l, inside)

-- so the piece of a number fits the bytes of the object
pub cut_fits : (held : ℕ → ℕ → ℕ) (row clone : ObjectRow) (most k : ℕ) (piece : Piece) → ObjectFits row → HasPiece row.part_length most k →
    IsCloneOf row (k * most) (cut_length row.part_length most k) clone → piece.offset ≡ k * most → piece.total ≡ row.part_length →
    FitsText held (part_bytes held row) piece clone
cut_fits held row clone most k piece f h c at total =
    let n = cut_length row.part_length most k in
    let b = piece_begins row.part_length most k h in
    let inside : k * most + n ≤ row.part_length = omega (arith, b) in
    let l = part_length held row f in
    let long = clone_length held row clone (k * most) n f inside c in
    let ps = asked (k * most) n row in
    record {
      total = total ∙ sym l;
      inside = omega (arith, at, long, inside, l);
      bytes =
          ap (part_bytes held) c.is
          ∙ ap (λ (qs : List ExtentPiece). take (whole_row row.account (extents_at c.addrs ps)).part_length (drop 0 (bytes_named held qs))) (pieces_placed c.addrs ps c.each)
          ∙ ap (λ m. take m (drop 0 (bytes_named held ps))) (sym (ap (λ (r : ObjectRow). r.part_length) c.is) ∙ long)
          ∙ ap (take n) (from_begin (bytes_named held ps))
          ∙ ap (take n) (asked_bytes held (k * most) n row inside)
          ∙ take-take n n (drop (k * most) (part_bytes held row)) (omega arith)
          ∙ ap (λ m. take m (drop (k * most) (part_bytes held row))) (sym long)
          ∙ ap (λ m. take clone.part_length (drop m (part_bytes held row))) (sym at);
    }
  where
    from_begin : (xs : List ℕ) → drop 0 xs ≡ xs
    from_begin [] = refl
    from_begin (x ∷ xs) = refl

-- and each place is covered by the piece whose number is so many times the most below it
pub cut_covers : (total most place : ℕ) → 1 ≤ most → place < total →
    HasPiece total most (place / most) × (lies_in (place / most * most) (cut_length total most (place / most)) place ≡ true)
cut_covers total most place some below =
    let d = div-add-mod' place most in
    let r = mod_below place most some in
    let c = div_ceil_times total most some in
    let reach = c.0 in (
      record { some = some; below = by (place / most) (div_ceil total most) d r reach },
      lies (place / most * most) (cut_length total most (place / most)) place (omega (arith, d)) (omega (arith, d, r, below)),
    )
  where
    by : (k n : ℕ) → k * most + place % most ≡ place → place % most < most → total ≤ n * most → k < n
    by k n d r reach = less k n (λ le. (let m = mul-le-mul_right most le in absurd (omega (arith, m, d, reach, below))))
      where
        less : (k n : ℕ) → (n ≤ k → ⊥) → k < n
        less k n above = grind (arith, above)
