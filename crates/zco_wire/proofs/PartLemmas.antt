-- The part of an object, and how far its pieces reach.
use Rattle.std.proofs.Common.{◌≡◌, ◌≢◌, ◌≤◌, ◌<◌, ◌+◌, ◌-◌, ◌*◌, ◌^◌, ℕ, List, [], ◌∷◌, ◌++◌, Option, length, drop, ap, ◌∙◌, arith, length-append}
use Rattle.std.specs.Prelude.{All}
use Rattle.std.proofs.lemmas.List.{length-drop, length-take}
use Rattle.std.proofs.lemmas.List.Elements.{All-head, All-tail}
use Rattle.sdr_base.specs.Blocks.{Blocks}
use Rattle.sdr_base.specs.Media.{Told}
use Rattle.sdr_base.specs.Words.{HasWord}
use Rattle.sdr_base.specs.ZcoObjects.{CapsuleRow, ExtentRow, ObjectRow}
use Rattle.sdr_gather.specs.Gathering.{AreGathered}
use Rattle.sdr_gather.proofs.GatheringLemmas.{length-told}
use Rattle.sdr_model.proofs.PiecesLemmas.{length-piece_told, pieces_told-cut}
use Rattle.sdr_model.specs.Pieces.{cut_pieces, piece_told, pieces_told}
use Rattle.sdr_model.specs.declared.piece.Piece.{Piece}
use Rattle.sdr_model.specs.declared.piece.Piece.TheVariants as pieces
use Rattle.sdr_model.specs.declared.zco.Part.{Part}
use Rattle.zco_obj.specs.Kept.{CapsuleFits, SomeObject}
use Rattle.zco_obj.proofs.KeptLemmas.{extents_most, object_word}
use Rattle.zco_wire.specs.Naming.{AreNamed, KeepsWire, head_pieces, wire_of}
use Rattle.zco_wire.specs.Seeing.{SeesPart}
use Rattle.zco_wire.proofs.NamingLemmas.{named_length}

-- so many bytes from a place on
abbrev part_of : ℕ → ℕ → Part
part_of offset length = record { offset = offset; length = length }

-- the words of an object's part
pub sees_part : {blocks : Blocks} {object : ℕ} (offset length : ℕ) → HasWord (blocks object) 7 offset → HasWord (blocks object) 8 length →
    SeesPart blocks object (record { offset = offset; length = length })
sees_part offset length a b = record {
  sees = λ row k.
      ap (λ n. part_of n length) (object_word k 7 offset (omega arith) a)
      ∙ ap (part_of row.part_offset) (object_word k 8 length (omega arith) b);
}

pub part_small : {blocks : Blocks} {object : ℕ} (offset length : ℕ) → SomeObject blocks object → HasWord (blocks object) 7 offset →
    HasWord (blocks object) 8 length → offset + length < 2 ^ 63
part_small offset length some a b =
    let o = object_word some.keeps 7 offset (omega arith) a in
    let l = object_word some.keeps 8 length (omega arith) b in
    let p = some.keeps.fits.part in
    let m = extents_most some.row.extents some.keeps.fits.extents in
    let n = some.keeps.fits.few in omega (arith, o, l, p, m, n)

-- as many bytes as there are ahead are given at most
pub gathered_ends : {told : Option Told} (ps : List Piece) (place count given : ℕ) (bytes : List ℕ) → AreGathered told (cut_pieces place count ps) bytes →
    length bytes ≡ given → given ≢ 0 → place + given ≤ length (pieces_told ps)
gathered_ends ps place count given bytes a long nz =
    let n = length-told (pieces_told (cut_pieces place count ps)) bytes a.known in
    let cut = ap length (pieces_told-cut place count ps) in
    let t = length-take count (drop place (pieces_told ps)) in
    let d = length-drop place (pieces_told ps) in
    by (length (pieces_told ps)) (omega (arith, n, cut, t, d, long))
  where
    by : (all : ℕ) → given ≤ all - place → place + given ≤ all
    by all le = omega (arith, le, nz)

-- the bytes of pieces
told-cons : (p : Piece) (ps : List Piece) → length (pieces_told (p ∷ ps)) ≡ length (piece_told p) + length (pieces_told ps)
told-cons p ps = length-append (piece_told p) (pieces_told ps)

told-append : (ps qs : List Piece) → length (pieces_told (ps ++ qs)) ≡ length (pieces_told ps) + length (pieces_told qs)
told-append [] qs = omega arith
told-append (p ∷ ps) qs =
    let r = told-append ps qs in let a = told-cons p (ps ++ qs) in let b = told-cons p ps in omega (arith, r, a, b)

-- of headers or trailers
heads_most : (rows : List CapsuleRow) → All CapsuleFits rows → length (pieces_told (head_pieces rows)) ≤ 1024 * length rows
heads_most [] a = omega arith
heads_most (c ∷ cs) a =
    let h = (All-head CapsuleFits c cs a).short in
    let t = heads_most cs (All-tail CapsuleFits c cs a) in
    let s = told-cons (pieces.Known c.text) (head_pieces cs) in
    let m = length-piece_told (pieces.Known c.text) in omega (arith, h, t, s, m)

-- of what extents name
named_most : (blocks : Blocks) (es : List ExtentRow) (ps : List Piece) → AreNamed blocks es ps → length (pieces_told ps) ≤ 2 ^ 40 * length es
named_most blocks [] [] a = omega arith
named_most blocks [] (p ∷ ps) a = absurd a
named_most blocks (e ∷ es) [] a = absurd a
named_most blocks (e ∷ es) (p ∷ ps) a =
    let h = named_length a.0 in
    let i = a.0.ends in
    let t = named_most blocks es ps a.1 in
    let s = told-cons p ps in
    let m = length-piece_told p in omega (arith, h, i, t, s, m)

-- and of an object on the wire
pub wire_most : {blocks : Blocks} {object : ℕ} {row : ObjectRow} {named : List Piece} → KeepsWire blocks object row named →
    length (pieces_told (wire_of row named)) < 2 ^ 63
wire_most {blocks} {object} {row} {named} k =
    let f = k.keeps.fits in
    let few = f.few in
    let h = heads_most row.headers f.headers in
    let e = named_most blocks row.extents named k.are in
    let t = heads_most row.trailers f.trailers in
    let a = told-append (head_pieces row.headers) (named ++ head_pieces row.trailers) in
    let b = told-append named (head_pieces row.trailers) in omega (arith, few, h, e, t, a, b)

pub extents_few : {blocks : Blocks} {object : ℕ} {row : ObjectRow} {named : List Piece} → KeepsWire blocks object row named →
    length (pieces_told named) < 2 ^ 63
extents_few {blocks} {object} {row} {named} k =
    let few = k.keeps.fits.few in let e = named_most blocks row.extents named k.are in omega (arith, few, e)
