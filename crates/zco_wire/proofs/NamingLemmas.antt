-- Ranges of sources as pieces.
use Rattle.std.proofs.Common.{◌≡◌, ◌≤◌, ◌+◌, ◌-◌, ℕ, List, [], ◌∷◌, take, drop, refl, ap, ◌∙◌, arith}
use Rattle.std.proofs.Math.Seq.{drop-drop, take-take}
use Rattle.std.proofs.lemmas.List.{drop-take}
use Rattle.sdr_base.specs.Blocks.{Blocks}
use Rattle.sdr_base.specs.Parts.{part}
use Rattle.sdr_base.specs.Sources.{SourceRow}
use Rattle.sdr_base.specs.ZcoObjects.{ExtentRow}
use Rattle.sdr_base.specs.declared.medium.Medium.{Medium}
use Rattle.sdr_base.specs.declared.medium.Medium.TheVariants as media
use Rattle.sdr_base.proofs.PartsLemmas.{length-part}
use Rattle.sdr_model.specs.Pieces.{piece_length, piece_part}
use Rattle.sdr_model.specs.declared.piece.Piece.{Piece}
use Rattle.sdr_model.specs.declared.piece.Piece.TheVariants as pieces
use Rattle.zco_obj.specs.declared.extent.ExtentPiece.{ExtentPiece as Range}
use Rattle.zco_obj.specs.Links.{piece_of}
use Rattle.zco_wire.specs.Naming.{AreNamed, HasUntil, IsNamed, medium_piece}

-- bytes within a part of bytes
pub part_in_part : (skip count offset all : ℕ) (bytes : List ℕ) → skip + count ≤ all →
    part skip count (part offset all bytes) ≡ part (offset + skip) count bytes
part_in_part skip count offset all bytes le =
    let rest = all - skip in
    let s : all ≡ skip + rest = omega (arith, le) in
    ap (λ n. take count (drop skip (take n (drop offset bytes)))) s
    ∙ ap (λ l. take count l) (drop-take skip rest (drop offset bytes))
    ∙ take-take count rest (drop skip (drop offset bytes)) (omega (arith, le))
    ∙ ap (λ l. take count l) (drop-drop skip offset bytes)

-- some bytes of a range
medium_part : (m : Medium) (row : SourceRow) (bytes : List ℕ) (offset all skip count : ℕ) → skip + count ≤ all →
    piece_part skip count (medium_piece m row bytes offset all) ≡ medium_piece m row bytes (offset + skip) count
medium_part media.File row bytes offset all skip count le = refl
medium_part media.Bulk row bytes offset all skip count le = refl
medium_part media.Heap row bytes offset all skip count le = ap (λ l. pieces.Known l) (part_in_part skip count offset all bytes le)
medium_part media.Obj row bytes offset all skip count le = ap (λ l. pieces.Known l) (part_in_part skip count offset all bytes le)

until_less : (m : Medium) (bytes : List ℕ) (far end : ℕ) → HasUntil m bytes far → end ≤ far → HasUntil m bytes end
until_less media.File bytes far end h le = tt
until_less media.Bulk bytes far end h le = tt
until_less media.Heap bytes far end h le = omega (arith, h, le)
until_less media.Obj bytes far end h le = omega (arith, h, le)

-- some bytes of a range that is named are named
pub within_named : {blocks : Blocks} {range : Range} {p : Piece} (skip count : ℕ) → IsNamed blocks range p → skip + count ≤ range.bytes →
    IsNamed blocks (record { of = range.of; offset = range.offset + skip; bytes = count }) (piece_part skip count p)
within_named {blocks} {range} {p} skip count n le =
    let e = n.ends in
    record {
      source = n.source;
      bytes = n.bytes;
      tied = n.tied;
      path = n.path;
      ends = omega (arith, e, le);
      inside = until_less n.source.row.medium n.bytes (range.offset + range.bytes) (range.offset + skip + count) n.inside (omega (arith, le));
      is = ap (piece_part skip count) n.is
          ∙ medium_part n.source.row.medium n.source.row n.bytes range.offset range.bytes skip count le;
    }

medium_length : (m : Medium) (row : SourceRow) (bytes : List ℕ) (offset count : ℕ) → HasUntil m bytes (offset + count) →
    piece_length (medium_piece m row bytes offset count) ≡ count
medium_length media.File row bytes offset count h = refl
medium_length media.Bulk row bytes offset count h = refl
medium_length media.Heap row bytes offset count h = length-part offset count bytes h
medium_length media.Obj row bytes offset count h = length-part offset count bytes h

-- the piece has as many bytes as the range
pub named_length : {blocks : Blocks} {range : Range} {p : Piece} → IsNamed blocks range p → piece_length p ≡ range.bytes
named_length {blocks} {range} n =
    ap piece_length n.is ∙ medium_length n.source.row.medium n.source.row n.bytes range.offset range.bytes n.inside

-- the first of the extents names the first of the pieces, and the others the others
pub record NamedFirst (blocks : Blocks) (e : ExtentRow) (es : List ExtentRow) (ps : List Piece) : Type 0 where
  pub one : Piece
  pub others : List Piece
  pub is : ps ≡ one ∷ others
  pub named : IsNamed blocks (piece_of e) one
  pub rest : AreNamed blocks es others

pub named_first : {blocks : Blocks} (e : ExtentRow) (es : List ExtentRow) (ps : List Piece) → AreNamed blocks (e ∷ es) ps →
    NamedFirst blocks e es ps
named_first e es [] a = absurd a
named_first e es (p ∷ ps) a = record { one = p; others = ps; is = refl; named = a.0; rest = a.1 }

pub named_none : (blocks : Blocks) (ps : List Piece) → AreNamed blocks [] ps → ps ≡ []
named_none blocks [] a = refl
named_none blocks (p ∷ ps) a = absurd a
