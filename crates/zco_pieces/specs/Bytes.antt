-- The bytes of objects, where each source holds these: `held` tells the byte of a source at a place.
use Rattle.std.specs.Prelude.{◌≡◌, ◌+◌, ◌≤◌, ℕ, List, drop, flat_map, length, map, take}
use Rattle.std.specs.List.{range_with_len}
use Rattle.sdr_base.specs.ZcoObjects.{ObjectRow}
use Rattle.zco_obj.specs.Links.{piece_of}
use Rattle.zco_obj.specs.declared.extent.ExtentPiece.{ExtentPiece}
use Rattle.zco_pieces.specs.declared.piece.Piece.{Piece}

module _ (held : ℕ → ℕ → ℕ) where
  -- the bytes that these parts of sources have
  abbrev pub bytes_named : List ExtentPiece → List ℕ
  bytes_named = flat_map (λ p. map (held p.of) (range_with_len p.offset p.bytes))

  -- the bytes of an object's part: so many of its extents' bytes, from a place among them on
  abbrev pub part_bytes : ObjectRow → List ℕ
  part_bytes row = take row.part_length (drop row.part_offset (bytes_named (map piece_of row.extents)))

  -- a piece, whose object is this, fits a text: it is of one of that length, and its bytes are those of the text from its offset on
  pub record FitsText (text : List ℕ) (piece : Piece) (row : ObjectRow) : Type 0 where
    pub total : piece.total ≡ length text
    pub inside : piece.offset + row.part_length ≤ length text
    pub bytes : part_bytes row ≡ take row.part_length (drop piece.offset text)
