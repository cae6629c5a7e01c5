-- Pieces of a text that are added one after another, and what is filled then.
use Rattle.std.specs.Prelude.{◌≡◌, ◌≢◌, ◌-◌, ◌==◌, ℕ, List, [], ◌∷◌, length, map, MatchBool, ⊤}
use Rattle.sdr_base.specs.ZcoObjects.{ObjectRow}
use Rattle.zco_obj.specs.Links.{piece_of}
use Rattle.zco_part.specs.Pieces.{asked, extents_at, whole_row}
use Rattle.zco_pieces.specs.Adding.{IsPieceOf}
use Rattle.zco_pieces.specs.Bytes.{bytes_named}
use Rattle.zco_pieces.specs.Places.{Range, Rebuilt, opened}
use Rattle.zco_join.specs.declared.filled.Filled.{Filled}
use Rattle.zco_pieces.specs.declared.piece.Piece.{Piece}

-- A piece that was added: its object then, and what the sources held then.
pub record Added : Type 0 where
  pub piece : Piece
  pub row : ObjectRow
  pub held : ℕ → ℕ → ℕ

-- the places of the text that it covers
abbrev pub range_of : Added → Range
range_of a = record { offset = a.piece.offset; length = a.row.part_length }

-- an object is a clone of so many bytes of another's part, from a place in it on
pub record IsCloneOf (row : ObjectRow) (offset bytes : ℕ) (clone : ObjectRow) : Type 0 where
  pub addrs : List ℕ
  pub each : length addrs ≡ length (asked offset bytes row)
  pub is : clone ≡ whole_row row.account (extents_at addrs (asked offset bytes row))

-- The clones by their addresses, and what the sources hold in the end.
module _ (clone_at : ℕ → ObjectRow) (held : ℕ → ℕ → ℕ) where
  -- the bytes that a clone has in the end, by what the sources hold
  abbrev pub clone_bytes : (ℕ → ℕ → ℕ) → ℕ → List ℕ
  clone_bytes holds addr = bytes_named holds (map piece_of (clone_at addr).extents)

  -- a gap has a clone of a piece's bytes in its place, which has the same bytes in the end
  pub record GapFilled (a : Added) (p q : Filled) : Type 0 where
    pub place : q ≡ record p { object = q.object }
    pub some : q.object ≢ 0
    pub clone : IsCloneOf a.row (p.offset - a.piece.offset) p.length (clone_at q.object)
    pub stays : clone_bytes held q.object ≡ clone_bytes a.held q.object

  -- so has each gap among these parts, and the other parts stay
  abbrev pub GapsFilled : Added → List Filled → List Filled → Type 0
  GapsFilled a [] [] = ⊤
  GapsFilled a (p ∷ ps) (q ∷ qs) = MatchBool (p.object == 0) (GapFilled a p q) (q ≡ p) × GapsFilled a ps qs
  GapsFilled a ps qs = ⊥

  -- a piece of the text was added
  pub record AddStep (r : Rebuilt) (a : Added) (r' : Rebuilt) : Type 0 where
    pub fits : IsPieceOf r.total a.piece a.row.part_length
    pub total : r'.total ≡ r.total
    pub filled : GapsFilled a (opened 0 r.total r.parts a.piece.offset a.row.part_length) r'.parts

  -- these were added, one after another
  abbrev pub Rebuilds : Rebuilt → List Added → Rebuilt → Type 0
  Rebuilds r [] r' = r' ≡ r
  Rebuilds r (a ∷ as') r' = (mid : Rebuilt) × AddStep r a mid × Rebuilds mid as' r'
