-- How often media are asked for the bytes of an object.
use Rattle.std.specs.Prelude.{◌≡◌, ◌≤◌, ◌+◌, ℕ, List, [], ◌∷◌}
use Rattle.sdr_base.specs.Blocks.{Blocks, IsKind}
use Rattle.sdr_base.specs.ZcoObjects.{ExtentRow, ObjectRow}
use Rattle.sdr_base.specs.declared.kind.Kind.TheVariants as kinds
use Rattle.sdr_base.specs.declared.media.Media.{Ghosts}
use Rattle.sdr_machine.specs.Asked.{count_outside}
use Rattle.sdr_model.specs.declared.piece.Piece.{Piece}
use Rattle.zco_obj.specs.declared.extent.ExtentPiece.{ExtentPiece as Range}
use Rattle.zco_wire.specs.Going.{ahead}
use Rattle.zco_wire.specs.Naming.{IsNamed, KeepsWire, NamesAt}
use Rattle.zco_wire.specs.declared.cursor.Cursor.{Cursor}

-- media were asked at most once for each of these pieces that lies with them
abbrev pub AsksFor : {M : Type 0} → Ghosts M → List Piece → M → M → Type 0
AsksFor m pieces old new = m.asks new ≤ m.asks old + count_outside pieces

-- whichever piece the range of a source is, they were so asked for it
pub record AsksRange {M : Type 0} (m : Ghosts M) (blocks : Blocks) (range : Range) (old new : M) : Type 0 where
  pub asks : (p : Piece) → IsNamed blocks range p → AsksFor m (p ∷ []) old new

-- whichever piece it is, they were so asked for what was to be given of it
pub record AsksAtRange {M : Type 0} (m : Ghosts M) (blocks : Blocks) (range : Range) (at : Cursor) (room : ℕ) (old new : M) : Type 0 where
  pub asks : (p : Piece) → IsNamed blocks range p → AsksFor m (ahead at room (p ∷ [])) old new

-- whichever pieces a chain of extents names, they were so asked for what was to be given of them
pub record AsksAtNamed {M : Type 0} (m : Ghosts M) (blocks : Blocks) (first : ℕ) (at : Cursor) (room : ℕ) (old new : M) : Type 0 where
  pub asks : (extents : List ExtentRow) (named : List Piece) → NamesAt blocks first extents named → AsksFor m (ahead at room named) old new

-- whichever object is kept, they were so asked for what was asked of it
pub record AsksObject {M : Type 0} (m : Ghosts M) (blocks : Blocks) (object : ℕ) (asked : ObjectRow → List Piece → List Piece) (old new : M)
    : Type 0 where
  pub asks : (row : ObjectRow) (named : List Piece) → KeepsWire blocks object row named → AsksFor m (asked row named) old new

-- Media are asked at most once for each extent that lies with them and of which a byte is asked, and not at all for an
-- object that isn't there.
pub record AsksOnce {M : Type 0} (m : Ghosts M) (blocks : Blocks) (object : ℕ) (asked : ObjectRow → List Piece → List Piece) (old new : M)
    : Type 0 where
  pub once : AsksObject m blocks object asked old new
  pub none : (IsKind (blocks object) kinds.Object → ⊥) → new ≡ old
