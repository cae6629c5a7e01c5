-- Pieces that are gone over, of which some bytes are given.
use Rattle.std.specs.Prelude.{◌≡◌, ◌≤◌, ◌-◌, ◌+◌, ℕ, List, [], ◌∷◌, ◌++◌, length, take, Option}
use Rattle.sdr_base.specs.Blocks.{Block, Blocks}
use Rattle.sdr_base.specs.Media.{Told}
use Rattle.sdr_base.specs.ZcoObjects.{CapsuleRow, ExtentRow, capsule_addr, extent_addr}
use Rattle.sdr_base.specs.declared.media.Media.{Ghosts}
use Rattle.sdr_machine.specs.Asked.{count_outside}
use Rattle.sdr_gather.specs.Gathering.{Gathering}
use Rattle.sdr_model.specs.Pieces.{cut_pieces}
use Rattle.sdr_model.specs.declared.piece.Piece.{Piece}
use Rattle.sdr_model.specs.declared.piece.Piece.TheVariants as pieces
use Rattle.zco_obj.specs.Walks.{CapsulesAt, KeepsCapsule, Passed}
use Rattle.zco_obj.specs.declared.extent.ExtentPiece.{ExtentPiece as Range}
use Rattle.zco_wire.specs.Naming.{AreNamed, IsNamed, NamesAt, head_pieces}
use Rattle.zco_wire.specs.declared.cursor.Cursor.{Cursor}

-- what is to be given of pieces from the cursor on, into a buffer of so many bytes
abbrev pub ahead : Cursor → ℕ → List Piece → List Piece
ahead at room = cut_pieces at.skip (room - at.given)

-- These pieces were gone over: behind the bytes given before stand those of these pieces, and what is to be given of others behind
-- them is the rest of what was to be given of all, so that as many of all lie with media as of these and of those together.
pub record GoesOverPieces (told : Option Told) (over : List Piece) (old new : Cursor) (into into' : List ℕ) : Type 0
  where
    pub bytes : List ℕ
    pub given : new.given ≡ old.given + length bytes
    pub room : new.given ≤ length into
    pub stand : take new.given into' ≡ take old.given into ++ bytes
    pub gathers : (others : List Piece) → Gathering told (ahead old (length into) (over ++ others)) (ahead new (length into) others) bytes
    pub counts : (others : List Piece) → count_outside (ahead old (length into) (over ++ others))
        ≡ count_outside (ahead old (length into) over) + count_outside (ahead new (length into) others)

-- whichever header or trailer stands there, it was gone over
pub record GoesOverHead (found : Option Block) (old new : Cursor) (into into' : List ℕ) : Type 0 where
  pub goes : (told : Option Told) (next : ℕ) (c : CapsuleRow) → KeepsCapsule found next c
      → GoesOverPieces told (pieces.Known c.text ∷ []) old new into into'

-- whichever chain of headers or trailers stands there, it was gone over
pub record GoesOverHeads (blocks : Blocks) (first : ℕ) (old new : Cursor) (into into' : List ℕ) : Type 0 where
  pub goes : (told : Option Told) (rows : List CapsuleRow) → CapsulesAt blocks first rows
      → GoesOverPieces told (head_pieces rows) old new into into'

-- whichever piece the range of a source is, it was gone over
pub record GoesOverRange (told : Option Told) (blocks : Blocks) (range : Range) (old new : Cursor) (into into' : List ℕ) : Type 0 where
  pub goes : (p : Piece) → IsNamed blocks range p → GoesOverPieces told (p ∷ []) old new into into'

-- whichever pieces a chain of extents names, they were gone over
pub record GoesOverNamed (told : Option Told) (blocks : Blocks) (first : ℕ) (old new : Cursor) (into into' : List ℕ) : Type 0 where
  pub goes : (extents : List ExtentRow) (named : List Piece) → NamesAt blocks first extents named → GoesOverPieces told named old new into into'

-- Some first headers or trailers of a chain were gone over, so many, and the address is that of the next one.
pub record WalkedHeads (told : Option Told) (rows : List CapsuleRow) (head i : ℕ) (old new : Cursor) (into into' : List ℕ) : Type 0 where
  pub walk : Passed capsule_addr rows head i
  pub goes : GoesOverPieces told (head_pieces walk.passed) old new into into'

-- so it is of whichever chain stands there
pub record WalksHeads (blocks : Blocks) (first head i : ℕ) (old new : Cursor) (into into' : List ℕ) : Type 0 where
  pub walks : (told : Option Told) (rows : List CapsuleRow) → CapsulesAt blocks first rows
      → WalkedHeads told rows head i old new into into'

-- What some first extents of a chain name was gone over, so many, and the address is that of the next one. Media were asked at
-- most once for each part of it that lies with them.
pub record WalkedNamed {M : Type 0} (m : Ghosts M) (before now : M) (blocks : Blocks) (extents : List ExtentRow) (named : List Piece)
    (extent i : ℕ) (old new : Cursor) (into into' : List ℕ) : Type 0 where
  pub walk : Passed extent_addr extents extent i
  pub done : List Piece
  pub left : List Piece
  pub whole : named ≡ done ++ left
  pub are : AreNamed blocks walk.left left
  pub goes : GoesOverPieces (m.told before) done old new into into'
  pub asks : m.asks now ≤ m.asks before + count_outside (ahead old (length into) done)

-- so it is of whichever chain stands there
pub record WalksNamed {M : Type 0} (m : Ghosts M) (before now : M) (blocks : Blocks) (first extent i : ℕ) (old new : Cursor)
    (into into' : List ℕ) : Type 0 where
  pub walks : (extents : List ExtentRow) (named : List Piece) → NamesAt blocks first extents named
      → WalkedNamed m before now blocks extents named extent i old new into into'
