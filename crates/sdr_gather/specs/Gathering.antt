-- What is gathered of the pieces that a call asks for.
use Rattle.std.specs.Prelude.{◌≡◌, ◌<◌, ◌≤◌, ℕ, Bool, true, List, ◌++◌, length, Option, IfSome}
use Rattle.std.specs.List.{list_any}
use Rattle.sdr_base.specs.Media.{Told}
use Rattle.sdr_machine.specs.Agreeing.{IsFirstShort}
use Rattle.sdr_machine.specs.Ground.{lies_with_media}
use Rattle.sdr_model.specs.Pieces.{bytes_by, media_bytes, piece_length, piece_told, pieces_told}
use Rattle.sdr_model.specs.Wire.{Spells}
use Rattle.sdr_model.specs.declared.piece.Piece.{Piece}
use Rattle.sdr_gather.specs.declared.gathering.Gap.{Gap}
use Rattle.sdr_gather.specs.declared.gathering.Gap.TheVariants as gaps

-- these are the bytes of a piece: those that the world tells, and where media tell, those that they hold
pub record GivesPiece (told : Option Told) (piece : Piece) (bytes : List ℕ) : Type 0 where
  pub known : Spells (piece_told piece) bytes
  pub held : IfSome told (λ media. bytes ≡ media_bytes media piece)

-- a read of a piece had so many bytes: all of them, which stand in the buffer, or fewer
pub record HasGiven (told : Option Told) (piece : Piece) (into : List ℕ) (have : ℕ) (Short : Type 0) : Type 0 where
  pub few : have ≤ piece_length piece
  pub whole : have ≡ piece_length piece → GivesPiece told piece into
  pub short : have < piece_length piece → Short
  pub held : IfSome told (λ media. have ≡ length (media_bytes media piece))

-- this came of media, where some bytes lie with them
abbrev pub OfMedia : Bool → Type 0 → Type 0
OfMedia outside Cause = (outside ≡ true) × Cause

-- the bytes of a piece were added to others
pub record AddsPiece (told : Option Told) (piece : Piece) (old new : List ℕ) : Type 0 where
  pub bytes : List ℕ
  pub gives : GivesPiece told piece bytes
  pub added : new ≡ old ++ bytes

-- why the bytes of a piece weren't read: media failed, or had fewer of them
abbrev pub IsGapOf : Option Told → Piece → Type 0 → Type 0 → Gap → Type 0
IsGapOf told piece Failed Short gaps.Fault = Failed
IsGapOf told piece Failed Short (gaps.Short have want) =
    (have < want) × Short
    × IfSome told (λ media. (have ≡ length (media_bytes media piece)) × (want ≡ piece_length piece))

-- these are the bytes of all pieces
pub record AreGathered (told : Option Told) (pieces : List Piece) (bytes : List ℕ) : Type 0 where
  pub known : Spells (pieces_told pieces) bytes
  pub held : IfSome told (λ media. bytes ≡ bytes_by media pieces)

-- why the bytes of all pieces weren't gathered: media failed, or they had fewer of the first piece of which they have too few
abbrev pub IsGapIn : Option Told → List Piece → Type 0 → Type 0 → Gap → Type 0
IsGapIn told pieces Failed Short gaps.Fault = Failed
IsGapIn told pieces Failed Short (gaps.Short have want) =
    (have < want) × Short × IfSome told (λ media. IsFirstShort media pieces have want)

-- The bytes gathered so far are those of the pieces but for the rest of them.
pub record Gathering (told : Option Told) (pieces rest : List Piece) (bytes : List ℕ) : Type 0 where
  pub known : (more : List ℕ) → Spells (pieces_told rest) more → Spells (pieces_told pieces) (bytes ++ more)
  pub held : IfSome told (λ media. bytes ++ bytes_by media rest ≡ bytes_by media pieces)
  pub outside : list_any lies_with_media rest ≡ true → list_any lies_with_media pieces ≡ true
  pub first : IfSome told (λ media. (have want : ℕ) → IsFirstShort media rest have want → IsFirstShort media pieces have want)
