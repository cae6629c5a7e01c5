-- What a read of a range of a source gives.
use Rattle.std.specs.Prelude.{◌≡◌, ◌≤◌, ◌<◌, ℕ, List, length, take, Option}
use Rattle.sdr_base.specs.Blocks.{Block, Blocks}
use Rattle.sdr_base.specs.Media.{Told}
use Rattle.sdr_base.specs.declared.refusal.Refusal.TheVariants.{SourceShort}
use Rattle.sdr_base.specs.declared.stop.Stop.{Stop}
use Rattle.sdr_base.specs.declared.stop.Stop.TheVariants as stops
use Rattle.sdr_gather.specs.Gathering.{GivesPiece}
use Rattle.sdr_model.specs.Limits.{longest_path}
use Rattle.sdr_model.specs.declared.piece.Piece.{Piece}
use Rattle.zco_obj.specs.declared.extent.ExtentPiece.{ExtentPiece as Range}
use Rattle.zco_ref.specs.Kept.{CountedSource, KeepsSource}
use Rattle.zco_wire.specs.Naming.{IsNamed}

-- whichever piece the range is, these are its bytes, as media tell
pub record GivesRange (told : Option Told) (blocks : Blocks) (range : Range) (bytes : List ℕ) : Type 0 where
  pub gives : (p : Piece) → IsNamed blocks range p → GivesPiece told p bytes

-- some source is kept there, and its path isn't too long
pub record SomePath (found : Option Block) : Type 0 where
  pub source : CountedSource
  pub keeps : KeepsSource found source
  pub short : length source.row.path ≤ longest_path

-- whichever source is kept there, its path has so many bytes
pub record TellsPath (found : Option Block) (count : ℕ) : Type 0 where
  pub tells : (source : CountedSource) → KeepsSource found source → count ≡ length source.row.path

-- whichever source is kept there, the first bytes of the buffer, so many, are its path
pub record SeesPath (found : Option Block) (into : List ℕ) (count : ℕ) : Type 0 where
  pub few : count ≤ length into
  pub sees : (source : CountedSource) → KeepsSource found source → take count into ≡ source.row.path

-- media had fewer bytes than were asked
abbrev pub IsShortOf : ℕ → ℕ → Stop → Type 0
IsShortOf have want (stops.Refused (SourceShort had wanted)) = (have < want) × (had ≡ have) × (wanted ≡ want)
IsShortOf have want stop = ⊥
