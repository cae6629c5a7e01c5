-- What the calls on strings answer, and when they are refused.
use Rattle.std.specs.Prelude.{◌≡◌, ◌≤◌, ◌<◌, ◌+◌, ℕ, List, length, take, Option}
use Rattle.sdr_base.specs.Blocks.{Block, IsKind}
use Rattle.sdr_base.specs.Making.{MakesThing}
use Rattle.sdr_base.specs.Objects.{Heap, Misses, OnlyFault, OnlyShort}
use Rattle.sdr_base.specs.Strings.{KeepsString, string_entries}
use Rattle.sdr_base.specs.declared.kind.Kind.TheVariants as kinds
use Rattle.sdr_base.specs.declared.refusal.Refusal.{Refusal}
use Rattle.sdr_base.specs.declared.refusal.Refusal.TheVariants as refusals
use Rattle.sdr_base.specs.declared.stop.Stop.{Stop}
use Rattle.sdr_base.specs.declared.stop.Stop.TheVariants.{Refused}
use Rattle.sdr_base.specs.declared.limits.TheConstants.{LONGEST_STRING}

-- where a string's block stands, some string is kept
pub record SomeString (found : Option Block) : Type 0 where
  pub text : List ℕ
  pub keeps : KeepsString found text

-- where a block of that kind stands, a string is kept
abbrev pub IsString : Option Block → Type 0
IsString found = IsKind found kinds.Text → SomeString found

-- the string was made
pub record MakesString (text : List ℕ) (addr : ℕ) (old new : Heap) : Type 0 where
  pub short : length text ≤ LONGEST_STRING
  pub makes : MakesThing (1 + length text) addr (string_entries addr text) old new

-- why it isn't: it would be too long, and all is as before; or there is no block for it, or no log room; or a fault
abbrev pub StringStops : List ℕ → Heap → Heap → Stop → Type 0
StringStops text old new (Refused (refusals.BadLength count most)) =
    (count ≡ length text) × (most ≡ LONGEST_STRING) × (LONGEST_STRING < length text) × (new ≡ old)
StringStops text old new (Refused refusal) =
    (length text ≤ LONGEST_STRING) × OnlyShort (1 + length text) old new (Refused refusal)
StringStops text old new stop = OnlyFault stop

-- the length of the string that is kept
pub record TellsLength (found : Option Block) (value : ℕ) : Type 0 where
  pub kind : IsKind found kinds.Text
  pub tells : (text : List ℕ) → KeepsString found text → value ≡ length text

-- its length, and its text in the first bytes of a buffer
pub record ReadsString (found : Option Block) (value : ℕ) (into : List ℕ) : Type 0 where
  pub kind : IsKind found kinds.Text
  pub tells : (text : List ℕ) → KeepsString found text → value ≡ length text
  pub text : (text : List ℕ) → KeepsString found text → take value into ≡ text

-- a string of the same text was made
pub record DupsString (found : Option Block) (addr : ℕ) (old new : Heap) : Type 0 where
  pub kind : IsKind found kinds.Text
  pub makes : (text : List ℕ) → KeepsString found text → MakesString text addr old new

-- why it isn't, whichever string is kept: there is no block for it, or no log room
pub record DupLacks (found : Option Block) (old new : Heap) (refusal : Refusal) : Type 0 where
  pub kind : IsKind found kinds.Text
  pub lacks : (text : List ℕ) → KeepsString found text → OnlyShort (1 + length text) old new (Refused refusal)

-- why it isn't: for the address, and all is as before; or there is no block for it, or no log room; or a fault
abbrev pub DupStops : Option Block → ℕ → Heap → Heap → Stop → Type 0
DupStops found addr old new (Refused (refusals.BadAddress bad)) =
    Misses found addr kinds.Text (Refused (refusals.BadAddress bad)) × (new ≡ old)
DupStops found addr old new (Refused (refusals.WrongKind bad number)) =
    Misses found addr kinds.Text (Refused (refusals.WrongKind bad number)) × (new ≡ old)
DupStops found addr old new (Refused refusal) = DupLacks found old new refusal
DupStops found addr old new stop = OnlyFault stop
