-- Sources of raw objects that are made, and when they are refused.
use Rattle.std.specs.Prelude.{◌≡◌, ◌≢◌, ℕ, List, [], ◌∷◌, ◌++◌, length, Option}
use Rattle.sdr_base.specs.Blocks.{Block, Blocks, IsKind}
use Rattle.sdr_base.specs.Entries.{Adds}
use Rattle.sdr_base.specs.Making.{Made}
use Rattle.sdr_base.specs.Objects.{Heap, Misses, OnlyFault, OnlyShort}
use Rattle.sdr_base.specs.Raws.{raw_entries}
use Rattle.sdr_base.specs.declared.kind.Kind.TheVariants as kinds
use Rattle.sdr_base.specs.declared.medium.Medium.{Medium}
use Rattle.sdr_base.specs.declared.moves.Move.TheVariants.{Took}
use Rattle.sdr_base.specs.declared.refusal.Refusal.TheVariants as refusals
use Rattle.sdr_base.specs.declared.stop.Stop.{Stop}
use Rattle.sdr_base.specs.declared.stop.Stop.TheVariants.{Refused}
use Rattle.zco_ref.specs.Kept.{KeepsRaw, KeepsSource, CountedSource, counted_entries, uses_of}
use Rattle.zco_ref.specs.Making.{plain_row, unused}
use Rattle.zco_ref.specs.declared.making.TheConstants.{PATH_FROM}

-- no source names whichever raw object is kept
pub record IsUnnamed (found : Option Block) : Type 0 where
  pub kind : IsKind found kinds.Raw
  pub none : (named_by : ℕ) (bytes : List ℕ) → KeepsRaw found named_by bytes → named_by ≡ 0

-- no source names it, and it has so many bytes
pub record HasUnnamed (found : Option Block) (count : ℕ) : Type 0 where
  pub unnamed : IsUnnamed found
  pub counts : (named_by : ℕ) (bytes : List ℕ) → KeepsRaw found named_by bytes → count ≡ length bytes

-- a source is at this address, which so many extents name
pub record HasUses (blocks : Blocks) (source count : ℕ) : Type 0 where
  pub some : source ≢ 0
  pub counts : (row : CountedSource) → KeepsSource (blocks source) row → count ≡ uses_of row

-- a source names whichever raw object is kept, and so many extents name that source
pub record IsNamed (blocks : Blocks) (raw count : ℕ) : Type 0 where
  pub kind : IsKind (blocks raw) kinds.Raw
  pub used : (named_by : ℕ) (bytes : List ℕ) → KeepsRaw (blocks raw) named_by bytes → HasUses blocks named_by count

-- why a raw object is refused that a source is to be made of: for its address, or since a source names it; or a fault
abbrev pub RawStops : Blocks → ℕ → Stop → Type 0
RawStops blocks raw (Refused (refusals.InUse bad count)) = (bad ≡ raw) × IsNamed blocks raw count
RawStops blocks raw stop = Misses (blocks raw) raw kinds.Raw stop

-- a source of whichever raw object is kept was made, which no extent names, and the raw object names it, where it named
-- none; all else stays
pub record MakesRawSource (medium : Medium) (raw addr : ℕ) (old new : Heap) : Type 0 where
  pub unnamed : IsUnnamed (old.blocks raw)
  pub adds : (bytes : List ℕ) → KeepsRaw (old.blocks raw) 0 bytes →
      Adds old.blocks new.blocks addr (raw_entries raw 0 bytes)
      (counted_entries addr (unused (plain_row medium raw (length bytes))) ++ raw_entries raw addr bytes)
  pub made : Made (Took PATH_FROM addr ∷ []) old new

-- why none is made: for the raw object, and all is as before; or there is no block for it, or no log room; or a fault
abbrev pub NamingStops : ℕ → Heap → Heap → Stop → Type 0
NamingStops raw old new (Refused (refusals.BadAddress bad)) =
    RawStops old.blocks raw (Refused (refusals.BadAddress bad)) × (new ≡ old)
NamingStops raw old new (Refused (refusals.WrongKind bad number)) =
    RawStops old.blocks raw (Refused (refusals.WrongKind bad number)) × (new ≡ old)
NamingStops raw old new (Refused (refusals.InUse bad count)) =
    RawStops old.blocks raw (Refused (refusals.InUse bad count)) × (new ≡ old)
NamingStops raw old new (Refused refusal) =
    IsUnnamed (old.blocks raw) × OnlyShort PATH_FROM old new (Refused refusal)
NamingStops raw old new stop = OnlyFault stop
