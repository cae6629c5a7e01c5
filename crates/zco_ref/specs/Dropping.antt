-- Sources that are destroyed, and when that is refused.
use Rattle.std.specs.Prelude.{◌≡◌, ◌==◌, ◌⊎◌, ℕ, true, false, List, MatchBool, Option}
use Rattle.sdr_base.specs.Blocks.{Block, IsKind}
use Rattle.sdr_base.specs.Kinds.{kind_number}
use Rattle.sdr_base.specs.Objects.{Heap, Misses, OnlyFault, OnlyUnmoved}
use Rattle.sdr_base.specs.declared.kind.Kind.TheVariants as kinds
use Rattle.sdr_base.specs.declared.refusal.Refusal.TheVariants as refusals
use Rattle.sdr_base.specs.declared.stop.Stop.{Stop}
use Rattle.sdr_base.specs.declared.stop.Stop.TheVariants.{Refused}
use Rattle.zco_ref.specs.Counting.{Becomes}
use Rattle.zco_ref.specs.Going.{SourceGoes, is_owner}
use Rattle.zco_ref.specs.Kept.{CountedSource, KeepsSource, KeepsTied, uses_of}

-- the source with its flag set
abbrev pub flagged : CountedSource → CountedSource
flagged source = record source { row = record source.row { flagged = true } }

-- whichever source is kept there has taken over a raw object
pub record IsOwner (found : Option Block) : Type 0 where
  pub kind : IsKind found kinds.Source
  pub owns : (source : CountedSource) → KeepsSource found source → is_owner source.row.medium ≡ true

-- whichever source is kept there has taken over none, and is flagged
pub record IsFlagged (found : Option Block) : Type 0 where
  pub kind : IsKind found kinds.Source
  pub free : (source : CountedSource) → KeepsSource found source → is_owner source.row.medium ≡ false
  pub flagged : (source : CountedSource) → KeepsSource found source → source.row.flagged ≡ true

-- whichever source is kept there has taken over none, and isn't flagged
pub record MayGo (found : Option Block) : Type 0 where
  pub kind : IsKind found kinds.Source
  pub free : (source : CountedSource) → KeepsSource found source → is_owner source.row.medium ≡ false
  pub unflagged : (source : CountedSource) → KeepsSource found source → source.row.flagged ≡ false

-- whichever source is kept is gone where no extent names it, and else is flagged, and all else stays
pub record DestroysSource (addr : ℕ) (old new : Heap) : Type 0 where
  pub may : MayGo (old.blocks addr)
  pub does : (source : CountedSource) (bytes : List ℕ) → KeepsTied old.blocks addr source bytes →
      MatchBool (uses_of source == 0) (SourceGoes addr source bytes old new)
      (Becomes addr source (flagged source) old new)

-- it is refused as of the wrong kind: the block is of another, or the source has taken over a raw object
abbrev pub IsWrong : Option Block → ℕ → ℕ → ℕ → Type 0
IsWrong found addr bad number =
    Misses found addr kinds.Source (Refused (refusals.WrongKind bad number))
    ⊎ ((bad ≡ addr) × (number ≡ kind_number kinds.Source) × IsOwner found)

-- why it isn't destroyed: for the address, for its raw object, or since it is flagged, and all is as before; or there is no
-- log room, and no move was made; or a fault
abbrev pub DestroyStops : ℕ → Heap → Heap → Stop → Type 0
DestroyStops addr old new (Refused (refusals.BadAddress bad)) =
    Misses (old.blocks addr) addr kinds.Source (Refused (refusals.BadAddress bad)) × (new ≡ old)
DestroyStops addr old new (Refused (refusals.WrongKind bad number)) = IsWrong (old.blocks addr) addr bad number × (new ≡ old)
DestroyStops addr old new (Refused refusals.NotFound) = IsFlagged (old.blocks addr) × (new ≡ old)
DestroyStops addr old new (Refused refusal) = MayGo (old.blocks addr) × OnlyUnmoved old new (Refused refusal)
DestroyStops addr old new stop = OnlyFault stop
