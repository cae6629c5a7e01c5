-- Sources of files and items that are made, and when they are refused.
use Rattle.std.specs.Prelude.{◌≡◌, ◌≤◌, ◌<◌, ◌+◌, ◌⊎◌, ℕ, false, List, [], length}
use Rattle.sdr_base.specs.Making.{MakesThing}
use Rattle.sdr_base.specs.Objects.{Heap, OnlyFault, OnlyShort}
use Rattle.sdr_base.specs.Sources.{SourceRow}
use Rattle.sdr_base.specs.Words.{TakesBytes}
use Rattle.sdr_base.specs.declared.kind.Kind.TheVariants as kinds
use Rattle.sdr_base.specs.declared.medium.Medium.{Medium}
use Rattle.sdr_base.specs.declared.medium.Medium.TheVariants as media
use Rattle.sdr_base.specs.declared.refusal.Refusal.TheVariants as refusals
use Rattle.sdr_base.specs.declared.stop.Stop.{Stop}
use Rattle.sdr_base.specs.declared.stop.Stop.TheVariants.{Refused}
use Rattle.zco_ref.specs.Kept.{CountedSource, counted_block, counted_entries}
use Rattle.sdr_base.specs.declared.limits.TheConstants.{LONGEST_PATH, LONGEST_SOURCE}
use Rattle.zco_ref.specs.declared.making.TheConstants.{PATH_FROM}

-- a source that no extent names
abbrev pub unused : SourceRow → CountedSource
unused row = record { inbound = 0; outbound = 0; row = row }

-- a source of the first bytes of a file, which isn't flagged
abbrev pub file_row : List ℕ → ℕ → SourceRow
file_row path bytes = record { medium = media.File; flagged = false; subject = 0; length = bytes; path = path }

-- a source of the first bytes of something else than a file, which isn't flagged
abbrev pub plain_row : Medium → ℕ → ℕ → SourceRow
plain_row medium subject bytes =
    record { medium = medium; flagged = false; subject = subject; length = bytes; path = [] }

-- the block of a source that no extent names was taken
abbrev pub TakesSource : SourceRow → ℕ → Heap → Heap → Type 0
TakesSource row addr old new = TakesBytes kinds.Source (counted_block (unused row)).bytes addr old new

-- a path has a byte at least, and not too many
pub record IsPathLength (count : ℕ) : Type 0 where
  pub some : 1 ≤ count
  pub short : count ≤ LONGEST_PATH

-- it is refused for the bytes of its path
abbrev pub IsNoPath : ℕ → ℕ → ℕ → Type 0
IsNoPath count bad most = (bad ≡ count) × (most ≡ LONGEST_PATH) × ((count ≡ 0) ⊎ (LONGEST_PATH < count))

-- it is refused for its length
abbrev pub IsTooLong : ℕ → ℕ → ℕ → Type 0
IsTooLong bytes bad most = (bad ≡ bytes) × (most ≡ LONGEST_SOURCE) × (LONGEST_SOURCE < bytes)

-- the path is refused
abbrev pub PathRefused : ℕ → Stop → Type 0
PathRefused count (Refused (refusals.BadLength bad most)) = IsNoPath count bad most
PathRefused count stop = ⊥

-- the length is refused
abbrev pub SourceRefused : ℕ → Stop → Type 0
SourceRefused bytes (Refused (refusals.BadLength bad most)) = IsTooLong bytes bad most
SourceRefused bytes stop = ⊥

-- a source of the first bytes of a file was made, which no extent names
pub record MakesFile (path : List ℕ) (bytes addr : ℕ) (old new : Heap) : Type 0 where
  pub path_length : IsPathLength (length path)
  pub short : bytes ≤ LONGEST_SOURCE
  pub makes : MakesThing (PATH_FROM + length path) addr (counted_entries addr (unused (file_row path bytes))) old new

-- why it isn't: for the path or else for the length, and all is as before; or there is no block for it, or no log room; or
-- a fault
abbrev pub FileStops : List ℕ → ℕ → Heap → Heap → Stop → Type 0
FileStops path bytes old new (Refused (refusals.BadLength bad most)) =
    (IsNoPath (length path) bad most ⊎ (IsPathLength (length path) × IsTooLong bytes bad most)) × (new ≡ old)
FileStops path bytes old new (Refused refusal) =
    IsPathLength (length path) × (bytes ≤ LONGEST_SOURCE) × OnlyShort (PATH_FROM + length path) old new (Refused refusal)
FileStops path bytes old new stop = OnlyFault stop

-- a source of the first bytes of an item was made, which no extent names
pub record MakesBulk (item bytes addr : ℕ) (old new : Heap) : Type 0 where
  pub short : bytes ≤ LONGEST_SOURCE
  pub makes : MakesThing PATH_FROM addr (counted_entries addr (unused (plain_row media.Bulk item bytes))) old new

-- why it isn't: for the length, and all is as before; or there is no block for it, or no log room; or a fault
abbrev pub BulkStops : ℕ → Heap → Heap → Stop → Type 0
BulkStops bytes old new (Refused (refusals.BadLength bad most)) = IsTooLong bytes bad most × (new ≡ old)
BulkStops bytes old new (Refused refusal) = (bytes ≤ LONGEST_SOURCE) × OnlyShort PATH_FROM old new (Refused refusal)
BulkStops bytes old new stop = OnlyFault stop
