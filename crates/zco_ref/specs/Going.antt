-- Sources that go, and what goes with them.
use Rattle.std.specs.Prelude.{◌+◌, ◌*◌, ◌==◌, ◌&&◌, ◌||◌, ℕ, Bool, true, false, List, [], ◌∷◌, ⊤, Option, Some, None}
use Rattle.std.specs.Prelude.{if◌then◌else◌}
use Rattle.sdr_base.specs.Blocks.{Block}
use Rattle.sdr_base.specs.Entries.{Changes, Entries}
use Rattle.sdr_base.specs.Making.{GaveSome, Made, gave}
use Rattle.sdr_base.specs.Objects.{Heap, OnlyUnmoved}
use Rattle.sdr_base.specs.Raws.{raw_entries}
use Rattle.sdr_base.specs.Sources.{medium_number}
use Rattle.sdr_base.specs.Stored.{number_at}
use Rattle.sdr_base.specs.declared.layout.source.TheConstants.{FLAG, INBOUND, MEDIUM, OUTBOUND}
use Rattle.sdr_base.specs.declared.line.TheConstants.{WORD}
use Rattle.sdr_base.specs.declared.medium.Medium.{Medium}
use Rattle.sdr_base.specs.declared.medium.Medium.TheVariants as media
use Rattle.sdr_base.specs.declared.refusal.Refusal.TheVariants.{LogFull}
use Rattle.sdr_base.specs.declared.stop.Stop.{Stop}
use Rattle.sdr_base.specs.declared.stop.Stop.TheVariants.{Refused, DiskFault, MediaFault, Failed}
use Rattle.zco_ref.specs.Kept.{CountedSource, KeepsTied, tied_entries, uses_of}

-- whether a source of this medium has taken over a raw object
abbrev pub is_owner : Medium → Bool
is_owner media.Heap = true
is_owner medium = false

-- whether a source goes with its last extent: it has taken over a raw object, or is flagged
abbrev pub is_passing : Medium → Bool → Bool
is_passing medium flagged = is_owner medium || flagged

-- whether it goes where an extent less names it: that was the last one of so many
abbrev pub goes_by : Medium → Bool → ℕ → Bool
goes_by medium flagged uses = is_passing medium flagged && (uses == 1)

-- whether the source does
abbrev pub goes_next : CountedSource → Bool
goes_next source = goes_by source.row.medium source.row.flagged (uses_of source)

-- the addresses of the blocks that go with a source, in order: of the raw object that it has taken over, and its own
abbrev pub gone_with : Medium → ℕ → ℕ → List ℕ
gone_with media.Heap raw source = raw ∷ source ∷ []
gone_with medium raw source = source ∷ []

-- how many they are
abbrev pub blocks_with : Medium → ℕ
blocks_with media.Heap = 2
blocks_with medium = 1

-- the blocks that a source leaves: that of a raw object which stays with its owner, and which no source names any more
abbrev pub blocks_left : Medium → ℕ → List ℕ → Entries
blocks_left media.Obj raw bytes = raw_entries raw 0 bytes
blocks_left medium raw bytes = []

-- the source is gone, with the raw object that it had taken over, and all else stays
pub record SourceGoes (addr : ℕ) (source : CountedSource) (bytes : List ℕ) (old new : Heap) : Type 0 where
  pub changes : Changes old.blocks new.blocks (tied_entries addr source bytes)
      (blocks_left source.row.medium source.row.subject bytes)
  pub made : Made (gave (gone_with source.row.medium source.row.subject addr)) old new

-- so is whichever source is kept there
pub record Vanishes (addr : ℕ) (old new : Heap) : Type 0 where
  pub goes : (source : CountedSource) (bytes : List ℕ) → KeepsTied old.blocks addr source bytes → SourceGoes addr source bytes old new

-- why a raw object and its source don't go: there is no log room, and no more than the raw object was given back; or a fault
abbrev pub OnlyGave : ℕ → Heap → Heap → Stop → Type 0
OnlyGave raw old new (Refused (LogFull lines room)) = GaveSome (raw ∷ []) old new
OnlyGave raw old new (Refused refusal) = ⊥
OnlyGave raw old new DiskFault = ⊤
OnlyGave raw old new MediaFault = ⊥
OnlyGave raw old new Failed = ⊤

-- why a source of this medium doesn't go: there is no log room, and no block was given back but the raw object that it has
-- taken over; or a fault
abbrev pub VanishStops : Medium → ℕ → Heap → Heap → Stop → Type 0
VanishStops media.Heap raw old new stop = OnlyGave raw old new stop
VanishStops medium raw old new stop = OnlyUnmoved old new stop

-- the number in a word field of a block, 0 where there is none
abbrev pub word_in : Option Block → ℕ → ℕ
word_in None field = 0
word_in (Some block) field = number_at (WORD * field) block.bytes

-- how many blocks go with the last extent of a source of these words: its own, with that of the raw object that it has taken
-- over, or its own where it is flagged
abbrev pub passing_blocks : ℕ → ℕ → ℕ
passing_blocks medium flag = if medium == medium_number media.Heap then 2 else flag

-- how many blocks go where an extent less of so many names a source of these words
abbrev pub going_by : ℕ → ℕ → ℕ → ℕ
going_by uses medium flag = if uses == 1 then passing_blocks medium flag else 0

-- how many blocks go where an extent less names the source in this block
abbrev pub going : Option Block → ℕ
going found =
    going_by (word_in found INBOUND + word_in found OUTBOUND) (word_in found MEDIUM) (word_in found FLAG)
