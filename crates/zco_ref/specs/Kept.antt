-- Sources that are kept in blocks, with the counts of the extents that name them, and the raw objects that they are of.
use Rattle.std.specs.Prelude.{◌≡◌, ◌≢◌, ◌+◌, ◌<◌, ◌≤◌, ◌^◌, ℕ, List, [], ◌++◌, Option, Some}
use Rattle.sdr_base.specs.Blocks.{Block, Blocks, IsKind}
use Rattle.sdr_base.specs.Entries.{Entries}
use Rattle.sdr_base.specs.Raws.{raw_block, raw_entries}
use Rattle.sdr_base.specs.Sources.{SourceRow, source_block, source_entries}
use Rattle.sdr_base.specs.declared.account.Acct.{Acct}
use Rattle.sdr_base.specs.declared.account.Acct.TheVariants as accts
use Rattle.sdr_base.specs.declared.kind.Kind.TheVariants as kinds
use Rattle.sdr_base.specs.declared.medium.Medium.{Medium}
use Rattle.sdr_base.specs.declared.medium.Medium.TheVariants as media

-- a source with how many extents of each account name it
pub record CountedSource : Type 0 where
  pub inbound : ℕ
  pub outbound : ℕ
  pub row : SourceRow

-- the block of a source with its counts
abbrev pub counted_block : CountedSource → Block
counted_block source = source_block source.inbound source.outbound source.row

-- the blocks of a source with its counts: one
abbrev pub counted_entries : ℕ → CountedSource → Entries
counted_entries addr source = source_entries addr source.inbound source.outbound source.row

-- how many extents of an account name the source
abbrev pub count_in : Acct → CountedSource → ℕ
count_in accts.Inbound source = source.inbound
count_in accts.Outbound source = source.outbound

-- how many extents name the source
abbrev pub uses_of : CountedSource → ℕ
uses_of source = source.inbound + source.outbound

-- the numbers of a source fit their words
pub record SourceFits (source : CountedSource) : Type 0 where
  pub inbound : source.inbound < 2 ^ 64
  pub outbound : source.outbound < 2 ^ 64
  pub subject : source.row.subject < 2 ^ 64
  pub length : source.row.length < 2 ^ 64

-- what stands at an address is the block of this source
pub record KeepsSource (found : Option Block) (source : CountedSource) : Type 0 where
  pub block : found ≡ Some (counted_block source)
  pub fits : SourceFits source

-- some source is kept there
pub record SomeSource (found : Option Block) : Type 0 where
  pub source : CountedSource
  pub keeps : KeepsSource found source

-- where a source's block stands, a source is kept
abbrev pub IsSource : Option Block → Type 0
IsSource found = IsKind found kinds.Source → SomeSource found

-- some source is kept there, whose counts can be added
pub record SomeFew (found : Option Block) : Type 0 where
  pub source : CountedSource
  pub keeps : KeepsSource found source
  pub inbound : source.inbound < 2 ^ 62
  pub outbound : source.outbound < 2 ^ 62

-- where a source's block stands, a source is kept whose counts can be added
abbrev pub IsFew : Option Block → Type 0
IsFew found = IsKind found kinds.Source → SomeFew found

-- some source is kept there, and an extent of the account more can be counted
pub record SomeBelow (acct : Acct) (found : Option Block) : Type 0 where
  pub source : CountedSource
  pub keeps : KeepsSource found source
  pub below : count_in acct source < 2 ^ 62

-- what stands at an address is the block of a raw object of these bytes, and this is the word for the source that names it
pub record KeepsRaw (found : Option Block) (named_by : ℕ) (bytes : List ℕ) : Type 0 where
  pub block : found ≡ Some (raw_block named_by bytes)
  pub small : named_by < 2 ^ 64

-- a raw object is kept, together with the source that names it, where one does
pub record SomeRaw (blocks : Blocks) (raw : ℕ) : Type 0 where
  pub named_by : ℕ
  pub bytes : List ℕ
  pub keeps : KeepsRaw (blocks raw) named_by bytes
  pub named : named_by ≢ 0 → SomeFew (blocks named_by)

-- where a raw object's block stands, a raw object is kept
abbrev pub IsRaw : Blocks → ℕ → Type 0
IsRaw blocks raw = IsKind (blocks raw) kinds.Raw → SomeRaw blocks raw

-- the block of the raw object that a source of this medium is of, which the source names; none for a file or an item
abbrev pub raw_part : Medium → ℕ → ℕ → List ℕ → Entries
raw_part media.Heap raw source bytes = raw_entries raw source bytes
raw_part media.Obj raw source bytes = raw_entries raw source bytes
raw_part medium raw source bytes = []

-- the blocks of a source, and of its raw object of these bytes where it has one
abbrev pub tied_entries : ℕ → CountedSource → List ℕ → Entries
tied_entries addr source bytes =
    counted_entries addr source ++ raw_part source.row.medium source.row.subject addr bytes

-- what stands at the subject of a source of this medium is its raw object of these bytes, where it has one
abbrev pub IsTiedRaw : Medium → Option Block → ℕ → List ℕ → Type 0
IsTiedRaw media.Heap found source bytes = found ≡ Some (raw_block source bytes)
IsTiedRaw media.Obj found source bytes = found ≡ Some (raw_block source bytes)
IsTiedRaw medium found source bytes = Unit {0}

-- a source is kept, together with its raw object of these bytes where it has one
pub record KeepsTied (blocks : Blocks) (addr : ℕ) (source : CountedSource) (bytes : List ℕ) : Type 0 where
  pub keeps : KeepsSource (blocks addr) source
  pub raw : IsTiedRaw source.row.medium (blocks source.row.subject) addr bytes

-- some source is kept there so
pub record SomeTied (blocks : Blocks) (addr : ℕ) : Type 0 where
  pub source : CountedSource
  pub bytes : List ℕ
  pub tied : KeepsTied blocks addr source bytes

-- where a source's block stands, a source is kept so
abbrev pub IsTied : Blocks → ℕ → Type 0
IsTied blocks addr = IsKind (blocks addr) kinds.Source → SomeTied blocks addr

-- some source is kept there so, and an extent of the account names it
pub record SomeAttached (acct : Acct) (blocks : Blocks) (addr : ℕ) : Type 0 where
  pub source : CountedSource
  pub bytes : List ℕ
  pub tied : KeepsTied blocks addr source bytes
  pub some : 1 ≤ count_in acct source
