-- An object that is kept with its queue, and a source or a raw object that stands beside it.
use Rattle.std.specs.Prelude.{◌≡◌, ◌≢◌, ◌<◌, ◌≤◌, ◌^◌, ℕ, List, ◌++◌, length}
use Rattle.sdr_base.specs.Blocks.{Blocks, IsKind}
use Rattle.sdr_base.specs.Entries.{Entries, BlocksAre}
use Rattle.sdr_base.specs.Objects.{Heap}
use Rattle.sdr_base.specs.Raws.{raw_entries}
use Rattle.sdr_base.specs.ZcoObjects.{ObjectRow, object_entries}
use Rattle.sdr_base.specs.declared.kind.Kind.TheVariants as kinds
use Rattle.sdr_model.specs.Limits.{longest_source}
use Rattle.sdr_model.specs.declared.accounts.Ticket.{Ticket}
use Rattle.zco_obj.specs.Kept.{KeepsWithQueue, ObjectFits}
use Rattle.zco_ref.specs.Kept.{CountedSource, SomeFew, SourceFits, count_in, counted_entries}

-- the heap keeps an object with its queue, and these stand beside them
pub record KeepsBeside (heap : Heap) (object : ℕ) (row : ObjectRow) (tickets : List Ticket) (es : Entries) : Type 0 where
  pub keeps : KeepsWithQueue heap object row tickets
  pub behind : Entries
  pub whole : keeps.rest ≡ es ++ behind

-- it keeps a source so, which one extent more of the object's account may name
pub record KeepsWithSource (heap : Heap) (object : ℕ) (row : ObjectRow) (tickets : List Ticket) (addr : ℕ) (source : CountedSource)
    : Type 0 where
  pub beside : KeepsBeside heap object row tickets (counted_entries addr source)
  pub fits : SourceFits source
  pub below : count_in row.account source < 2 ^ 62
  pub short : source.row.length ≤ longest_source

-- it keeps some object and some source so
pub record SomeWithSource (heap : Heap) (object addr : ℕ) : Type 0 where
  pub row : ObjectRow
  pub tickets : List Ticket
  pub source : CountedSource
  pub keeps : KeepsWithSource heap object row tickets addr source

-- where the blocks of an object and of a source stand, both are kept so
abbrev pub IsWithSource : Heap → ℕ → ℕ → Type 0
IsWithSource heap object addr =
    IsKind (heap.blocks object) kinds.Object → IsKind (heap.blocks addr) kinds.Source → SomeWithSource heap object addr

-- the heap keeps a raw object so, together with the source that names it, where one does
pub record KeepsWithRaw (heap : Heap) (object : ℕ) (row : ObjectRow) (tickets : List Ticket) (raw named_by : ℕ) (bytes : List ℕ)
    : Type 0 where
  pub beside : KeepsBeside heap object row tickets (raw_entries raw named_by bytes)
  pub small : named_by < 2 ^ 64
  pub named : named_by ≢ 0 → SomeFew (heap.blocks named_by)
  pub short : length bytes ≤ longest_source

-- it keeps some object and some raw object so
pub record SomeWithRaw (heap : Heap) (object raw : ℕ) : Type 0 where
  pub row : ObjectRow
  pub tickets : List Ticket
  pub named_by : ℕ
  pub bytes : List ℕ
  pub keeps : KeepsWithRaw heap object row tickets raw named_by bytes

-- where the blocks of an object and of a raw object stand, both are kept so
abbrev pub IsWithRaw : Heap → ℕ → ℕ → Type 0
IsWithRaw heap object raw =
    IsKind (heap.blocks object) kinds.Object → IsKind (heap.blocks raw) kinds.Raw → SomeWithRaw heap object raw

-- these blocks keep an object, and beside it a source which one extent more of its account may name
pub record KeepsPair (blocks : Blocks) (object : ℕ) (row : ObjectRow) (addr : ℕ) (source : CountedSource) : Type 0 where
  pub rest : Entries
  pub stands : BlocksAre blocks (object_entries object row ++ (counted_entries addr source ++ rest))
  pub object_fits : ObjectFits row
  pub source_fits : SourceFits source
  pub below : count_in row.account source < 2 ^ 62

-- they keep some object and some source so
pub record SomePair (blocks : Blocks) (object addr : ℕ) : Type 0 where
  pub row : ObjectRow
  pub source : CountedSource
  pub keeps : KeepsPair blocks object row addr source
