-- Extents that are given back, each after what goes with it.
use Rattle.std.specs.Prelude.{◌≡◌, ◌+◌, ◌*◌, ◌<◌, ◌≤◌, ◌^◌, ℕ, List, [], ◌∷◌, ◌++◌, length, All, Option, None, Some, if◌then◌else◌}
use Rattle.sdr_base.specs.Blocks.{Blocks}
use Rattle.sdr_base.specs.Entries.{Changes, Entries, BlocksAre}
use Rattle.sdr_base.specs.Linked.{first_of}
use Rattle.sdr_base.specs.Making.{GaveSome, Made, gave}
use Rattle.sdr_base.specs.Objects.{Heap, OnlyFault}
use Rattle.sdr_base.specs.ZcoObjects.{ExtentRow, extent_addr, extent_block, extent_entries}
use Rattle.sdr_base.specs.declared.account.Acct.{Acct}
use Rattle.sdr_base.specs.declared.account.Amounts.{Amounts}
use Rattle.sdr_base.specs.declared.layout.extent.TheConstants.{SOURCE}
use Rattle.sdr_base.specs.declared.refusal.Refusal.TheVariants as refusals
use Rattle.sdr_base.specs.declared.stop.Stop.{Stop}
use Rattle.sdr_base.specs.declared.stop.Stop.TheVariants.{Refused}
use Rattle.sdr_model.specs.Limits.{longest_source}
use Rattle.zco_obj.specs.Amounts.{last_amounts}
use Rattle.zco_obj.specs.Gone.{NamedSource, extents_amounts, gone_blocks, naming, source_at, sources_entries, sources_left}
use Rattle.zco_obj.specs.Kept.{ExtentFits}
use Rattle.zco_obj.specs.declared.destroying.GivenExtent.{GivenExtent}
use Rattle.zco_ref.specs.Counting.{detached, gone_next}
use Rattle.zco_ref.specs.Going.{goes_next, going, blocks_left, word_in}
use Rattle.zco_ref.specs.Kept.{CountedSource, SourceFits, count_in, tied_entries}

-- an extent stands there before another, and the source that it names with its raw object; an extent of the account names it
pub record UseAt (acct : Acct) (blocks : Blocks) (extent next : ℕ) (e : ExtentRow) (source : CountedSource) (bytes : List ℕ)
    : Type 0 where
  pub rest : Entries
  pub stands : BlocksAre blocks ((extent, extent_block 0 next e) ∷ (tied_entries e.source source bytes ++ rest))
  pub extent_fits : ExtentFits e
  pub next_fits : next < 2 ^ 64
  pub source_fits : SourceFits source
  pub short : source.row.length ≤ longest_source
  pub some : 1 ≤ count_in acct source

-- so some extent and its source stand there
pub record SomeUse (acct : Acct) (blocks : Blocks) (extent : ℕ) : Type 0 where
  pub next : ℕ
  pub row : ExtentRow
  pub source : CountedSource
  pub bytes : List ℕ
  pub is : UseAt acct blocks extent next row source bytes

-- how many blocks go with an extent, before it
abbrev pub going_with : Blocks → ℕ → ℕ
going_with blocks extent = going (blocks (word_in (blocks extent) SOURCE))

-- the blocks that are left of a source where an extent less of the account names it
abbrev pub left_next : Acct → ℕ → CountedSource → List ℕ → Entries
left_next acct addr source bytes =
    if goes_next source then blocks_left source.row.medium source.row.subject bytes else tied_entries addr (detached acct source) bytes

-- the extent was given back, and before it what goes with it; this is what is charged less, and the next one
pub record UseGone (acct : Acct) (extent next : ℕ) (e : ExtentRow) (source : CountedSource) (bytes : List ℕ) (old new : Heap)
    (given : GivenExtent) : Type 0 where
  pub changes : Changes old.blocks new.blocks ((extent, extent_block 0 next e) ∷ tied_entries e.source source bytes)
      (left_next acct e.source source bytes)
  pub made : Made (gave (gone_next e.source source ++ extent ∷ [])) old new
  pub charge : given.charged ≡ last_amounts acct source
  pub is_next : given.next ≡ next

-- so it is with whichever stands there
pub record GivesExtent (acct : Acct) (extent : ℕ) (old new : Heap) (given : GivenExtent) : Type 0 where
  pub gives : (next : ℕ) (e : ExtentRow) (source : CountedSource) (bytes : List ℕ) →
      UseAt acct old.blocks extent next e source bytes → UseGone acct extent next e source bytes old new given

-- with whichever stands there, some first ones of the blocks that go were given back
pub record GivesSomeOfExtent (acct : Acct) (extent : ℕ) (old new : Heap) : Type 0 where
  pub gives : (next : ℕ) (e : ExtentRow) (source : CountedSource) (bytes : List ℕ) →
      UseAt acct old.blocks extent next e source bytes → GaveSome (gone_next e.source source ++ extent ∷ []) old new

-- why an extent isn't given back: there is no log room; or a fault
abbrev pub ExtentGiveStops : Acct → ℕ → Heap → Heap → Stop → Type 0
ExtentGiveStops acct extent old new (Refused (refusals.LogFull lines room)) = GivesSomeOfExtent acct extent old new
ExtentGiveStops acct extent old new stop = OnlyFault stop

-- there is such a source
abbrev pub IsThere : Option NamedSource → Type 0
IsThere None = ⊥
IsThere (Some s) = Unit {0}

-- the numbers of a source fit, it has no more bytes than a source may have, and it counts at least as many extents of the
-- account as these that name it
pub record CountsUses (acct : Acct) (extents : List ExtentRow) (s : NamedSource) : Type 0 where
  pub fits : SourceFits s.source
  pub short : s.source.row.length ≤ longest_source
  pub enough : naming s.addr extents ≤ count_in acct s.source

-- these are the sources that these extents of an account name, and each counts them
pub record AreNamed (acct : Acct) (extents : List ExtentRow) (sources : List NamedSource) : Type 0 where
  pub there : All (λ e. IsThere (source_at e.source sources)) extents
  pub counted : All (CountsUses acct extents) sources

-- extents of an account are a chain there, and their sources stand beside
pub record UsesAt (acct : Acct) (blocks : Blocks) (first : ℕ) (extents : List ExtentRow) (sources : List NamedSource) : Type 0 where
  pub rest : Entries
  pub stands : BlocksAre blocks (extent_entries extents ++ (sources_entries sources ++ rest))
  pub at_first : first ≡ first_of extent_addr 0 extents
  pub fits : All ExtentFits extents
  pub few : length extents < 2 ^ 22
  pub named : AreNamed acct extents sources

-- some are, and there is room for the moves
pub record SomeUses (acct : Acct) (heap : Heap) (first : ℕ) : Type 0 where
  pub extents : List ExtentRow
  pub sources : List NamedSource
  pub is : UsesAt acct heap.blocks first extents sources
  pub room : length (gone_blocks sources extents extents) ≤ heap.spare

-- so many lines are touched at most where these go
abbrev pub uses_lines : List ExtentRow → List NamedSource → ℕ
uses_lines extents sources = 24 * length (gone_blocks sources extents extents) + 4 * length extents

-- these extents were given back, each after what goes with it; this is what is charged less, and the other blocks stand
pub record ExtentsGone (acct : Acct) (extents : List ExtentRow) (sources : List NamedSource) (rest : Entries) (old new : Heap)
    (charged : Amounts) : Type 0 where
  pub stands : BlocksAre new.blocks (sources_left acct extents sources ++ rest)
  pub made : Made (gave (gone_blocks sources extents extents)) old new
  pub charge : charged ≡ extents_amounts acct sources extents

-- so it is with whichever are a chain there
pub record GivesExtents (acct : Acct) (first : ℕ) (old new : Heap) (charged : Amounts) : Type 0 where
  pub gives : (extents : List ExtentRow) (sources : List NamedSource) (u : UsesAt acct old.blocks first extents sources) →
      ExtentsGone acct extents sources u.rest old new charged

-- with whichever are a chain there, some first ones of the blocks that go were given back
pub record GivesSomeExtents (acct : Acct) (first : ℕ) (old new : Heap) : Type 0 where
  pub gives : (extents : List ExtentRow) (sources : List NamedSource) → UsesAt acct old.blocks first extents sources →
      GaveSome (gone_blocks sources extents extents) old new

-- why they aren't all: there is no log room; or a fault
abbrev pub ExtentsGiveStops : Acct → ℕ → Heap → Heap → Stop → Type 0
ExtentsGiveStops acct first old new (Refused (refusals.LogFull lines room)) = GivesSomeExtents acct first old new
ExtentsGiveStops acct first old new stop = OnlyFault stop
