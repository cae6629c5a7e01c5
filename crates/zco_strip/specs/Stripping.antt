-- An object that is cut to its part, and when that is refused.
use Rattle.std.specs.Prelude.{◌≡◌, ◌+◌, ◌≤◌, ℕ, List, ◌++◌, length}
use Rattle.sdr_base.specs.Blocks.{Blocks, IsKind}
use Rattle.sdr_base.specs.Entries.{Changes}
use Rattle.sdr_base.specs.Linked.{first_of}
use Rattle.sdr_base.specs.Making.{GaveSome, besides, gave, with_moves}
use Rattle.sdr_base.specs.Objects.{Heap, Misses, OnlyFault}
use Rattle.sdr_base.specs.ZcoObjects.{ObjectRow, extent_addr, extent_entries, object_entries}
use Rattle.sdr_base.specs.declared.account.Amounts.{Amounts}
use Rattle.sdr_base.specs.declared.kind.Kind.TheVariants as kinds
use Rattle.sdr_base.specs.declared.refusal.Refusal.TheVariants as refusals
use Rattle.sdr_base.specs.declared.stop.Stop.{Stop}
use Rattle.sdr_base.specs.declared.stop.Stop.TheVariants.{Refused}
use Rattle.sdr_model.specs.Amounts.{minus}
use Rattle.zco_acct.specs.Words.{occupied_in, with_occupied}
use Rattle.zco_strip.specs.Cuts.{HaveBytes, outside, part_end, stripped}
use Rattle.zco_strip.specs.declared.chain.Parted.{Parted}
use Rattle.zco_strip.specs.declared.stripping.Span.{Span}
use Rattle.zco_obj.specs.Destroying.{KeepsSources}
use Rattle.zco_obj.specs.Gone.{NamedSource, extents_amounts, gone_blocks, sources_entries, sources_left}
use Rattle.zco_obj.specs.Kept.{KeepsObject}
use Rattle.zco_obj.specs.Uses.{uses_lines}

-- these blocks keep an object, each of whose extents has a byte, and the sources that they name beside it
pub record KeepsToStrip (blocks : Blocks) (object : ℕ) (row : ObjectRow) (sources : List NamedSource) : Type 0 where
  pub keeps : KeepsSources blocks object row sources
  pub bytes : HaveBytes row.extents

-- the addresses of the blocks that go, in order: of the extents outside the part, with what goes with each before it
abbrev pub gone_outside : ObjectRow → List NamedSource → List ℕ
gone_outside row sources = gone_blocks sources (outside row) (outside row)

-- the heap keeps some object so, and has room for the moves
pub record SomeToStrip (heap : Heap) (object : ℕ) : Type 0 where
  pub row : ObjectRow
  pub sources : List NamedSource
  pub keeps : KeepsToStrip heap.blocks object row sources
  pub room : length (gone_outside row sources) ≤ heap.spare

-- where an object's block stands, an object is kept so
abbrev pub IsToStrip : Heap → ℕ → Type 0
IsToStrip heap object = IsKind (heap.blocks object) kinds.Object → SomeToStrip heap object

-- an object's first extent, and where its part begins and ends
pub record IsSpan (row : ObjectRow) (span : Span) : Type 0 where
  pub first : span.first ≡ first_of extent_addr 0 row.extents
  pub from : span.from ≡ row.part_offset
  pub to : span.to ≡ part_end row

-- so it is with whichever object is kept
pub record TellsSpan (blocks : Blocks) (object : ℕ) (span : Span) : Type 0 where
  pub told : (row : ObjectRow) → KeepsObject blocks object row → IsSpan row span

-- an object is cut to its part, and the extents outside are a chain of their own
pub record ObjectCut (object : ℕ) (row : ObjectRow) (old new : Heap) (parted : Parted) : Type 0 where
  pub changes : Changes old.blocks new.blocks (object_entries object row)
      (object_entries object (stripped row) ++ extent_entries (outside row))
  pub at_out : parted.out ≡ first_of extent_addr 0 (outside row)

-- so it is with whichever object is kept; and all else stays
pub record CutsObject (object : ℕ) (old new : Heap) (parted : Parted) : Type 0 where
  pub cuts : (row : ObjectRow) (sources : List NamedSource) → KeepsToStrip old.blocks object row sources →
      ObjectCut object row old new parted
  pub same : besides new ≡ besides old

-- what an object charges less once it is cut to its part: what the extents outside do once they are gone
abbrev pub stripped_amounts : ObjectRow → List NamedSource → Amounts
stripped_amounts row sources = extents_amounts row.account sources (outside row)

-- so many lines are touched at most where an object is cut to its part
abbrev pub strip_lines : ObjectRow → List NamedSource → ℕ
strip_lines row sources = 21 + uses_lines (outside row) sources

-- an object is cut to its part, the extents outside are gone, their sources count them no more, and those that go with their
-- last extent are gone; what is charged less was given back, and all else stays
pub record ObjectStripped (object : ℕ) (row : ObjectRow) (sources : List NamedSource) (old new : Heap) : Type 0 where
  pub changes : Changes old.blocks new.blocks (object_entries object row ++ sources_entries sources)
      (object_entries object (stripped row) ++ sources_left row.account (outside row) sources)
  pub others : besides new
      ≡ besides (with_occupied (with_moves old (gave (gone_outside row sources))) row.account
      (minus (occupied_in old row.account) (stripped_amounts row sources)))

-- so it is with whichever object is kept
pub record StripsObject (object : ℕ) (old new : Heap) : Type 0 where
  pub kind : IsKind (old.blocks object) kinds.Object
  pub strips : (row : ObjectRow) (sources : List NamedSource) → KeepsToStrip old.blocks object row sources →
      ObjectStripped object row sources old new

-- with whichever object is kept, some first ones of the blocks that go were given back
pub record StripsSome (object : ℕ) (old new : Heap) : Type 0 where
  pub kind : IsKind (old.blocks object) kinds.Object
  pub gave : (row : ObjectRow) (sources : List NamedSource) → KeepsToStrip old.blocks object row sources →
      GaveSome (gone_outside row sources) old new

-- why no object is cut to its part: for the address, and all is as before; or there is no log room; or a fault
abbrev pub StripStops : ℕ → Heap → Heap → Stop → Type 0
StripStops object old new (Refused (refusals.BadAddress bad)) =
    Misses (old.blocks object) object kinds.Object (Refused (refusals.BadAddress bad)) × (new ≡ old)
StripStops object old new (Refused (refusals.WrongKind bad number)) =
    Misses (old.blocks object) object kinds.Object (Refused (refusals.WrongKind bad number)) × (new ≡ old)
StripStops object old new (Refused (refusals.LogFull lines room)) = StripsSome object old new
StripStops object old new stop = OnlyFault stop
