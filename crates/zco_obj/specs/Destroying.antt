-- The end of an object, and when it is refused.
use Rattle.std.specs.Prelude.{◌≡◌, ◌+◌, ◌*◌, ◌≤◌, ℕ, List, [], ◌∷◌, ◌++◌, length, map}
use Rattle.sdr_base.specs.Blocks.{Blocks, IsKind}
use Rattle.sdr_base.specs.Entries.{Changes, Entries, BlocksAre}
use Rattle.sdr_base.specs.Making.{GaveSome, Made, besides, gave, with_moves}
use Rattle.sdr_base.specs.Objects.{Heap, Misses, OnlyFault}
use Rattle.sdr_base.specs.ZcoObjects.{ObjectRow, capsule_addr, object_block, object_entries}
use Rattle.sdr_base.specs.declared.account.Amounts.{Amounts}
use Rattle.sdr_base.specs.declared.kind.Kind.TheVariants as kinds
use Rattle.sdr_base.specs.declared.refusal.Refusal.TheVariants as refusals
use Rattle.sdr_base.specs.declared.stop.Stop.{Stop}
use Rattle.sdr_base.specs.declared.stop.Stop.TheVariants.{Refused}
use Rattle.sdr_model.specs.Amounts.{minus, plus}
use Rattle.zco_acct.specs.Words.{occupied_in, with_occupied}
use Rattle.zco_obj.specs.Amounts.{heap_amounts, object_amounts}
use Rattle.zco_obj.specs.Uses.{AreNamed, uses_lines}
use Rattle.zco_obj.specs.Giving.{capsules_charge}
use Rattle.zco_obj.specs.Gone.{NamedSource, extents_amounts, gone_blocks, sources_entries, sources_left}
use Rattle.zco_obj.specs.Kept.{ObjectFits}

-- these blocks keep an object, and the sources that its extents name beside it
pub record KeepsSources (blocks : Blocks) (object : ℕ) (row : ObjectRow) (sources : List NamedSource) : Type 0 where
  pub rest : Entries
  pub stands : BlocksAre blocks (object_entries object row ++ (sources_entries sources ++ rest))
  pub fits : ObjectFits row
  pub named : AreNamed row.account row.extents sources

-- the addresses of the blocks that go before an object's own, in order: of the headers, of the extents with what goes with
-- each before it, and of the trailers
abbrev pub gone_parts : ObjectRow → List NamedSource → List ℕ
gone_parts row sources =
    map capsule_addr row.headers ++ gone_blocks sources row.extents row.extents ++ map capsule_addr row.trailers

-- the addresses of all that go with it
abbrev pub gone_object : ℕ → ObjectRow → List NamedSource → List ℕ
gone_object object row sources = gone_parts row sources ++ object ∷ []

-- the heap keeps some object so, and has room for the moves
pub record SomeWithSources (heap : Heap) (object : ℕ) : Type 0 where
  pub row : ObjectRow
  pub sources : List NamedSource
  pub keeps : KeepsSources heap.blocks object row sources
  pub room : length (gone_object object row sources) ≤ heap.spare

-- where an object's block stands, an object is kept so
abbrev pub IsWithSources : Heap → ℕ → Type 0
IsWithSources heap object = IsKind (heap.blocks object) kinds.Object → SomeWithSources heap object

-- what the parts of an object charge no more once they are gone
abbrev pub parts_amounts : ObjectRow → List NamedSource → Amounts
parts_amounts row sources =
    plus (extents_amounts row.account sources row.extents)
    (heap_amounts (capsules_charge row.headers + capsules_charge row.trailers))

-- what an object charges no more once it is gone, with its parts
abbrev pub charges_of : ObjectRow → List NamedSource → Amounts
charges_of row sources = plus (parts_amounts row sources) object_amounts

-- so many lines are touched at most where the parts of an object go
abbrev pub parts_lines : ObjectRow → List NamedSource → ℕ
parts_lines row sources = 24 * length row.headers + uses_lines row.extents sources + 24 * length row.trailers

-- the parts of an object were given back, with what goes with its extents; this is what is charged less, and its own block and
-- the others stand
pub record PartsGone (object : ℕ) (row : ObjectRow) (sources : List NamedSource) (rest : Entries) (old new : Heap) (charged : Amounts)
    : Type 0 where
  pub stands : BlocksAre new.blocks
      ((object, object_block row) ∷ (sources_left row.account row.extents sources ++ rest))
  pub made : Made (gave (gone_parts row sources)) old new
  pub charge : charged ≡ parts_amounts row sources

-- so it is with whichever object is kept
pub record GivesParts (object : ℕ) (old new : Heap) (charged : Amounts) : Type 0 where
  pub gives : (row : ObjectRow) (sources : List NamedSource) (k : KeepsSources old.blocks object row sources) →
      PartsGone object row sources k.rest old new charged

-- with whichever object is kept, some first ones of the blocks that go were given back
pub record GivesSomeParts (object : ℕ) (old new : Heap) : Type 0 where
  pub gives : (row : ObjectRow) (sources : List NamedSource) → KeepsSources old.blocks object row sources →
      GaveSome (gone_parts row sources) old new

-- why the parts aren't all given back: there is no log room; or a fault
abbrev pub PartStops : ℕ → Heap → Heap → Stop → Type 0
PartStops object old new (Refused (refusals.LogFull lines room)) = GivesSomeParts object old new
PartStops object old new stop = OnlyFault stop

-- an object is gone with its parts, its sources count its extents no more, and those that go with their last extent are gone;
-- what is charged less was given back, and all else stays
pub record ObjectGone (object : ℕ) (row : ObjectRow) (sources : List NamedSource) (old new : Heap) : Type 0 where
  pub changes : Changes old.blocks new.blocks (object_entries object row ++ sources_entries sources)
      (sources_left row.account row.extents sources)
  pub others : besides new
      ≡ besides (with_occupied (with_moves old (gave (gone_object object row sources))) row.account
      (minus (occupied_in old row.account) (charges_of row sources)))

-- so it is with whichever object is kept
pub record DestroysObject (object : ℕ) (old new : Heap) : Type 0 where
  pub kind : IsKind (old.blocks object) kinds.Object
  pub gone : (row : ObjectRow) (sources : List NamedSource) → KeepsSources old.blocks object row sources →
      ObjectGone object row sources old new

-- with whichever object is kept, some first ones of the blocks that go were given back
pub record DestroysSome (object : ℕ) (old new : Heap) : Type 0 where
  pub kind : IsKind (old.blocks object) kinds.Object
  pub gave : (row : ObjectRow) (sources : List NamedSource) → KeepsSources old.blocks object row sources →
      GaveSome (gone_object object row sources) old new

-- why no object is destroyed: for the address, and all is as before; or there is no log room; or a fault
abbrev pub DestroyStops : ℕ → Heap → Heap → Stop → Type 0
DestroyStops object old new (Refused (refusals.BadAddress bad)) =
    Misses (old.blocks object) object kinds.Object (Refused (refusals.BadAddress bad)) × (new ≡ old)
DestroyStops object old new (Refused (refusals.WrongKind bad number)) =
    Misses (old.blocks object) object kinds.Object (Refused (refusals.WrongKind bad number)) × (new ≡ old)
DestroyStops object old new (Refused (refusals.LogFull lines room)) = DestroysSome object old new
DestroyStops object old new stop = OnlyFault stop
