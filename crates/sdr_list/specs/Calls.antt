-- What the calls on lists come to, and when they are refused.
use Rattle.std.specs.Prelude.{◌≡◌, ℕ, [], ◌∷◌}
use Rattle.sdr_base.specs.Blocks.{Blocks, IsKind}
use Rattle.sdr_base.specs.Entries.{Adds, Changes}
use Rattle.sdr_base.specs.Lists.{ListRow, KeepsList, list_entries}
use Rattle.sdr_base.specs.Making.{Made, besides}
use Rattle.sdr_base.specs.Objects.{Heap, Misses, OnlyFault, OnlyShort, OnlyUnmoved}
use Rattle.sdr_base.specs.declared.kind.Kind.{Kind}
use Rattle.sdr_base.specs.declared.kind.Kind.TheVariants as kinds
use Rattle.sdr_base.specs.declared.moves.Move.TheVariants.{Took, Gave}
use Rattle.sdr_base.specs.declared.refusal.Refusal.TheVariants as refusals
use Rattle.sdr_base.specs.declared.stop.Stop.{Stop}
use Rattle.sdr_base.specs.declared.stop.Stop.TheVariants.{Refused}
use Rattle.sdr_list.specs.Kept.{IsSpot, Spot, with_element, without_element}

-- a number that is told of whichever list is kept
pub record TellsOfList (list : ℕ) (of : ListRow → ℕ) (blocks : Blocks) (value : ℕ) : Type 0 where
  pub kind : IsKind (blocks list) kinds.List
  pub tells : (row : ListRow) → KeepsList blocks list row → value ≡ of row

-- a number that is told of whichever place the element has
pub record TellsOfElement (element : ℕ) (of : Spot → ℕ) (blocks : Blocks) (value : ℕ) : Type 0 where
  pub kind : IsKind (blocks element) kinds.Element
  pub tells : (spot : Spot) → IsSpot blocks element spot → value ≡ of spot

-- whichever list is kept has become another, with no move, and all else stays
pub record SetsInList (list : ℕ) (f : ListRow → ListRow) (old new : Heap) : Type 0 where
  pub kind : IsKind (old.blocks list) kinds.List
  pub changes : (row : ListRow) → KeepsList old.blocks list row →
      Changes old.blocks new.blocks (list_entries list row) (list_entries list (f row))
  pub same : besides new ≡ besides old

-- whichever list has the element has become another, with no move, and all else stays
pub record SetsInElement (element : ℕ) (f : Spot → ListRow) (old new : Heap) : Type 0 where
  pub kind : IsKind (old.blocks element) kinds.Element
  pub changes : (spot : Spot) → IsSpot old.blocks element spot →
      Changes old.blocks new.blocks (list_entries spot.list spot.row) (list_entries spot.list (f spot))
  pub same : besides new ≡ besides old

-- a new element has come into whichever list is kept, at this place, and all else stays
pub record InsertsInList (list : ℕ) (place : ListRow → ℕ) (datum addr : ℕ) (old new : Heap) : Type 0 where
  pub kind : IsKind (old.blocks list) kinds.List
  pub adds : (row : ListRow) → KeepsList old.blocks list row →
      Adds old.blocks new.blocks addr (list_entries list row) (list_entries list (with_element row (place row) addr datum))
  pub made : Made (Took 32 addr ∷ []) old new

-- a new element has come beside another, at the place that is found from that one's, and all else stays
pub record InsertsBeside (element : ℕ) (place : ℕ → ℕ) (datum addr : ℕ) (old new : Heap) : Type 0 where
  pub kind : IsKind (old.blocks element) kinds.Element
  pub adds : (spot : Spot) → IsSpot old.blocks element spot →
      Adds old.blocks new.blocks addr (list_entries spot.list spot.row)
      (list_entries spot.list (with_element spot.row (place spot.place) addr datum))
  pub made : Made (Took 32 addr ∷ []) old new

-- why none has come: for the address, and all is as before; or there is no block for it, or no log room; or a fault
abbrev pub InsertStops : Kind → ℕ → Heap → Heap → Stop → Type 0
InsertStops kind addr old new (Refused (refusals.BadAddress bad)) =
    Misses (old.blocks addr) addr kind (Refused (refusals.BadAddress bad)) × (new ≡ old)
InsertStops kind addr old new (Refused (refusals.WrongKind bad number)) =
    Misses (old.blocks addr) addr kind (Refused (refusals.WrongKind bad number)) × (new ≡ old)
InsertStops kind addr old new (Refused refusal) =
    IsKind (old.blocks addr) kind × OnlyShort 32 old new (Refused refusal)
InsertStops kind addr old new stop = OnlyFault stop

-- the element was taken out of whichever list has it, and given back, and all else stays
pub record DeletesElement (element : ℕ) (old new : Heap) : Type 0 where
  pub kind : IsKind (old.blocks element) kinds.Element
  pub changes : (spot : Spot) → IsSpot old.blocks element spot →
      Changes old.blocks new.blocks (list_entries spot.list spot.row)
      (list_entries spot.list (without_element spot.row spot.place))
  pub made : Made (Gave element ∷ []) old new

-- why a call that changes a list isn't done: for the address, and all is as before; or there is no log room, and no move
-- was made; or a fault
abbrev pub ChangeStops : Kind → ℕ → Heap → Heap → Stop → Type 0
ChangeStops kind addr old new (Refused (refusals.BadAddress bad)) =
    Misses (old.blocks addr) addr kind (Refused (refusals.BadAddress bad)) × (new ≡ old)
ChangeStops kind addr old new (Refused (refusals.WrongKind bad number)) =
    Misses (old.blocks addr) addr kind (Refused (refusals.WrongKind bad number)) × (new ≡ old)
ChangeStops kind addr old new (Refused refusal) =
    IsKind (old.blocks addr) kind × OnlyUnmoved old new (Refused refusal)
ChangeStops kind addr old new stop = OnlyFault stop
