-- What the end of a list comes to, and when it is refused.
use Rattle.std.specs.Prelude.{◌≡◌, ℕ, [], ◌∷◌, ◌++◌, map}
use Rattle.sdr_base.specs.Blocks.{IsKind}
use Rattle.sdr_base.specs.Entries.{Changes}
use Rattle.sdr_base.specs.Lists.{ListRow, KeepsList, addr_of, list_entries}
use Rattle.sdr_base.specs.Making.{GaveSome, Made, gave}
use Rattle.sdr_base.specs.Objects.{Heap, Misses, OnlyFault}
use Rattle.sdr_base.specs.declared.kind.Kind.TheVariants as kinds
use Rattle.sdr_base.specs.declared.refusal.Refusal.TheVariants as refusals
use Rattle.sdr_base.specs.declared.stop.Stop.{Stop}
use Rattle.sdr_base.specs.declared.stop.Stop.TheVariants.{Refused}

-- whichever list is kept is gone with its elements: they were given back in order, and then the list
pub record DestroysList (list : ℕ) (old new : Heap) : Type 0 where
  pub kind : IsKind (old.blocks list) kinds.List
  pub changes : (row : ListRow) → KeepsList old.blocks list row → Changes old.blocks new.blocks (list_entries list row) []
  pub made : (row : ListRow) → KeepsList old.blocks list row → Made (gave (map addr_of row.elements ++ list ∷ [])) old new

-- there was no log room, and some first ones were given back
pub record DestroysSome (list : ℕ) (old new : Heap) : Type 0 where
  pub kind : IsKind (old.blocks list) kinds.List
  pub gave : (row : ListRow) → KeepsList old.blocks list row → GaveSome (map addr_of row.elements ++ list ∷ []) old new

-- why the list isn't destroyed: for the address, and all is as before; or there is no log room; or a fault
abbrev pub DestroyStops : ℕ → Heap → Heap → Stop → Type 0
DestroyStops list old new (Refused (refusals.BadAddress bad)) =
    Misses (old.blocks list) list kinds.List (Refused (refusals.BadAddress bad)) × (new ≡ old)
DestroyStops list old new (Refused (refusals.WrongKind bad number)) =
    Misses (old.blocks list) list kinds.List (Refused (refusals.WrongKind bad number)) × (new ≡ old)
DestroyStops list old new (Refused (refusals.LogFull lines room)) = DestroysSome list old new
DestroyStops list old new stop = OnlyFault stop
