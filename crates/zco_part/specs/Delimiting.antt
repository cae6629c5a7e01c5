-- The part of an object that is set, and when it is refused.
use Rattle.std.specs.Prelude.{◌≡◌, ◌+◌, ◌<◌, ◌≤◌, ℕ}
use Rattle.sdr_base.specs.Blocks.{IsKind}
use Rattle.sdr_base.specs.Entries.{Changes}
use Rattle.sdr_base.specs.Making.{besides}
use Rattle.sdr_base.specs.Objects.{Heap, IsUnmoved, Misses, OnlyFault}
use Rattle.sdr_base.specs.ZcoObjects.{ObjectRow, object_entries}
use Rattle.sdr_base.specs.declared.kind.Kind.TheVariants as kinds
use Rattle.sdr_base.specs.declared.refusal.Refusal.{Refusal}
use Rattle.sdr_base.specs.declared.refusal.Refusal.TheVariants as refusals
use Rattle.sdr_base.specs.declared.stop.Stop.{Stop}
use Rattle.sdr_base.specs.declared.stop.Stop.TheVariants.{Refused}
use Rattle.zco_obj.specs.Kept.{KeepsObject, extents_length}

-- the object with another part: so many bytes of its extents, from a place on
abbrev pub with_part : ℕ → ℕ → ObjectRow → ObjectRow
with_part offset bytes row = record row { part_offset = offset; part_length = bytes }

-- an object stands there, and P holds of whichever is kept
pub record OfObject (P : ObjectRow → Type 0) (object : ℕ) (heap : Heap) : Type 0 where
  pub kind : IsKind (heap.blocks object) kinds.Object
  pub holds : (row : ObjectRow) → KeepsObject heap.blocks object row → P row

-- the extents have the bytes
abbrev pub HasPart : ℕ → ℕ → ObjectRow → Type 0
HasPart offset bytes row = offset + bytes ≤ extents_length row.extents

-- the part of whichever object is kept is this one now, which its extents have, and all else stays
pub record Delimits (object offset bytes : ℕ) (old new : Heap) : Type 0 where
  pub has : OfObject (HasPart offset bytes) object old
  pub changes : (row : ObjectRow) → KeepsObject old.blocks object row →
      Changes old.blocks new.blocks (object_entries object row) (object_entries object (with_part offset bytes row))
  pub same : besides new ≡ besides old

-- a part is refused for its range: it doesn't lie within so many bytes
abbrev pub IsPast : ℕ → ℕ → ℕ → Stop → Type 0
IsPast offset bytes have (Refused (refusals.BadRange at count most)) =
    (at ≡ offset) × (count ≡ bytes) × (most ≡ have) × (have < offset + bytes)
IsPast offset bytes have stop = ⊥

-- the extents haven't the bytes, for which the call is refused
abbrev pub LacksPart : ℕ → ℕ → Refusal → ObjectRow → Type 0
LacksPart offset bytes refusal row = IsPast offset bytes (extents_length row.extents) (Refused refusal)

-- why the part isn't set: for the object's address, or since its extents haven't the bytes, and all is as before; or there is
-- no log room, and no move was made; or a fault
abbrev pub DelimitStops : ℕ → ℕ → ℕ → Heap → Heap → Stop → Type 0
DelimitStops object offset bytes old new (Refused (refusals.BadRange at count have)) =
    OfObject (LacksPart offset bytes (refusals.BadRange at count have)) object old × (new ≡ old)
DelimitStops object offset bytes old new (Refused (refusals.LogFull lines room)) =
    OfObject (HasPart offset bytes) object old × IsUnmoved old new
DelimitStops object offset bytes old new (Refused refusal) =
    Misses (old.blocks object) object kinds.Object (Refused refusal) × (new ≡ old)
DelimitStops object offset bytes old new stop = OnlyFault stop
