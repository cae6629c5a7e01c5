-- Headers and trailers that go, and why none does.
use Rattle.std.specs.Prelude.{◌≡◌, ◌-◌, ℕ, List, [], ◌∷◌, ◌++◌, length, drop, take, slice_get, Option, None, Some}
use Rattle.sdr_base.specs.Blocks.{IsKind}
use Rattle.sdr_base.specs.Entries.{Changes}
use Rattle.sdr_base.specs.Making.{GaveSome, besides, with_moves}
use Rattle.sdr_base.specs.Objects.{Heap, Misses, OnlyFault}
use Rattle.sdr_base.specs.ZcoObjects.{CapsuleRow, ObjectRow, object_entries}
use Rattle.sdr_base.specs.declared.kind.Kind.TheVariants as kinds
use Rattle.sdr_base.specs.declared.moves.Move.TheVariants.{Gave}
use Rattle.sdr_base.specs.declared.refusal.Refusal.TheVariants as refusals
use Rattle.sdr_base.specs.declared.stop.Stop.{Stop}
use Rattle.sdr_base.specs.declared.stop.Stop.TheVariants.{Refused}
use Rattle.sdr_model.specs.Amounts.{minus}
use Rattle.zco_acct.specs.Words.{occupied_in, with_occupied}
use Rattle.zco_obj.specs.Amounts.{capsule_amounts}
use Rattle.zco_obj.specs.Chains.{IsSpot, with_capsules}
use Rattle.zco_obj.specs.Kept.{KeepsObject}
use Rattle.zco_obj.specs.declared.linking.Side.{Side}

-- the first header
abbrev pub first_header : ObjectRow → Option CapsuleRow
first_header row = slice_get row.headers 0

-- the last trailer
abbrev pub last_trailer : ObjectRow → Option CapsuleRow
last_trailer row = slice_get row.trailers (length row.trailers - 1)

-- the object without its first header
abbrev pub without_header : ObjectRow → ObjectRow
without_header row = record row { headers = drop 1 row.headers }

-- the object without its last trailer
abbrev pub without_trailer : ObjectRow → ObjectRow
without_trailer row = record row { trailers = take (length row.trailers - 1) row.trailers }

-- this header or trailer has gone, what it charged was given back, and all else stays
pub record Discarded (object : ℕ) (row after : ObjectRow) (c : CapsuleRow) (old new : Heap) : Type 0 where
  pub changes : Changes old.blocks new.blocks (object_entries object row) (object_entries object after)
  pub others : besides new
      ≡ besides (with_occupied (with_moves old (Gave c.addr ∷ [])) row.account
      (minus (occupied_in old row.account) (capsule_amounts c.text)))

-- so has the one that was picked, and there is one
abbrev pub DiscardsOne : ℕ → ObjectRow → Option CapsuleRow → ObjectRow → Heap → Heap → Type 0
DiscardsOne object row None after old new = ⊥
DiscardsOne object row (Some c) after old new = Discarded object row after c old new

-- whichever object is kept has lost the one that `picks` says, and is as `without` says
pub record DiscardsCapsule (picks : ObjectRow → Option CapsuleRow) (without : ObjectRow → ObjectRow) (object : ℕ) (old new : Heap)
    : Type 0 where
  pub kind : IsKind (old.blocks object) kinds.Object
  pub discards : (row : ObjectRow) → KeepsObject old.blocks object row →
      DiscardsOne object row (picks row) (without row) old new

-- whichever object is kept has none
pub record LacksCapsule (picks : ObjectRow → Option CapsuleRow) (object : ℕ) (heap : Heap) : Type 0 where
  pub kind : IsKind (heap.blocks object) kinds.Object
  pub none : (row : ObjectRow) → KeepsObject heap.blocks object row → picks row ≡ None

-- no move was made, or the one that was picked was given back and that was all; and there is one
abbrev pub GaveOne : Option CapsuleRow → Heap → Heap → Type 0
GaveOne None old new = ⊥
GaveOne (Some c) old new = GaveSome (c.addr ∷ []) old new

-- so it was with whichever object is kept
pub record GaveCapsule (picks : ObjectRow → Option CapsuleRow) (object : ℕ) (old new : Heap) : Type 0 where
  pub kind : IsKind (old.blocks object) kinds.Object
  pub gave : (row : ObjectRow) → KeepsObject old.blocks object row → GaveOne (picks row) old new

-- why none goes: for the object, or since it has none, and all is as before; or there is no log room; or a fault
abbrev pub DiscardStops : (ObjectRow → Option CapsuleRow) → ℕ → Heap → Heap → Stop → Type 0
DiscardStops picks object old new (Refused (refusals.NoCapsule)) = LacksCapsule picks object old × (new ≡ old)
DiscardStops picks object old new (Refused (refusals.LogFull lines room)) = GaveCapsule picks object old new
DiscardStops picks object old new (Refused refusal) =
    Misses (old.blocks object) object kinds.Object (Refused refusal) × (new ≡ old)
DiscardStops picks object old new stop = OnlyFault stop

-- whichever header or trailer stands between these in whichever object is kept has gone, and what it charged
pub record DiscardsSpot (side : Side) (object prev gone next : ℕ) (old new : Heap) : Type 0 where
  pub discards : (row : ObjectRow) (before : List CapsuleRow) (c : CapsuleRow) (behind : List CapsuleRow) →
      KeepsObject old.blocks object row → IsSpot side row prev next before c behind → gone ≡ c.addr →
      Discarded object row (with_capsules side (before ++ behind) row) c old new

-- why it isn't: there is no log room, and it was given back at most; or a fault
abbrev pub SpotStops : ℕ → Heap → Heap → Stop → Type 0
SpotStops gone old new (Refused (refusals.LogFull lines room)) = GaveSome (gone ∷ []) old new
SpotStops gone old new (Refused refusal) = ⊥
SpotStops gone old new stop = OnlyFault stop
