-- An object that is bonded, and why it isn't.
use Rattle.std.specs.Prelude.{◌≡◌, ◌*◌, ◌≤◌, ℕ, List, [], ◌∷◌, ◌++◌, length, sum_by, All}
use Rattle.sdr_base.specs.Blocks.{IsKind}
use Rattle.sdr_base.specs.Entries.{Changes}
use Rattle.sdr_base.specs.Linked.{first_of, last_of}
use Rattle.sdr_base.specs.Making.{Made, besides}
use Rattle.sdr_base.specs.Objects.{Heap, Misses, OnlyFault}
use Rattle.sdr_base.specs.ZcoObjects.{ExtentRow, ObjectRow, extent_addr, extent_entries, object_block, object_entries}
use Rattle.sdr_base.specs.declared.kind.Kind.TheVariants as kinds
use Rattle.sdr_base.specs.declared.refusal.Refusal.TheVariants as refusals
use Rattle.sdr_base.specs.declared.stop.Stop.{Stop}
use Rattle.sdr_base.specs.declared.stop.Stop.TheVariants.{Refused}
use Rattle.sdr_model.specs.declared.accounts.Ticket.{Ticket}
use Rattle.zco_obj.specs.Charging.{Pays}
use Rattle.zco_obj.specs.Kept.{KeepsObject, KeepsWithQueue, extents_length}
use Rattle.zco_bond.specs.Bonded.{BondedCapsule, IsSmall, bonded_sources, bonding_moves, capsules_of, joined, whole_of}
use Rattle.zco_bond.specs.Chaining.{IsBondRow, bond_lines}
use Rattle.zco_bond.specs.Charging.{BondAllowed, BondRefused, bond_amounts, ends_of}
use Rattle.zco_bond.specs.Fresh.{Fresh, TakesFree, is_free}
use Rattle.zco_bond.specs.Rows.{LacksAmong, MadeAmong, RowStops}
use Rattle.zco_bond.specs.declared.gap.Chain.{Chain}

-- an object is kept, and there is room for the moves in which it is bonded
pub record SomeToBond (heap : Heap) (object : ℕ) : Type 0 where
  pub row : ObjectRow
  pub keeps : KeepsObject heap.blocks object row
  pub room : 4 * length (ends_of row) ≤ heap.spare

-- the heap keeps some object with its queue, and has room for the moves in which it is bonded
pub record SomeBond (heap : Heap) (object : ℕ) : Type 0 where
  pub row : ObjectRow
  pub tickets : List Ticket
  pub keeps : KeepsWithQueue heap object row tickets
  pub room : 4 * length (ends_of row) ≤ heap.spare

-- where an object's block stands, an object is kept so
abbrev pub IsToBond : Heap → ℕ → Type 0
IsToBond heap object = IsKind (heap.blocks object) kinds.Object → SomeBond heap object

-- so many lines are touched at most where the headers and trailers of an object become extents
abbrev pub ends_lines : ObjectRow → ℕ
ends_lines row = sum_by bond_lines (ends_of row)

-- these are what the headers and the trailers of an object became
pub record AreBonded (row : ObjectRow) (headers trailers : List BondedCapsule) : Type 0 where
  pub of_headers : capsules_of headers ≡ row.headers
  pub of_trailers : capsules_of trailers ≡ row.trailers
  pub headers_small : All IsSmall headers
  pub trailers_small : All IsSmall trailers

-- a chain begins and ends with these extents
pub record AreEnds (chain : Chain) (extents : List ExtentRow) : Type 0 where
  pub first : chain.first ≡ first_of extent_addr 0 extents
  pub last : chain.last ≡ last_of extent_addr 0 extents

-- all extents of an object, with those that its headers and trailers became, are one chain, of which this tells
-- the ends; its own block is as it was
pub record PartsBonded (object : ℕ) (row : ObjectRow) (old new : Heap) (chain : Chain) : Type 0 where
  pub headers : List BondedCapsule
  pub trailers : List BondedCapsule
  pub are : AreBonded row headers trailers
  pub ends : AreEnds chain (joined headers row.extents trailers)
  pub changes : Changes old.blocks new.blocks (object_entries object row)
      ((object, object_block row)
      ∷ (extent_entries (joined headers row.extents trailers) ++ bonded_sources row.account (headers ++ trailers)))
  pub made : Made (bonding_moves (headers ++ trailers)) old new
  pub fresh : Fresh (bonding_moves (headers ++ trailers)) old.blocks new.blocks

-- so it is with whichever object is kept
pub record BondsParts (object : ℕ) (old new : Heap) (chain : Chain) : Type 0 where
  pub bonds : (row : ObjectRow) → KeepsObject old.blocks object row → PartsBonded object row old new chain

-- why they aren't all bonded
pub record PartsStop (object : ℕ) (old new : Heap) (stop : Stop) : Type 0 where
  pub stops : (row : ObjectRow) → KeepsObject old.blocks object row → RowStops (IsBondRow (ends_of row)) old new stop

-- the block of whichever object is there says that a chain of extents is all that it has, and that its part is the whole
pub record SetsWhole (object : ℕ) (chain : Chain) (bytes : ℕ) (old new : Heap) : Type 0 where
  pub sets : (row : ObjectRow) (extents : List ExtentRow) → AreEnds chain extents → bytes ≡ extents_length extents →
      Changes old.blocks new.blocks ((object, object_block row) ∷ []) ((object, object_block (whole_of row extents)) ∷ [])
  pub same : besides new ≡ besides old

-- an object is bonded: its headers and trailers are extents of sources of their own, the part is the whole, and its account is
-- charged for what it charges more; each block that is taken begins where none is at that time
pub record ObjectBonded (object number : ℕ) (row : ObjectRow) (tickets : List Ticket) (old new : Heap) : Type 0 where
  pub headers : List BondedCapsule
  pub trailers : List BondedCapsule
  pub are : AreBonded row headers trailers
  pub takes : TakesFree (is_free old.blocks) (bonding_moves (headers ++ trailers))
  pub pays : Pays row.account number (bond_amounts row) tickets (bonding_moves (headers ++ trailers)) (object_entries object row)
      (object_entries object (whole_of row (joined headers row.extents trailers)) ++ bonded_sources row.account (headers ++ trailers))
      old new

-- so it is with whichever object is kept
pub record BondsObject (object number : ℕ) (old new : Heap) : Type 0 where
  pub kind : IsKind (old.blocks object) kinds.Object
  pub bonds : (row : ObjectRow) (tickets : List Ticket) → KeepsWithQueue old object row tickets →
      ObjectBonded object number row tickets old new

-- whichever object is kept, the moves in which it is bonded stopped for want of a block
pub record LacksBond (object missing : ℕ) (old new : Heap) : Type 0 where
  pub lacks : (row : ObjectRow) (tickets : List Ticket) → KeepsWithQueue old object row tickets →
      LacksAmong (IsBondRow (ends_of row)) missing old new

-- whichever object is kept, some first ones of the moves in which it is bonded were made
pub record BondsSome (object : ℕ) (old new : Heap) : Type 0 where
  pub made : (row : ObjectRow) (tickets : List Ticket) → KeepsWithQueue old object row tickets →
      MadeAmong (IsBondRow (ends_of row)) old new

-- an object stands there, and P holds
pub record OfObject (P : Type 0) (object : ℕ) (heap : Heap) : Type 0 where
  pub kind : IsKind (heap.blocks object) kinds.Object
  pub holds : P

-- why no object is bonded: for the address, or since its account refuses, in this order, and all is as before; or there is no
-- block for a part of it, or no log room; or a fault
abbrev pub BondStops : ℕ → ℕ → Heap → Heap → Stop → Type 0
BondStops object number old new (Refused (refusals.BadAddress bad)) =
    Misses (old.blocks object) object kinds.Object (Refused (refusals.BadAddress bad)) × (new ≡ old)
BondStops object number old new (Refused (refusals.WrongKind bad kind)) =
    Misses (old.blocks object) object kinds.Object (Refused (refusals.WrongKind bad kind)) × (new ≡ old)
BondStops object number old new (Refused (refusals.NoBlock missing)) =
    OfObject (BondAllowed object number old) object old × LacksBond object missing old new
BondStops object number old new (Refused (refusals.LogFull lines room)) =
    OfObject (BondAllowed object number old) object old × BondsSome object old new
BondStops object number old new (Refused refusal) =
    OfObject (BondRefused object number old refusal) object old × (new ≡ old)
BondStops object number old new stop = OnlyFault stop
