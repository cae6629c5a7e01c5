-- A part of an object that is cloned, and why it isn't.
use Rattle.std.specs.Prelude.{◌≡◌, ◌+◌, ◌-◌, ◌<◌, ◌≤◌, ◌⊎◌, ℕ, List, [], ◌∷◌, ◌++◌, length, All, None, Some}
use Rattle.sdr_base.specs.Blocks.{Blocks, IsKind}
use Rattle.sdr_base.specs.Linked.{first_of}
use Rattle.sdr_base.specs.Objects.{Heap, Misses, OnlyFault}
use Rattle.sdr_base.specs.ZcoObjects.{ExtentRow, ObjectRow, extent_addr, object_entries}
use Rattle.sdr_base.specs.declared.account.Acct.{Acct}
use Rattle.sdr_base.specs.declared.kind.Kind.TheVariants as kinds
use Rattle.sdr_base.specs.declared.moves.Move.{Move}
use Rattle.sdr_base.specs.declared.moves.Move.TheVariants.{Short, Took}
use Rattle.sdr_base.specs.declared.refusal.Refusal.{Refusal}
use Rattle.sdr_base.specs.declared.refusal.Refusal.TheVariants as refusals
use Rattle.sdr_base.specs.declared.stop.Stop.{Stop}
use Rattle.sdr_base.specs.declared.stop.Stop.TheVariants.{Refused}
use Rattle.sdr_model.specs.Things.{extent_need, object_need}
use Rattle.sdr_model.specs.declared.accounts.Ticket.{Ticket}
use Rattle.zco_acct.specs.Charges.{ChargesAccount, ChargeStops}
use Rattle.zco_obj.specs.Beside.{KeepsBeside}
use Rattle.zco_obj.specs.Charging.{IsFree, Pays, refusal_in}
use Rattle.zco_obj.specs.Gone.{NamedSource, sources_entries}
use Rattle.zco_obj.specs.Kept.{KeepsObject}
use Rattle.zco_obj.specs.Walks.{ExtentsAt}
use Rattle.zco_part.specs.Charging.{clone_amounts}
use Rattle.zco_part.specs.Copying.{parts, takes_extents}
use Rattle.zco_part.specs.Delimiting.{OfObject}
use Rattle.zco_part.specs.Pieces.{asked, extents_at, whole_row}
use Rattle.zco_part.specs.Sources.{AreCountable, all_counted}
use Rattle.zco_part.specs.declared.cloning.Asked.{Asked}

-- the heap keeps an object with its queue, and beside them the sources that its extents name, each of which may count more
pub record KeepsToClone (heap : Heap) (object : ℕ) (row : ObjectRow) (tickets : List Ticket) (sources : List NamedSource) : Type 0 where
  pub beside : KeepsBeside heap object row tickets (sources_entries sources)
  pub may : AreCountable row.extents sources

-- it keeps some object so, and has room for the moves
pub record SomeToClone (heap : Heap) (object offset bytes : ℕ) : Type 0 where
  pub row : ObjectRow
  pub tickets : List Ticket
  pub sources : List NamedSource
  pub keeps : KeepsToClone heap object row tickets sources
  pub room : 1 + length (asked offset bytes row) ≤ heap.spare

-- where an object's block stands, an object is kept so
abbrev pub IsToClone : Heap → ℕ → ℕ → ℕ → Type 0
IsToClone heap object offset bytes = IsKind (heap.blocks object) kinds.Object → SomeToClone heap object offset bytes

-- an object stands there, and P holds of whichever is kept with its queue and its sources
pub record OfCloned (P : ObjectRow → List Ticket → Type 0) (object : ℕ) (heap : Heap) : Type 0 where
  pub kind : IsKind (heap.blocks object) kinds.Object
  pub holds : (row : ObjectRow) (tickets : List Ticket) (sources : List NamedSource) →
      KeepsToClone heap object row tickets sources → P row tickets

-- so many bytes are one at least, and lie within the part, from a place in it on
pub record HasRange (offset bytes : ℕ) (row : ObjectRow) : Type 0 where
  pub some : 1 ≤ bytes
  pub within : offset + bytes ≤ row.part_length

-- a range is refused: it has no byte, or doesn't lie within so many
abbrev pub IsBad : ℕ → ℕ → ℕ → Stop → Type 0
IsBad offset bytes have (Refused (refusals.BadRange at count most)) =
    (at ≡ offset) × (count ≡ bytes) × (most ≡ have) × ((bytes ≡ 0) ⊎ (have < offset + bytes))
IsBad offset bytes have stop = ⊥

-- the part hasn't the range, for which the call is refused
abbrev pub LacksRange : ℕ → ℕ → Refusal → ObjectRow → Type 0
LacksRange offset bytes refusal row = IsBad offset bytes row.part_length (Refused refusal)

-- where the extents of an object begin, and the places of their bytes that are asked for
pub record SeesAsked (blocks : Blocks) (object offset bytes : ℕ) (seen : Asked) : Type 0 where
  pub first : (row : ObjectRow) → KeepsObject blocks object row → seen.first ≡ first_of extent_addr 0 row.extents
  pub from : (row : ObjectRow) → KeepsObject blocks object row → seen.span.from ≡ row.part_offset + offset
  pub to : (row : ObjectRow) → KeepsObject blocks object row → seen.span.to ≡ row.part_offset + offset + bytes

-- the account is charged for an object of what is asked for, whichever chain is there
pub record ChargesClone (acct : Acct) (number : ℕ) (seen : Asked) (old new : Heap) : Type 0 where
  pub charges : (extents : List ExtentRow) → ExtentsAt old.blocks seen.first extents →
      ChargesAccount acct number (clone_amounts (parts seen.span extents)) old new

-- or why it isn't
pub record StopsClone (acct : Acct) (number : ℕ) (seen : Asked) (old new : Heap) (stop : Stop) : Type 0 where
  pub stops : (extents : List ExtentRow) → ExtentsAt old.blocks seen.first extents →
      ChargeStops acct number (clone_amounts (parts seen.span extents)) old new stop

-- the part has the range, and the object's account allows an object of it
abbrev pub CloneAllowed : ℕ → ℕ → ℕ → Heap → ObjectRow → List Ticket → Type 0
CloneAllowed number offset bytes heap row tickets =
    HasRange offset bytes row
    × (refusal_in heap row.account number (clone_amounts (asked offset bytes row)) tickets ≡ None)

-- the part has the range, and the account has this cause to refuse an object of it
abbrev pub CloneRefused : ℕ → ℕ → ℕ → Refusal → Heap → ObjectRow → List Ticket → Type 0
CloneRefused number offset bytes refusal heap row tickets =
    HasRange offset bytes row
    × (refusal_in heap row.account number (clone_amounts (asked offset bytes row)) tickets ≡ Some refusal)

-- the moves of a clone whose own block has an address, and whose extents' blocks have these
abbrev pub takes_clone : ℕ → List ℕ → List Move
takes_clone clone addrs = Took object_need clone ∷ takes_extents addrs

-- of an object there is a clone now: an object of the same account, whose extents are the pieces asked for, each in a block of
-- its own, and whose part is its whole; the account was charged for its blocks, and its sources count its extents
pub record IsCloned (object number offset bytes clone : ℕ) (addrs : List ℕ) (old new : Heap) (row : ObjectRow) (tickets : List Ticket)
    (sources : List NamedSource) : Type 0 where
  pub each : length addrs ≡ length (asked offset bytes row)
  pub pays : Pays row.account number (clone_amounts (asked offset bytes row)) tickets (takes_clone clone addrs)
      (object_entries object row ++ sources_entries sources)
      (object_entries clone (whole_row row.account (extents_at addrs (asked offset bytes row)))
      ++ (object_entries object row ++ sources_entries (all_counted row.account (asked offset bytes row) sources))) old new

-- so it is with whichever object is kept
pub record ClonesPart (object number offset bytes : ℕ) (old new : Heap) (clone : ℕ) : Type 0 where
  pub has : OfObject (HasRange offset bytes) object old
  pub new_block : IsFree old.blocks clone
  pub addrs : List ℕ
  pub new_blocks : All (IsFree old.blocks) addrs
  pub clones : (row : ObjectRow) (tickets : List Ticket) (sources : List NamedSource) → KeepsToClone old object row tickets sources →
      IsCloned object number offset bytes clone addrs old new row tickets sources

-- the moves of a clone as far as blocks were taken: its own is the first
abbrev pub takes_first : List ℕ → List Move
takes_first [] = []
takes_first (clone ∷ addrs) = takes_clone clone addrs

-- what the next block of it is to have, where these were taken
abbrev pub next_need : List ℕ → ℕ
next_need [] = object_need
next_need (clone ∷ addrs) = extent_need

-- not all blocks of a clone were taken, and want of the next one is noted
pub record LacksNext (object offset bytes missing : ℕ) (old new : Heap) : Type 0 where
  pub addrs : List ℕ
  pub is : missing ≡ next_need addrs
  pub few : OfCloned (λ row tickets. length addrs < 1 + length (asked offset bytes row)) object old
  pub moves : new.moves ≡ old.moves ++ (takes_first addrs ++ Short missing ∷ [])
  pub spare : new.spare ≡ old.spare - (length addrs + 1)

-- some first blocks of a clone at most were taken, and no other move was made
pub record TookFirst (object offset bytes : ℕ) (old new : Heap) : Type 0 where
  pub addrs : List ℕ
  pub few : OfCloned (λ row tickets. length addrs ≤ 1 + length (asked offset bytes row)) object old
  pub moves : new.moves ≡ old.moves ++ takes_first addrs
  pub spare : new.spare ≡ old.spare - length addrs

-- why no part is cloned: for the object's address, or since its part hasn't the bytes, or its account refuses, in this order,
-- and all is as before; or there is no block for the clone or for one of its extents, or no log room; or a fault
abbrev pub CloneStops : ℕ → ℕ → ℕ → ℕ → Heap → Heap → Stop → Type 0
CloneStops object number offset bytes old new (Refused (refusals.BadAddress bad)) =
    Misses (old.blocks object) object kinds.Object (Refused (refusals.BadAddress bad)) × (new ≡ old)
CloneStops object number offset bytes old new (Refused (refusals.WrongKind bad kind)) =
    Misses (old.blocks object) object kinds.Object (Refused (refusals.WrongKind bad kind)) × (new ≡ old)
CloneStops object number offset bytes old new (Refused (refusals.BadRange at count have)) =
    OfObject (LacksRange offset bytes (refusals.BadRange at count have)) object old × (new ≡ old)
CloneStops object number offset bytes old new (Refused (refusals.NoBlock missing)) =
    OfCloned (CloneAllowed number offset bytes old) object old × LacksNext object offset bytes missing old new
CloneStops object number offset bytes old new (Refused (refusals.LogFull lines room)) =
    OfCloned (CloneAllowed number offset bytes old) object old × TookFirst object offset bytes old new
CloneStops object number offset bytes old new (Refused refusal) =
    OfCloned (CloneRefused number offset bytes refusal old) object old × (new ≡ old)
CloneStops object number offset bytes old new stop = OnlyFault stop
