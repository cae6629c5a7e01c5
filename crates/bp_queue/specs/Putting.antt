-- One more waits.
use Rattle.std.specs.Prelude.{◌≡◌, ◌≢◌, ◌+◌, ◌<◌, ◌≤◌, ◌^◌, ℕ, List, [], ◌∷◌, ◌++◌, All, Any, Option, None, Some}
use Rattle.sdr_base.specs.Blocks.{Blocks, IsKind}
use Rattle.sdr_base.specs.Entries.{BlocksAre, Entries}
use Rattle.sdr_base.specs.Making.{Made, besides}
use Rattle.sdr_base.specs.Objects.{Heap, Misses, OnlyFault}
use Rattle.sdr_base.specs.declared.kind.Kind.TheVariants as kinds
use Rattle.sdr_base.specs.declared.moves.Move.TheVariants.{Took}
use Rattle.sdr_base.specs.declared.refusal.Refusal.TheVariants as refusals
use Rattle.sdr_base.specs.declared.stop.Stop.{Stop}
use Rattle.sdr_base.specs.declared.stop.Stop.TheVariants.{Refused}
use Rattle.bp_queue.specs.Kept.{FitQueue, KeepsQueues, Row, RowFits, class_row, four_lists, item_entries, items_entries, last_number, line_row, state_of}
use Rattle.bp_queue.specs.Lacking.{LacksRoom}
use Rattle.bp_queue.specs.Runs.{QueueStep, Puts}
use Rattle.bp_queue.specs.States.{Waiting}
use Rattle.bp_queue.specs.declared.putting.Wanted.{Wanted}
use Rattle.bp_queue.specs.declared.putting.Elements.{Elements}
use Rattle.bp_queue.specs.declared.queues.Queues.{Queues}

-- no row names the object
abbrev pub IsUnnamed : ℕ → List Row → Type 0
IsUnnamed object rows = All (λ r. r.waiting.object ≢ object) rows

-- a row names the object, and this is its item
abbrev pub IsNamedBy : ℕ → ℕ → List Row → Type 0
IsNamedBy object item rows = Any (λ r. (r.waiting.object ≡ object) × (r.waiting.item ≡ item)) rows

-- no row names the object, or the one whose item this is does
abbrev pub NamesObject : ℕ → List Row → Option ℕ → Type 0
NamesObject object rows None = IsUnnamed object rows
NamesObject object rows (Some item) = IsNamedBy object item rows

-- so it is with whichever queues are kept
pub record FindsItem (q : Queues) (object : ℕ) (blocks : Blocks) (item : Option ℕ) : Type 0 where
  pub finds : (next : ℕ) (rows : List Row) (rest : Entries) → KeepsQueues blocks q next rows rest → NamesObject object rows item

-- the row of one that is to wait, once its item and its elements stand at these addresses
abbrev pub row_of : Wanted → ℕ → Elements → Row
row_of w item at = record {
  waiting = record { item = item; class = w.class; ordinal = w.ordinal; deadline = w.deadline; object = w.object };
  number = w.number;
  in_class = at.in_class;
  in_line = at.in_line;
}

-- no elements yet
abbrev pub nowhere : Elements
nowhere = record { in_class = 0; in_line = 0 }

-- queues are kept, and beside them an item that isn't in their lists
pub record KeepsUnlisted (blocks : Blocks) (q : Queues) (w : Wanted) (item next : ℕ) (rows : List Row) (rest : Entries) : Type 0 where
  pub keeps : KeepsQueues blocks q next rows (item_entries (row_of w item nowhere) ++ rest)
  pub fits : RowFits (row_of w item nowhere)

-- some queues are
pub record SomeUnlisted (blocks : Blocks) (q : Queues) (w : Wanted) (item : ℕ) : Type 0 where
  pub next : ℕ
  pub rows : List Row
  pub rest : Entries
  pub keeps : KeepsUnlisted blocks q w item next rows rest

-- the lists of the queues have the item too, which doesn't say so
pub record KeepsListed (blocks : Blocks) (q : Queues) (w : Wanted) (item : ℕ) (at : Elements) (next : ℕ) (rows : List Row) (rest : Entries)
    : Type 0 where
  pub stands : BlocksAre blocks
      (four_lists q (class_row (rows ++ row_of w item at ∷ [])) (line_row next (rows ++ row_of w item at ∷ []))
      (items_entries rows ++ (item_entries (row_of w item nowhere) ++ rest)))
  pub fits : FitQueue q next rows
  pub row : RowFits (row_of w item at)

-- some queues are kept so
pub record SomeListed (blocks : Blocks) (q : Queues) (w : Wanted) (item : ℕ) (at : Elements) : Type 0 where
  pub next : ℕ
  pub rows : List Row
  pub rest : Entries
  pub keeps : KeepsListed blocks q w item at next rows rest

-- the item has come into the lists of whichever queues are kept
pub record Enlists (q : Queues) (w : Wanted) (item : ℕ) (old new : Heap) (at : Elements) : Type 0 where
  pub enlists : (next : ℕ) (rows : List Row) (rest : Entries) → KeepsUnlisted old.blocks q w item next rows rest →
      KeepsListed new.blocks q w item at next rows rest
  pub made : Made (Took 32 at.in_class ∷ Took 32 at.in_line ∷ []) old new
  pub in_class : at.in_class < 2 ^ 32
  pub in_line : at.in_line < 2 ^ 32

-- the item says where its elements are, and the line has the next sequence number
pub record NotesElements (q : Queues) (w : Wanted) (item : ℕ) (at : Elements) (old new : Heap) : Type 0 where
  pub notes : (next : ℕ) (rows : List Row) (rest : Entries) → KeepsListed old.blocks q w item at next rows rest →
      BlocksAre new.blocks
      (four_lists q (class_row (rows ++ row_of w item at ∷ [])) (line_row (w.number + 1) (rows ++ row_of w item at ∷ []))
      (items_entries rows ++ (item_entries (row_of w item at) ++ rest)))
  pub same : besides new ≡ besides old

-- the item was made, and it and its object wait now in whichever queues are kept with its number as the next one, and don't name
-- its object
pub record Admits (q : Queues) (w : Wanted) (item : ℕ) (old new : Heap) : Type 0 where
  pub at : Elements
  pub admits : (rows : List Row) (rest : Entries) → KeepsQueues old.blocks q w.number rows rest → IsUnnamed w.object rows → w.object ≢ 0 →
      KeepsQueues new.blocks q (w.number + 1) (rows ++ row_of w item at ∷ []) rest
  pub made : Made (Took 56 item ∷ Took 32 at.in_class ∷ Took 32 at.in_line ∷ []) old new

-- one more waits, the last one put: its item and its elements were made, and all else stays
pub record PutsRow (q : Queues) (next : ℕ) (rows : List Row) (r : Row) (rest : Entries) (old new : Heap) : Type 0 where
  pub reached : next < last_number
  pub keeps : KeepsQueues new.blocks q (next + 1) (rows ++ r ∷ []) rest
  pub step : QueueStep (state_of rows) (Puts r.waiting) (state_of (rows ++ r ∷ []))

-- so it is with whichever queues are kept
pub record PutsLast (q : Queues) (w : Waiting) (old new : Heap) : Type 0 where
  pub kind : IsKind (old.blocks w.object) kinds.Object
  pub at : Elements
  pub puts : (next : ℕ) (rows : List Row) (rest : Entries) → KeepsQueues old.blocks q next rows rest →
      PutsRow q next rows (record { waiting = w; number = next; in_class = at.in_class; in_line = at.in_line }) rest old new
  pub made : Made (Took 56 w.item ∷ Took 32 at.in_class ∷ Took 32 at.in_line ∷ []) old new

-- the object waits already, and this is its item
pub record IsTaken (q : Queues) (object item : ℕ) (blocks : Blocks) : Type 0 where
  pub taken : (next : ℕ) (rows : List Row) (rest : Entries) → KeepsQueues blocks q next rows rest → IsNamedBy object item rows

-- it doesn't, and there is no sequence number for it
pub record IsFull (q : Queues) (object : ℕ) (blocks : Blocks) : Type 0 where
  pub full : (next : ℕ) (rows : List Row) (rest : Entries) → KeepsQueues blocks q next rows rest →
      IsUnnamed object rows × (next ≡ last_number)

-- it doesn't, and there is one
pub record Allows (q : Queues) (object : ℕ) (blocks : Blocks) : Type 0 where
  pub allows : (next : ℕ) (rows : List Row) (rest : Entries) → KeepsQueues blocks q next rows rest →
      IsUnnamed object rows × (next < last_number)

-- why an object isn't put that doesn't wait: this sequence number is too high, and all is as before; or there is no block, or no log
-- room; or a fault
abbrev pub NewStops : ℕ → Heap → Heap → Stop → Type 0
NewStops number old new (Refused (refusals.BadRow row rows)) =
    (last_number ≤ number) × (row ≡ last_number) × (rows ≡ last_number) × (new ≡ old)
NewStops number old new (Refused refusal) = (number < last_number) × LacksRoom (56 ∷ 32 ∷ 32 ∷ []) old new (Refused refusal)
NewStops number old new stop = OnlyFault stop

-- Why none is put, in this order: for the object's address; since it waits; since there is no sequence number, and then all is as
-- before. Or there is no block, or no log room; or a fault.
abbrev pub PutStops : Queues → ℕ → Heap → Heap → Stop → Type 0
PutStops q object old new (Refused (refusals.BadAddress bad)) =
    Misses (old.blocks object) object kinds.Object (Refused (refusals.BadAddress bad)) × (new ≡ old)
PutStops q object old new (Refused (refusals.WrongKind bad number)) =
    Misses (old.blocks object) object kinds.Object (Refused (refusals.WrongKind bad number)) × (new ≡ old)
PutStops q object old new (Refused (refusals.KeyTaken item)) =
    IsKind (old.blocks object) kinds.Object × IsTaken q object item old.blocks × (new ≡ old)
PutStops q object old new (Refused (refusals.BadRow row rows)) =
    IsKind (old.blocks object) kinds.Object × IsFull q object old.blocks × (row ≡ last_number) × (rows ≡ last_number) × (new ≡ old)
PutStops q object old new (Refused refusal) =
    IsKind (old.blocks object) kinds.Object × Allows q object old.blocks
    × LacksRoom (56 ∷ 32 ∷ 32 ∷ []) old new (Refused refusal)
PutStops q object old new stop = OnlyFault stop
