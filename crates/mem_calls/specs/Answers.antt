-- What a call comes to on a world in the making.
use Rattle.std.specs.Prelude.{◌≡◌, ◌≤◌, ◌<◌, ◌+◌, ◌*◌, ℕ, List, [], length, insert, Option, None, Some, Result, IfOk, OnErr}
use Rattle.std.specs.declared.alloc.AllocError.{AllocError}
use Rattle.mem_store.specs.Draft.{Draft}
use Rattle.sdr_model.specs.Dry.{with_taken, StepsDry, dry_moves, next_addr}
use Rattle.sdr_base.specs.Parts.{overwrite}
use Rattle.sdr_model.specs.Steps.{with_thing}
use Rattle.sdr_model.specs.Tables.{Table}
use Rattle.sdr_model.specs.World.{World}
use Rattle.sdr_model.specs.declared.things.Thing.TheVariants as things
use Rattle.sdr_model.specs.declared.answer.Reply.{Reply}
use Rattle.sdr_model.specs.declared.answer.Reply.TheVariants as replies
use Rattle.sdr_model.specs.declared.things.Element.{Element}
use Rattle.sdr_model.specs.declared.things.SdrList.{SdrList}
use Rattle.sdr_model.specs.declared.call.Call.{Call}

-- the call is one step of the world now, in which blocks have the next addresses; want of memory leaves the
-- world, and what it was at the begin stays
pub record CallsMemory (call : Call) (old new : Draft) (result : Result Reply AllocError) : Type 0 where
  pub step : IfOk result (λ reply. StepsDry old.now call (dry_moves old.now call reply) new.now reply)
  pub begun : new.begun ≡ old.begun
  pub same : OnErr result (new.now ≡ old.now)

-- the bytes are there, and as many as this
abbrev pub HasRoom : Option (List ℕ) → ℕ → Type 0
HasRoom None end = ⊥
HasRoom (Some bytes) end = end ≤ length bytes

-- the bytes of the raw object are overwritten from a place on
abbrev pub Overwrites : Option (List ℕ) → ℕ → ℕ → List ℕ → World → World → Type 0
Overwrites None addr place from w w' = ⊥
Overwrites (Some bytes) addr place from w w' = w' ≡ record (with_thing w addr (things.Raw (overwrite place from bytes))) { shown = [] }

-- the table is there, has the row, and rows of this size
abbrev pub HasRow : Option Table → ℕ → ℕ → Type 0
HasRow None row size = ⊥
HasRow (Some table) row size = (row < table.rows) × (size ≡ table.size)

-- the row of the table is set
abbrev pub SetsRow : Option Table → ℕ → ℕ → List ℕ → World → World → Type 0
SetsRow None addr row from w w' = ⊥
SetsRow (Some table) addr row from w w' =
    w' ≡ record (with_thing w addr (things.Table (record table { bytes = overwrite (table.size * row) from table.bytes }))) { shown = [] }

-- the list is there, and the place is one of its elements or behind them
abbrev pub HasPlace : Option SdrList → ℕ → Type 0
HasPlace None place = ⊥
HasPlace (Some row) place = place ≤ length row.elements

-- a new element stands at a place of the list, its block is counted, and no bytes are shown
abbrev pub PutsElement : Option SdrList → ℕ → ℕ → Element → World → World → Type 0
PutsElement None list place element w w' = ⊥
PutsElement (Some row) list place element w w' =
    w' ≡ record (with_thing w list (things.List (record row { elements = insert row.elements place element }))) { shown = []; taken = w.taken + 1 }

-- a new element of this data was made at a place of the list, and its address answered
abbrev pub InsertsAt : Option SdrList → ℕ → ℕ → ℕ → World → World → Reply → Type 0
InsertsAt None list place datum w w' reply = ⊥
InsertsAt (Some row) list place datum w w' reply =
    let addr = next_addr w.taken in
    (reply ≡ replies.At addr)
    × (w' ≡ with_taken (with_thing w list (things.List (record row { elements = insert row.elements place (record { block = addr; datum = datum }) }))) addr)

-- the list is there, and has an element at the place
abbrev pub HasElement : Option SdrList → ℕ → Type 0
HasElement None place = ⊥
HasElement (Some row) place = place < length row.elements

-- the list is another
abbrev pub SetsList : Option SdrList → ℕ → (SdrList → SdrList) → World → World → Type 0
SetsList None list change w w' = ⊥
SetsList (Some row) list change w w' = w' ≡ record (with_thing w list (things.List (change row))) { shown = [] }
