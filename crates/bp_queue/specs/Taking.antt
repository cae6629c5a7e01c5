-- The first one of the highest class is taken.
use Rattle.std.specs.Prelude.{◌≡◌, ℕ, List, [], Option, None, Some}
use Rattle.sdr_base.specs.Entries.{Entries}
use Rattle.sdr_base.specs.Making.{GaveSome, Made, gave}
use Rattle.sdr_base.specs.Objects.{Heap, OnlyFault}
use Rattle.sdr_base.specs.declared.refusal.Refusal.TheVariants as refusals
use Rattle.sdr_base.specs.declared.stop.Stop.{Stop}
use Rattle.sdr_base.specs.declared.stop.Stop.TheVariants.{Refused}
use Rattle.bp_queue.specs.Kept.{KeepsQueues, Row, state_of, waiting_of}
use Rattle.bp_queue.specs.Removing.{item_blocks}
use Rattle.bp_queue.specs.Runs.{QueueStep, Takes}
use Rattle.bp_queue.specs.States.{except, highest, object_of}
use Rattle.bp_queue.specs.declared.queues.Queues.{Queues}

-- the addresses of the blocks that go with this one's item, where there is one
abbrev pub blocks_of : Option Row → List ℕ
blocks_of None = []
blocks_of (Some r) = item_blocks r

-- the first one of the highest class is gone, with its item, and its object is answered; where none waits, 0 is. All else stays.
pub record TakesRow (q : Queues) (next : ℕ) (rows : List Row) (rest : Entries) (old new : Heap) (object : ℕ) : Type 0 where
  pub keeps : KeepsQueues new.blocks q next (except waiting_of (highest waiting_of rows) rows) rest
  pub made : Made (gave (blocks_of (highest waiting_of rows))) old new
  pub named : object ≡ object_of waiting_of (highest waiting_of rows)
  pub step : QueueStep (state_of rows) (Takes object) (state_of (except waiting_of (highest waiting_of rows) rows))

-- so it is with whichever queues are kept
pub record TakesFirst (q : Queues) (old new : Heap) (object : ℕ) : Type 0 where
  pub takes : (next : ℕ) (rows : List Row) (rest : Entries) → KeepsQueues old.blocks q next rows rest →
      TakesRow q next rows rest old new object

-- of the blocks that go with the item some first ones were given back
pub record TakesSome (q : Queues) (old new : Heap) : Type 0 where
  pub gives : (next : ℕ) (rows : List Row) (rest : Entries) → KeepsQueues old.blocks q next rows rest →
      GaveSome (blocks_of (highest waiting_of rows)) old new

-- why none is taken: there is no log room; or a fault
abbrev pub TakeStops : Queues → Heap → Heap → Stop → Type 0
TakeStops q old new (Refused (refusals.LogFull lines room)) = TakesSome q old new
TakeStops q old new stop = OnlyFault stop
