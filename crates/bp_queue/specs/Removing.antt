-- Items that go.
use Rattle.std.specs.Prelude.{◌≡◌, ℕ, List, [], ◌∷◌, ◌++◌}
use Rattle.sdr_base.specs.Blocks.{Blocks}
use Rattle.sdr_base.specs.Entries.{Entries}
use Rattle.sdr_base.specs.Making.{GaveSome, Made, gave}
use Rattle.sdr_base.specs.Objects.{Heap, OnlyFault}
use Rattle.sdr_base.specs.declared.refusal.Refusal.TheVariants as refusals
use Rattle.sdr_base.specs.declared.stop.Stop.{Stop}
use Rattle.sdr_base.specs.declared.stop.Stop.TheVariants.{Refused}
use Rattle.bp_queue.specs.Kept.{KeepsQueues, Row}
use Rattle.bp_queue.specs.declared.queues.Queues.{Queues}

-- the addresses of the blocks that go with an item: its elements, in the list of its class and in the line, and its own
abbrev pub item_blocks : Row → List ℕ
item_blocks r = r.in_class ∷ r.in_line ∷ r.waiting.item ∷ []

-- queues are kept, and this row among others
pub record IsItem (blocks : Blocks) (item : ℕ) (q : Queues) (next : ℕ) (before : List Row) (r : Row) (behind : List Row) (rest : Entries)
    : Type 0 where
  pub keeps : KeepsQueues blocks q next (before ++ r ∷ behind) rest
  pub is : r.waiting.item ≡ item

-- an item stands in some queues
pub record SomeItem (blocks : Blocks) (item : ℕ) : Type 0 where
  pub q : Queues
  pub next : ℕ
  pub before : List Row
  pub row : Row
  pub behind : List Row
  pub rest : Entries
  pub stands : IsItem blocks item q next before row behind rest

-- a row is gone from queues, with its item, and all else stays; its object is answered
pub record ItemGone (q : Queues) (next : ℕ) (rows : List Row) (r : Row) (rest : Entries) (old new : Heap) (object : ℕ) : Type 0 where
  pub keeps : KeepsQueues new.blocks q next rows rest
  pub made : Made (gave (item_blocks r)) old new
  pub named : object ≡ r.waiting.object

-- so it is in whichever queues it stands
pub record RemovesItem (item : ℕ) (old new : Heap) (object : ℕ) : Type 0 where
  pub removes : (q : Queues) (next : ℕ) (before : List Row) (r : Row) (behind : List Row) (rest : Entries) →
      IsItem old.blocks item q next before r behind rest → ItemGone q next (before ++ behind) r rest old new object

-- in whichever queues it stands, some first ones of its blocks were given back
pub record RemovesSome (item : ℕ) (old new : Heap) : Type 0 where
  pub gives : (q : Queues) (next : ℕ) (before : List Row) (r : Row) (behind : List Row) (rest : Entries) →
      IsItem old.blocks item q next before r behind rest → GaveSome (item_blocks r) old new

-- why an item doesn't go: there is no log room; or a fault
abbrev pub RemoveStops : ℕ → Heap → Heap → Stop → Type 0
RemoveStops item old new (Refused (refusals.LogFull lines room)) = RemovesSome item old new
RemoveStops item old new stop = OnlyFault stop
