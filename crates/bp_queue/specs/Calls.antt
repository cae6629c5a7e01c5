-- What the calls on queues come to.
use Rattle.std.specs.Prelude.{◌≡◌, ℕ, List, [], ◌∷◌, Option, option_map}
use Rattle.sdr_base.specs.Blocks.{Blocks}
use Rattle.sdr_base.specs.Entries.{BlocksAre, Entries}
use Rattle.sdr_base.specs.Lists.{ListRow, KeepsList}
use Rattle.sdr_base.specs.Making.{Made}
use Rattle.sdr_base.specs.Objects.{Heap}
use Rattle.sdr_base.specs.declared.moves.Move.TheVariants.{Took}
use Rattle.bp_queue.specs.Kept.{KeepsQueues, Row, waiting_of}
use Rattle.bp_queue.specs.Sorting.{first}
use Rattle.bp_queue.specs.States.{highest, line_of}
use Rattle.bp_queue.specs.declared.queues.Queues.{Queues}

-- this is told of whichever queues are kept
pub record Tells {T : Type 0} (q : Queues) (of : List Row → T) (blocks : Blocks) (value : T) : Type 0 where
  pub tells : (next : ℕ) (rows : List Row) (rest : Entries) → KeepsQueues blocks q next rows rest → value ≡ of rows

-- the datum of the first element, where there is one, is told of whichever list is kept
pub record TellsFirst (list : ℕ) (blocks : Blocks) (value : Option ℕ) : Type 0 where
  pub tells : (row : ListRow) → KeepsList blocks list row → value ≡ option_map (λ x. x.datum) (first row.elements)

-- empty queues were made, of four blocks that were taken; all else stays
pub record CreatesQueues (q : Queues) (old new : Heap) : Type 0 where
  pub keeps : (rest : Entries) → BlocksAre old.blocks rest → KeepsQueues new.blocks q 1 [] rest
  pub made : Made (Took 32 q.bulk ∷ Took 32 q.normal ∷ Took 32 q.urgent ∷ Took 32 q.line ∷ []) old new

-- the earliest deadline, where some wait
abbrev pub earliest_of : List Row → Option ℕ
earliest_of rows = option_map (λ r. r.waiting.deadline) (first (line_of waiting_of rows))

-- the first item of the highest class that isn't empty, where some wait
abbrev pub highest_item : List Row → Option ℕ
highest_item rows = option_map (λ r. r.waiting.item) (highest waiting_of rows)
