-- Clones go whose sources another object names too.
use Rattle.std.specs.Prelude.{◌+◌, ◌≤◌, ℕ, List, ◌∷◌, ◌++◌, length, All}
use Rattle.sdr_base.specs.Entries.{Entries}
use Rattle.sdr_base.specs.Objects.{Heap}
use Rattle.zco_obj.specs.Gone.{NamedSource, naming}
use Rattle.zco_join.specs.Joining.{AreClones, pieces_in}
use Rattle.zco_join.specs.Stocks.{KeepsStock, Queue, Standing, Stock}
use Rattle.zco_join.specs.declared.filled.Filled.{Filled}

-- clones that are to go, an object, and what stands beside them
pub record Doomed : Type 0 where
  pub clones : List Standing
  pub object : Standing
  pub others : List Standing
  pub queues : List Queue
  pub sources : List NamedSource
  pub rest : Entries

-- all that
abbrev pub doomed_stock : Doomed → Stock
doomed_stock d = record { objects = d.clones ++ d.object ∷ d.others; queues = d.queues; sources = d.sources; rest = d.rest }

-- the object's extents name each source at least as often as those of a clone
abbrev pub NamesMore : Standing → Standing → Type 0
NamesMore object z = (addr : ℕ) → naming addr z.row.extents ≤ naming addr object.row.extents

-- the heap keeps the clones of these parts so, and has room for the moves
pub record KeepsToDestroy (heap : Heap) (parts : List Filled) (d : Doomed) : Type 0 where
  pub keeps : KeepsStock heap (doomed_stock d)
  pub clones : AreClones parts d.clones
  pub named : All (NamesMore d.object) d.clones
  pub room : length (pieces_in d.clones) + length parts ≤ heap.spare

-- it keeps some so
pub record SomeToDestroy (heap : Heap) (parts : List Filled) : Type 0 where
  pub doomed : Doomed
  pub keeps : KeepsToDestroy heap parts doomed
