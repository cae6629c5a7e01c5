-- An object gets the extents of clones, one after another.
use Rattle.std.specs.Prelude.{◌≡◌, ◌+◌, ◌≤◌, ℕ, List, [], ◌∷◌, ◌++◌, length, map, All}
use Rattle.sdr_base.specs.Entries.{BlocksAre}
use Rattle.sdr_base.specs.Objects.{Heap}
use Rattle.sdr_base.specs.ZcoObjects.{object_entries}
use Rattle.sdr_base.specs.declared.account.Acct.{Acct}
use Rattle.sdr_base.specs.declared.stop.Stop.{Stop}
use Rattle.sdr_model.specs.declared.accounts.Ticket.{Ticket}
use Rattle.zco_acct.specs.Kept.{queue_entries}
use Rattle.zco_obj.specs.Gone.{sources_entries}
use Rattle.zco_obj.specs.Kept.{ExtentFits}
use Rattle.zco_obj.specs.Links.{piece_of}
use Rattle.zco_obj.specs.declared.extent.ExtentPiece.{ExtentPiece}
use Rattle.zco_part.specs.Cloning.{takes_clone}
use Rattle.zco_part.specs.Pieces.{extents_at, whole_row}
use Rattle.zco_part.specs.Sources.{all_counted}
use Rattle.zco_join.specs.Joining.{AppendsEach, AppendsSome, KeepsToJoin, Together, pieces_in}
use Rattle.zco_join.specs.Stocks.{Standing, TellsQueue, objects_entries, queues_entries}
use Rattle.zco_join.specs.declared.filled.Filled.{Filled}

-- From some heap on an object was made, and has got extents of these pieces of what the clones name; those are still to come.
pub record HasAppended (start : Heap) (acct : Acct) (parts : List Filled) (t : Together) (object : ℕ) (done left : List ExtentPiece)
    (heap : Heap) : Type 0 where
  pub from : KeepsToJoin start acct parts t
  pub whole : pieces_in t.clones ≡ done ++ left
  pub addrs : List ℕ
  pub each : length addrs ≡ length done
  pub fits : All ExtentFits (extents_at addrs done)
  pub tickets : List Ticket
  pub stands : BlocksAre heap.blocks
      ((object_entries object (whole_row acct (extents_at addrs done)) ++ queue_entries acct tickets)
      ++ (sources_entries (all_counted acct done t.sources)
      ++ (objects_entries (t.clones ++ t.others) ++ (queues_entries t.more ++ t.rest))))
  pub queue : TellsQueue heap (record { acct = acct; tickets = tickets })
  pub more : All (TellsQueue heap) t.more
  pub moves : heap.moves ≡ start.moves ++ takes_clone object addrs
  pub spent : start.spare ≤ heap.spare + (1 + length done)
  pub room : length left + length (pieces_in t.clones) + length parts ≤ heap.spare

-- the next extents that are to come are those of this clone
pub record CloneAt (start : Heap) (acct : Acct) (parts : List Filled) (t : Together) (object clone : ℕ) (done : List ExtentPiece)
    (z : Standing) (left : List ExtentPiece) (heap : Heap) : Type 0 where
  pub has : HasAppended start acct parts t object done (map piece_of z.row.extents ++ left) heap
  pub before : List Standing
  pub behind : List Standing
  pub whole : t.clones ≡ before ++ z ∷ behind
  pub addr : z.addr ≡ clone

-- so it is with some clone
pub record SomeClone (heap : Heap) (object clone : ℕ) : Type 0 where
  pub start : Heap
  pub acct : Acct
  pub parts : List Filled
  pub t : Together
  pub done : List ExtentPiece
  pub z : Standing
  pub left : List ExtentPiece
  pub is : CloneAt start acct parts t object clone done z left heap

-- the object gets the extents of whichever clone is kept
pub record AppendsClone (object number clone : ℕ) (old new : Heap) : Type 0 where
  pub appends : (start : Heap) (acct : Acct) (parts : List Filled) (t : Together) (done : List ExtentPiece) (z : Standing)
      (left : List ExtentPiece) → CloneAt start acct parts t object clone done z left old →
      AppendsEach object number (map piece_of z.row.extents) old new

-- or not all of them
pub record StopsClone (object number clone : ℕ) (old new : Heap) (stop : Stop) : Type 0 where
  pub stops : (start : Heap) (acct : Acct) (parts : List Filled) (t : Together) (done : List ExtentPiece) (z : Standing)
      (left : List ExtentPiece) → CloneAt start acct parts t object clone done z left old →
      AppendsSome object number (map piece_of z.row.extents) old new stop

-- some object was made, and has no extents yet
pub record SomeAppended (heap : Heap) (object : ℕ) (parts : List Filled) : Type 0 where
  pub start : Heap
  pub acct : Acct
  pub t : Together
  pub has : HasAppended start acct parts t object [] (pieces_in t.clones) heap

-- the object gets the extents of whichever clones are kept of these parts
pub record AppendsAll (object number : ℕ) (parts : List Filled) (old new : Heap) : Type 0 where
  pub appends : (start : Heap) (acct : Acct) (t : Together) →
      HasAppended start acct parts t object [] (pieces_in t.clones) old → AppendsEach object number (pieces_in t.clones) old new

-- or not all of them
pub record StopsAll (object number : ℕ) (parts : List Filled) (old new : Heap) (stop : Stop) : Type 0 where
  pub stops : (start : Heap) (acct : Acct) (t : Together) →
      HasAppended start acct parts t object [] (pieces_in t.clones) old → AppendsSome object number (pieces_in t.clones) old new stop
