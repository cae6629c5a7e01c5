-- What stands on a disk while a transaction is open whose lines are spilled: written to the heap region before its end.
use Rattle.std.specs.Prelude.{◌≡◌, ◌⊎◌, ℕ, ◌+◌, ◌*◌, true, List, ◌++◌, length, Some}
use Rattle.sdr_base.specs.Parts.{overwrite}
use Rattle.sdr_base.specs.declared.line.TheConstants.{LINE}
use Rattle.sdr_log.specs.Batch.{batch_size, log_end}
use Rattle.sdr_log.specs.Calls.{HoldLines}
use Rattle.sdr_log.specs.Log.{are_good, heap_of, put_records, read_log}
use Rattle.sdr_log.specs.Logged.{GivesHeap, IsAtRest, IsLogged}
use Rattle.sdr_log.specs.declared.frame.Frame.{Frame}
use Rattle.sdr_log.specs.declared.record.Record.{Record}

-- the image has these bytes
abbrev pub Just : List ℕ → List ℕ → Type 0
Just x image = image ≡ x

-- These are the records of the open batches, which end at the place; bytes are pending in their lines alone; and opening
-- gives the bytes at begin.
pub record KeepsBegin (f : Frame) (begun : List ℕ) (place : ℕ) (records : List Record) (x : List ℕ)
    (left : List ℕ → Type 0) : Type 0 where
  pub logged : IsLogged f x left
  pub log : read_log f x ≡ Some records
  pub ends : log_end f x ≡ Some place
  pub gives : GivesHeap begun x

-- lines that no open batch names may be spilled, with the bytes that they had at begin
pub record MaySpill (f : Frame) (begun : List ℕ) (place : ℕ) (records olds : List Record) (x : List ℕ)
    (left : List ℕ → Type 0) : Type 0 where
  pub keeps : KeepsBegin f begun place records x left
  pub good : are_good f.heap_lines (records ++ olds) ≡ true
  pub own : HoldLines begun olds

-- lines were spilled: open batches name them too, and the heap region has the new ones
pub record Spills (f : Frame) (begun : List ℕ) (place : ℕ) (records olds news : List Record) (x y : List ℕ)
    (left : List ℕ → Type 0) : Type 0 where
  pub keeps : KeepsBegin f begun (place + batch_size (length olds)) (records ++ olds) y left
  pub heap : heap_of f y ≡ put_records news (heap_of f x)

-- a line that an open batch names was put, and all else that stands of the transaction stays
pub record PutsThrough (f : Frame) (begun : List ℕ) (place : ℕ) (records : List Record) (line : Record)
    (x y : List ℕ) (left : List ℕ → Type 0) : Type 0 where
  pub keeps : KeepsBegin f begun place records y left
  pub heap : heap_of f y ≡ overwrite (LINE * line.line) line.bytes (heap_of f x)

-- opening the image gives one of two heaps
abbrev pub GivesEither : List ℕ → List ℕ → List ℕ → Type 0
GivesEither old new image = GivesHeap old image ⊎ GivesHeap new image

-- the disk is at rest with these bytes in its heap region
pub record Ends (f : Frame) (bytes y : List ℕ) (left : List ℕ → Type 0) : Type 0 where
  pub rest : IsAtRest f y left
  pub heap : heap_of f y ≡ bytes
