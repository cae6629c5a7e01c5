-- Records as they are read from a disk, one after another.
use Rattle.std.specs.Prelude.{◌≡◌, ◌<◌, Some, length, ℕ, zero, suc, ◌+◌, List, [], ◌∷◌, take}
use Rattle.sdr_base.specs.Parts.{part}
use Rattle.sdr_log.specs.Batch.{log_end}
use Rattle.sdr_log.specs.Frame.{first_number}
use Rattle.sdr_log.specs.Logged.{Logs}
use Rattle.sdr_log.specs.declared.frame.Frame.{Frame}
use Rattle.sdr_log.specs.declared.record.Record.{Record}

-- the record whose bytes these are
abbrev pub record_of : List ℕ → Record
record_of bytes = record { line = first_number (take 4 bytes); bytes = part 4 64 bytes }

-- the record at a place of a disk
abbrev pub record_at : ℕ → List ℕ → Record
record_at place x = record_of (part place 68 x)

-- so many records from a place of a disk on
abbrev pub records_at : ℕ → ℕ → List ℕ → List Record
records_at place zero x = []
records_at place (suc count) x = record_at place x ∷ records_at (place + 68) count x

-- the open batches of a disk are well formed, there is one, and they end at the place
pub record AreOpen (f : Frame) (end : ℕ) (x : List ℕ) : Type 0 where
  pub records : List Record
  pub logs : Logs f x records
  pub some : 0 < length records
  pub ends : log_end f x ≡ Some end
