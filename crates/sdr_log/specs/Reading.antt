-- What is found where the open batches of a log region are read.
use Rattle.std.specs.Prelude.{◌≡◌, ◌≢◌, ◌<◌, ℕ, ◌+◌, ◌*◌, Bool, true, false, List, ◌∷◌, ◌++◌}
use Rattle.std.specs.Prelude.{length, take, drop, get_or}
use Rattle.std.specs.Prelude.{Option, Some, None, option_and_then, if◌then◌else◌}
use Rattle.sdr_log.specs.Frame.{first_number}
use Rattle.sdr_log.specs.Log.{are_good, batches_of, names_line, records_of}
use Rattle.sdr_log.specs.declared.record.Record.{Record}

-- the records, if each names a line of the heap, and none is named twice
abbrev pub if_good : ℕ → List Record → Option (List Record)
if_good lines records = if are_good lines records then Some records else None

-- the records of the open batches of a log region, if these are well formed and the records are good
abbrev pub good_records : ℕ → List ℕ → Option (List Record)
good_records lines log = option_and_then (if_good lines) (batches_of (length log) log)

-- records of the open batches read so far, of a heap of so many lines
pub record Noted : Type 0 where
  pub lines : ℕ
  pub records : List Record

-- the records are good, and the marks tell which lines they name
pub record IsMarked (records : List Record) (marks : List Bool) : Type 0 where
  pub good : are_good (length marks) records ≡ true
  pub told : (line : ℕ) → line < length marks → get_or marks line false ≡ names_line records line

-- with more records read
abbrev pub noted : Noted → List Record → Noted
noted n records = record { lines = n.lines; records = n.records ++ records }

-- these records can't all stand in the log
abbrev pub IsBad : Noted → List Record → Type 0
IsBad n records = are_good n.lines (n.records ++ records) ≡ false

-- a batch that stands behind an open gate was read, up to the next gate
pub record ReadsBatch (bytes rest : List ℕ) (old new : Noted) : Type 0 where
  pub some : 0 < first_number (take 4 bytes)
  pub inside : 4 + 68 * first_number (take 4 bytes) < length bytes
  pub behind : rest ≡ drop (4 + 68 * first_number (take 4 bytes)) bytes
  pub records : new ≡ noted old (records_of (first_number (take 4 bytes)) (drop 4 bytes))

-- the batches from an open gate on, behind which these bytes stand, are wrong
abbrev pub IsWrong : Noted → List ℕ → Type 0
IsWrong n bytes =
    (fuel gate : ℕ) (records : List Record) → gate ≢ 0 → batches_of fuel (gate ∷ bytes) ≡ Some records → IsBad n records
