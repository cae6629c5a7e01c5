-- The heap that opening a disk gives.
use Rattle.std.specs.Prelude.{◌≡◌, ⊤, ℕ, zero, suc, ◌+◌, ◌*◌, Bool, true, false, cond, not, ◌&&◌, ◌||◌, List, []}
use Rattle.std.specs.Prelude.{◌∷◌, ◌++◌, length, take, drop, nat_lt, nat_le, ◌==◌, Option, Some, None}
use Rattle.std.specs.Prelude.{option_and_then, option_map, slice_index}
use Rattle.sdr_base.specs.declared.line.TheConstants.{LINE}
use Rattle.sdr_base.specs.Parts.{overwrite, part}
use Rattle.sdr_log.specs.Frame.{first_number, frame_of, heap_place, disk_bytes}
use Rattle.sdr_log.specs.declared.frame.Frame.{Frame}
use Rattle.sdr_log.specs.declared.record.Record.{Record}

-- the log region of a disk
unfoldable pub log_of : Frame → List ℕ → List ℕ
log_of f image = part LINE (LINE * f.log_lines) image

-- the heap region of a disk
unfoldable pub heap_of : Frame → List ℕ → List ℕ
heap_of f image = part (heap_place f) (LINE * f.heap_lines) image

-- so many records from the front, each a line's number and its 64 old bytes
unfoldable pub records_of : ℕ → List ℕ → List Record
records_of zero bytes = []
records_of (suc count) bytes =
    record { line = first_number (take 4 bytes); bytes = part 4 64 bytes } ∷ records_of count (drop 68 bytes)

-- the records of the open batches from here on; none where a batch is empty, or the next gate isn't inside the region.
-- Batches are no more than the region has bytes.
unfoldable pub batches_of : ℕ → List ℕ → Option (List Record)
batches_of zero log = None
batches_of (suc bytes) [] = None
batches_of (suc bytes) (gate ∷ log) =
    let count = first_number (take 4 log) in
    cond (gate == 0) (Some [])
    (cond (count == 0 || nat_le (length log) (4 + 68 * count)) None
    (option_map (λ rest. records_of count (drop 4 log) ++ rest) (batches_of bytes (drop (4 + 68 * count) log))))

-- the records of the open batches of a disk
unfoldable pub read_log : Frame → List ℕ → Option (List Record)
read_log f image = batches_of (LINE * f.log_lines) (log_of f image)

-- whether a record names the line
abbrev pub names_line : List Record → ℕ → Bool
names_line [] line = false
names_line (r ∷ records) line = r.line == line || names_line records line

-- whether each line is one of the heap's, and named once
abbrev pub are_good : ℕ → List Record → Bool
are_good lines [] = true
are_good lines (r ∷ records) = nat_lt r.line lines && not (names_line records r.line) && are_good lines records

-- each record has the bytes of a whole line
abbrev pub AreLines : List Record → Type 0
AreLines [] = ⊤
AreLines (r ∷ records) = (length r.bytes ≡ LINE) × AreLines records

-- the records' bytes in place of their lines
abbrev pub put_records : List Record → List ℕ → List ℕ
put_records [] heap = heap
put_records (r ∷ records) heap = put_records records (overwrite (LINE * r.line) r.bytes heap)

-- the heap put back where the regions are known: the old bytes of the open batches in place of their lines
unfoldable pub put_back_in : Frame → List ℕ → Option (List ℕ)
put_back_in f image =
    option_and_then (λ records. cond (are_good f.heap_lines records)
    (Some (put_records records (heap_of f image))) None)
    (read_log f image)

-- the heap put back; none where the disk has no head, is too short for its regions, or its open batches are wrong
unfoldable pub put_back_of : List ℕ → Option (List ℕ)
put_back_of image =
    option_and_then (λ f. cond (nat_le (disk_bytes f) (length image)) (put_back_in f image) None)
    (frame_of (part 0 64 image))

-- the gate of the first batch of a disk
abbrev pub first_gate : List ℕ → ℕ
first_gate image = slice_index image LINE
