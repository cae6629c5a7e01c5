-- Batches as they stand in the log region, and where the open ones end.
use Rattle.std.specs.Prelude.{ℕ, zero, suc, ◌+◌, ◌*◌, cond, ◌||◌, ◌==◌, List, [], ◌∷◌, ◌++◌, length, take, drop}
use Rattle.std.specs.Prelude.{flat_map, nat_le, Option, Some, None, option_map}
use Rattle.sdr_base.specs.declared.line.TheConstants.{LINE}
use Rattle.sdr_base.specs.Parts.{overwrite}
use Rattle.sdr_log.specs.Frame.{first_number, four}
use Rattle.sdr_log.specs.Log.{log_of}
use Rattle.sdr_log.specs.declared.frame.Frame.{Frame}
use Rattle.sdr_log.specs.declared.record.Record.{Record}

-- how far it is from the gate of a batch of so many records to the next gate
abbrev pub batch_size : ℕ → ℕ
batch_size count = 5 + 68 * count

-- a record as it stands in the log: its line's number in four bytes, and the line's bytes
unfoldable pub encoded : Record → List ℕ
encoded r = four r.line ++ r.bytes

-- a batch without its gate: the count, the records, and the next gate, which is closed
unfoldable pub batch_of : List Record → List ℕ
batch_of records = four (length records) ++ flat_map encoded records ++ 0 ∷ []

-- the disk with an open batch of these records at a place of the log region, and a closed gate behind it
abbrev pub with_batch : ℕ → List Record → List ℕ → List ℕ
with_batch place records x = overwrite (LINE + place) (1 ∷ batch_of records) x

-- how far it is from here to the first closed gate; none where the open batches before it are wrong
unfoldable pub end_of : ℕ → List ℕ → Option ℕ
end_of zero log = None
end_of (suc bytes) [] = None
end_of (suc bytes) (gate ∷ log) =
    let count = first_number (take 4 log) in
    cond (gate == 0) (Some 0)
    (cond (count == 0 || nat_le (length log) (4 + 68 * count)) None
    (option_map (λ place. batch_size count + place) (end_of bytes (drop (4 + 68 * count) log))))

-- the place of the first closed gate in the log region of a disk
unfoldable pub log_end : Frame → List ℕ → Option ℕ
log_end f image = end_of (LINE * f.log_lines) (log_of f image)
