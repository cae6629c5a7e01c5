-- How it is told why a heap isn't opened: by a status and a last line.
use Rattle.std.specs.Prelude.{ℕ, List, ◌++◌, codes, decimal}
use Rattle.audit_blocks.specs.declared.error.Check.{Check}
use Rattle.audit_blocks.specs.declared.error.Check.TheVariants as whys
use Rattle.sdr_forms.specs.declared.status.TheConstants.{DISK_FAULT, NOT_FORMATTED, DAMAGED, NO_MEMORY}
use Rattle.sdr_station.specs.declared.error.OpenError.{OpenError}
use Rattle.sdr_station.specs.declared.error.OpenError.TheVariants as errors

-- what is wrong at a place, in a word
abbrev pub why_text : Check → List ℕ
why_text whys.Control = codes "control"
why_text whys.Block = codes "block"
why_text whys.Bits = codes "bits"
why_text whys.Free = codes "free"
why_text whys.Content = codes "content"
why_text whys.Owner = codes "owner"
why_text whys.Count = codes "count"
why_text whys.Queue = codes "queue"

-- the last line where a heap isn't opened
abbrev pub line_shut : OpenError → List ℕ
line_shut errors.NotFormatted = codes "not formatted\n"
line_shut (errors.Damaged place why) = codes "damaged " ++ decimal place ++ codes " " ++ why_text why ++ codes "\n"
line_shut errors.DiskFault = codes "disk fault\n"
line_shut errors.NoMemory = codes "no memory\n"

-- the status that tells so
abbrev pub status_shut : OpenError → ℕ
status_shut errors.NotFormatted = NOT_FORMATTED
status_shut (errors.Damaged place why) = DAMAGED
status_shut errors.DiskFault = DISK_FAULT
status_shut errors.NoMemory = NO_MEMORY
