-- What `format` answers: by status, what it leaves on the disk and what is written.
use Rattle.std.specs.Prelude.{◌≡◌, ℕ, List, ◌++◌, ◌⊎◌, codes, decimal}
use Rattle.sdr_image.specs.Format.{formatted}
use Rattle.sdr_log.specs.declared.frame.Frame.{Frame}
use Rattle.sdr_forms.specs.declared.status.TheConstants.{DONE, USAGE, INPUT_FAULT, OUTPUT_FAULT, DISK_FAULT, REFUSED_LINE, NO_MEMORY, TOO_SMALL}

-- the line that tells of a formatted disk
abbrev pub line_formatted : Frame → List ℕ
line_formatted frame = codes "formatted " ++ decimal frame.log_lines ++ codes " " ++ decimal frame.heap_lines ++ codes "\n"

-- the last line where the regions take more bytes than the disk has
abbrev pub line_too_small : ℕ → ℕ → List ℕ
line_too_small need have = codes "too small " ++ decimal need ++ codes " " ++ decimal have ++ codes "\n"

-- the disk has the head and a fresh heap of these regions, and its other bytes as before
abbrev pub IsFormatted : Frame → List ℕ → List ℕ → Type 0
IsFormatted frame old new = new ≡ formatted frame old

-- the statuses with which formatting ends
abbrev pub IsFormatStatus : ℕ → Type 0
IsFormatStatus status = (status ≡ DONE) ⊎ (status ≡ OUTPUT_FAULT) ⊎ (status ≡ DISK_FAULT) ⊎ (status ≡ TOO_SMALL)

-- the disk was formatted, whether or not the output told so
abbrev pub HasFormatted : ℕ → Type 0
HasFormatted status = (status ≡ DONE) ⊎ (status ≡ OUTPUT_FAULT)

-- the statuses on which no byte of the disk has changed, whatever the words
abbrev pub LeavesDisk : ℕ → Type 0
LeavesDisk status =
    (status ≡ USAGE) ⊎ (status ≡ INPUT_FAULT) ⊎ (status ≡ REFUSED_LINE) ⊎ (status ≡ NO_MEMORY) ⊎ (status ≡ TOO_SMALL)
