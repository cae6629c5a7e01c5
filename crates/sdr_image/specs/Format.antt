-- A disk that was just formatted.
use Rattle.std.specs.Prelude.{◌≡◌, ◌≤◌, ◌<◌, ℕ, List, [], ◌∷◌, ⊤, Result, Ok, Err}
use Rattle.sdr_base.specs.Causes.{Rose}
use Rattle.sdr_base.specs.FreshHeap.{fresh_heap}
use Rattle.sdr_base.specs.Parts.{overwrite}
use Rattle.sdr_base.specs.declared.line.TheConstants.{LINE}
use Rattle.sdr_log.specs.Frame.{heap_place, head_of}
use Rattle.sdr_log.specs.declared.frame.Frame.{Frame}
use Rattle.sdr_image.specs.declared.error.FormatError.{FormatError}
use Rattle.sdr_image.specs.declared.error.FormatError.TheVariants as errors

-- the disk with the head of these regions, the first gate closed, and a fresh heap; its other bytes are as before
unfoldable pub formatted : Frame → List ℕ → List ℕ
formatted f disk =
    overwrite 0 (head_of f) (overwrite (heap_place f) (fresh_heap f.heap_lines) (overwrite LINE (0 ∷ []) disk))

-- a disk that is too small is refused with both numbers, and a fault comes only where the disk's count rose
abbrev pub ExplainsFormat : {T : Type 0} → ℕ → ℕ → ℕ → ℕ → Result T FormatError → Type 0
ExplainsFormat need have before now (Ok value) = need ≤ have
ExplainsFormat need have before now (Err (errors.TooSmall need' have')) = (need' ≡ need) × (have' ≡ have) ×
    (have < need)
ExplainsFormat need have before now (Err errors.DiskFault) = (need ≤ have) × Rose before now

-- why a disk of so many bytes isn't formatted, where the regions take so many
pub record HasFormatCause {T : Type 0} (need have before now : ℕ) (result : Result T FormatError) : Type 0 where
  pub later : before ≤ now
  pub explained : ExplainsFormat need have before now result

-- what holds where the disk is too small
abbrev pub IfTooSmall : {T : Type 0} → Result T FormatError → Type 0 → Type 0
IfTooSmall (Err (errors.TooSmall need have)) P = P
IfTooSmall result P = ⊤
