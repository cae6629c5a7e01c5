-- What a recovery that a crash stopped leaves of a disk.
use Rattle.std.specs.Prelude.{◌≡◌, ◌<◌, ◌⊎◌, ⊤, ℕ, List, [], ◌∷◌}
use Rattle.sdr_base.specs.declared.line.TheConstants.{LINE}
use Rattle.sdr_disk.specs.Ranges.{Agrees, range}
use Rattle.sdr_log.specs.Calls.{HoldLines}
use Rattle.sdr_log.specs.Log.{first_gate, heap_of}
use Rattle.sdr_log.specs.Logged.{Logs, line_ranges}
use Rattle.sdr_log.specs.declared.frame.Frame.{Frame}
use Rattle.sdr_log.specs.declared.record.Record.{Record}

-- A recovery of the one image was stopped and left the other. The one gives a heap and has open batches; the other differs from it
-- in their lines and in the first gate alone; and there the gate is as it was, or the lines have their old bytes.
pub record IsStoppedOn (i j : List ℕ) : Type 0 where
  pub frame : Frame
  pub records : List Record
  pub logs : Logs frame i records
  pub opened : 0 < first_gate i
  pub others : Agrees (range LINE 1 ∷ line_ranges frame records) i j
  pub either : (first_gate j ≡ first_gate i) ⊎ HoldLines (heap_of frame j) records

-- the other is the same image, or what such a recovery left of it
abbrev pub IsLeftFrom : List ℕ → List ℕ → Type 0
IsLeftFrom i j = (j ≡ i) ⊎ IsStoppedOn i j

-- each of these is left from the one before it, and the first of them from this one
abbrev pub AreLeftFrom : List ℕ → List (List ℕ) → Type 0
AreLeftFrom i [] = ⊤
AreLeftFrom i (j ∷ js) = IsLeftFrom i j × AreLeftFrom j js
