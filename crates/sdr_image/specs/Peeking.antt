-- What is read of a disk, to put its heap back in memory.
use Rattle.std.specs.Prelude.{◌≡◌, ℕ, List, Some}
use Rattle.sdr_base.specs.Parts.{part}
use Rattle.sdr_base.specs.declared.line.TheConstants.{LINE}
use Rattle.sdr_log.specs.Frame.{frame_of}
use Rattle.sdr_log.specs.Logged.{GivesSame}
use Rattle.sdr_log.specs.declared.frame.Frame.{Frame}

-- a copy of a disk's bytes has the head of these regions, and opening it gives the same heap, or none as the disk does
pub record IsCopied (f : Frame) (x copy : List ℕ) : Type 0 where
  pub head : frame_of (part 0 LINE copy) ≡ Some f
  pub gives : GivesSame x copy
