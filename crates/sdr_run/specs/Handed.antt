-- What is told of a disk as it was handed in.
use Rattle.std.specs.Prelude.{◌≡◌, ℕ, Bool, false, List, [], Some}
use Rattle.sdr_base.specs.Parts.{part}
use Rattle.sdr_base.specs.declared.line.TheConstants.{LINE}
use Rattle.sdr_disk.specs.declared.disk.Disk.{Ghosts as DiskGhosts}
use Rattle.sdr_log.specs.Calls.{KeepsOutside}
use Rattle.sdr_log.specs.Frame.{frame_of}
use Rattle.sdr_log.specs.declared.frame.Frame.{Frame}

-- the bytes of a disk, whether it tells what a crash may leave, its moment, and how often it has failed
pub record HandedDisk : Type 0 where
  pub bytes : List ℕ
  pub tells : Bool
  pub moment : ℕ
  pub faults : ℕ

-- those of a disk
abbrev pub handed_as : {D : Type 0} → DiskGhosts D → D → HandedDisk
handed_as d disk =
    record { bytes = d.bytes disk; tells = d.tells_crashes disk; moment = d.moment disk; faults = d.faults disk }

-- a disk of no bytes, which doesn't tell what a crash may leave
abbrev pub no_disk : HandedDisk
no_disk = record { bytes = []; tells = false; moment = 0; faults = 0 }

-- These regions are those of which the head of a disk told as it was handed in, and no byte outside the regions has changed.
pub record StaysAsHanded (was now : List ℕ) (f : Frame) : Type 0 where
  pub head : frame_of (part 0 LINE was) ≡ Some f
  pub outside : KeepsOutside f was now
