-- What calls leave of a heap on a disk that keep no line and ask no media.
use Rattle.std.specs.Prelude.{◌≡◌, ◌≤◌}
use Rattle.sdr_disk.specs.Moments.{Reads}
use Rattle.sdr_disk.specs.declared.disk.Disk.{Ghosts as DiskGhosts}
use Rattle.sdr_station.specs.Grounded.{Grounded}

-- the disk and its regions are the same, and so are the media
pub record IsSame {D M : Type 0} (old new : Grounded D M) : Type 0 where
  pub disk : new.heap.cells.disk ≡ old.heap.cells.disk
  pub frame : new.heap.cells.frame ≡ old.heap.cells.frame
  pub media : new.media ≡ old.media

-- the disk was only read, and its count of faults has not fallen; the regions are the same, and so are the media
pub record StaysQuiet {D M : Type 0} (d : DiskGhosts D) (old new : Grounded D M) : Type 0 where
  pub reads : Reads d.bytes d.tells_crashes d.moment d.may_hold_after old.heap.cells.disk new.heap.cells.disk
  pub later : d.faults old.heap.cells.disk ≤ d.faults new.heap.cells.disk
  pub frame : new.heap.cells.frame ≡ old.heap.cells.frame
  pub media : new.media ≡ old.media
