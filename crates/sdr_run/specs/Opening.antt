-- A disk on which a heap was just opened, for a run.
use Rattle.std.specs.Prelude.{◌≡◌, ◌≤◌}
use Rattle.sdr_disk.specs.Moments.{AtEach, Reads}
use Rattle.sdr_disk.specs.Tells.{IfTells}
use Rattle.sdr_disk.specs.declared.disk.Disk.{Ghosts as DiskGhosts}
use Rattle.sdr_log.specs.Calls.{KeepsDisk, KeepsRest}
use Rattle.sdr_log.specs.Log.{first_gate}
use Rattle.sdr_log.specs.Logged.{GivesSame}
use Rattle.sdr_run.specs.Replaying.{IsSettled}
use Rattle.sdr_station.specs.Grounded.{Grounded}
use Rattle.sdr_station.specs.Opening.{IsOpen}

-- The heap of a disk was opened with media. The disk keeps its length and all bytes outside its regions, it is only read where no batch is
-- open on it, no count of it falls, and at each moment of the call a crash leaves what gives the same heap.
pub record OpenedSo {D M : Type 0} (d : DiskGhosts D) (disk : D) (files : M) (g : Grounded D M) : Type 0 where
  pub with_media : g.media ≡ files
  pub open_so : IsOpen d.bytes d.tells_crashes d.moment d.may_hold_after disk g
  pub keeps : KeepsDisk d.bytes d.tells_crashes disk g.heap.cells.disk
  -- its bytes are one of the images that a crash may leave now
  pub read : d.may_hold_after g.heap.cells.disk (d.moment g.heap.cells.disk) (d.bytes g.heap.cells.disk)
  pub rest : KeepsRest (d.bytes disk) (d.bytes g.heap.cells.disk)
  pub later : d.faults disk ≤ d.faults g.heap.cells.disk
  pub forward : d.moment disk ≤ d.moment g.heap.cells.disk
  pub quiet : first_gate (d.bytes disk) ≡ 0 → Reads d.bytes d.tells_crashes d.moment d.may_hold_after disk g.heap.cells.disk
  pub same : IsSettled d disk → IfTells (d.tells_crashes disk)
      (AtEach d.moment d.may_hold_after disk g.heap.cells.disk (GivesSame (d.bytes disk)))
