use Rattle.std.proofs.Common.{◌≡◌, ◌≤◌, ◌-◌, length}
use Rattle.sdr_log.specs.Calls.{KeepsOutside}
use Rattle.sdr_log.proofs.UndoneLemmas.{Undone}
use Rattle.sdr_log.proofs.undoing.undo.Given as goal

abbrev pub invariant-loop-place : goal.invariant-loop-place
invariant-loop-place g l = record {
  size : length (g.D.Disk.bytes l.disk) ≡ length (g.D.Disk.bytes l.fn.disk);
  tells : g.D.Disk.tells_crashes l.disk ≡ g.D.Disk.tells_crashes l.fn.disk;
  later : g.D.Disk.faults l.fn.disk ≤ g.D.Disk.faults l.disk;
  forward : g.D.Disk.moment l.fn.disk ≤ g.D.Disk.moment l.disk;
  inside : KeepsOutside l.frame (g.D.Disk.bytes l.fn.disk) (g.D.Disk.bytes l.disk);
  undone : Undone g.D.Disk.moment g.D.Disk.may_hold_after g.D.Disk.bytes l.frame l.end l.place l.fn.disk l.disk;
}

abbrev pub decreases-loop-place : goal.decreases-loop-place
decreases-loop-place g l = l.end - l.place
