use Rattle.std.proofs.Common.{◌≡◌, ◌≤◌, ◌+◌, ◌-◌, ◌*◌, length}
use Rattle.sdr_log.specs.Calls.{AreBelow, KeepsOutside}
use Rattle.sdr_log.specs.Undoing.{records_at}
use Rattle.sdr_log.proofs.PuttingLemmas.{Putting}
use Rattle.sdr_log.proofs.undoing.restore_records.Given as goal

abbrev pub invariant-loop-done : goal.invariant-loop-done
invariant-loop-done g l = record {
  size : length (g.D.Disk.bytes l.disk) ≡ length (g.D.Disk.bytes l.fn.disk);
  tells : g.D.Disk.tells_crashes l.disk ≡ g.D.Disk.tells_crashes l.fn.disk;
  later : g.D.Disk.faults l.fn.disk ≤ g.D.Disk.faults l.disk;
  forward : g.D.Disk.moment l.fn.disk ≤ g.D.Disk.moment l.disk;
  calls : g.D.Disk.moment l.disk + 2 * (l.count - l.done) ≤ g.D.Disk.moment l.fn.disk + 2 * l.count;
  inside : KeepsOutside l.frame (g.D.Disk.bytes l.fn.disk) (g.D.Disk.bytes l.disk);
  putting : Putting g.D.Disk.moment g.D.Disk.may_hold_after g.D.Disk.bytes l.frame
      (records_at (64 + l.place) l.count (g.D.Disk.bytes l.fn.disk))
      (records_at (64 + l.place + 68 * l.done) (l.count - l.done) (g.D.Disk.bytes l.fn.disk)) l.fn.disk l.disk;
  below : AreBelow l.frame.heap_lines
      (records_at (64 + l.place + 68 * l.done) (l.count - l.done) (g.D.Disk.bytes l.fn.disk));
}
