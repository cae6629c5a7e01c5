use Rattle.std.proofs.Common.{◌≡◌, ◌≤◌, ◌-◌, length}
use Rattle.std.specs.Prelude.{replicate}
use Rattle.sdr_base.specs.Parts.{overwrite}
use Rattle.sdr_image.proofs.zeros.write_zeros.Given as goal

abbrev pub invariant-loop-done : goal.invariant-loop-done
invariant-loop-done g l = record {
  below : l.done ≤ l.fn.count;
  written : g.D.Disk.bytes l.disk ≡ overwrite l.fn.place (replicate l.done 0) (g.D.Disk.bytes l.fn.disk);
  tells : g.D.Disk.tells_crashes l.disk ≡ g.D.Disk.tells_crashes l.fn.disk;
  size : length (g.D.Disk.bytes l.disk) ≡ length (g.D.Disk.bytes l.fn.disk);
  later : g.D.Disk.faults l.fn.disk ≤ g.D.Disk.faults l.disk;
}

abbrev pub decreases-loop-done : goal.decreases-loop-done
decreases-loop-done g l = l.count - l.done
