use Rattle.std.proofs.Common.{◌≡◌, ◌≤◌, ℕ, ◌+◌, ◌*◌, length}
use Rattle.sdr_disk.specs.Moments.{AtEach, Only}
use Rattle.sdr_disk.specs.Ranges.{Agrees, IsInNone}
use Rattle.sdr_log.specs.Calls.{AreBelow, KeepsOutside}
use Rattle.sdr_log.specs.Logged.{line_ranges}
use Rattle.sdr_log.proofs.PuttingLemmas.{Putting}
use Rattle.sdr_log.proofs.lines.put_lines.Given as goal

abbrev pub invariant-loop-line : goal.invariant-loop-line
invariant-loop-line g l = record {
  tells : g.D.Disk.tells_crashes l.disk ≡ g.D.Disk.tells_crashes l.fn.disk;
  below : AreBelow l.frame.heap_lines l.rest;
  later : g.D.Disk.faults l.fn.disk ≤ g.D.Disk.faults l.disk;
  forward : g.D.Disk.moment l.fn.disk ≤ g.D.Disk.moment l.disk;
  calls : g.D.Disk.moment l.disk + 2 * length l.rest ≡ g.D.Disk.moment l.fn.disk + 2 * length l.fn.lines;
  inside : KeepsOutside l.frame (g.D.Disk.bytes l.fn.disk) (g.D.Disk.bytes l.disk);
  putting : Putting g.D.Disk.moment g.D.Disk.may_hold_after g.D.Disk.bytes l.frame l.fn.lines l.rest l.fn.disk l.disk;
  within : (i : ℕ) → IsInNone (line_ranges l.frame l.fn.lines) i → IsInNone (line_ranges l.frame l.rest) i;
  outside : Only (g.D.Disk.bytes l.fn.disk) (g.D.Disk.may_hold_after l.fn.disk (g.D.Disk.moment l.fn.disk)) →
      AtEach g.D.Disk.moment g.D.Disk.may_hold_after l.fn.disk l.disk
      (Agrees (line_ranges l.frame l.fn.lines) (g.D.Disk.bytes l.fn.disk));
}

abbrev pub decreases-loop-line : goal.decreases-loop-line
decreases-loop-line g l = length l.rest
