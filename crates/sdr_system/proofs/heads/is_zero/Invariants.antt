use Rattle.std.proofs.Common.{◌≤◌, ◌≡◌, ◌-◌, ◌==◌, true, take}
use Rattle.std.specs.List.{list_all}
use Rattle.sdr_disk.specs.Moments.{Reads}
use Rattle.sdr_system.proofs.heads.is_zero.Given as goal

abbrev pub invariant-loop-place : goal.invariant-loop-place
invariant-loop-place g l = record {
  inside : l.place ≤ l.count;
  zero : list_all (λ b. b == 0) (take l.place (g.D.Disk.bytes l.fn.disk)) ≡ true;
  later : g.D.Disk.faults l.fn.disk ≤ g.D.Disk.faults l.disk;
  reads : Reads g.D.Disk.bytes g.D.Disk.tells_crashes g.D.Disk.moment g.D.Disk.may_hold_after l.fn.disk l.disk;
}

abbrev pub decreases-loop-place : goal.decreases-loop-place
decreases-loop-place g l = l.count - l.place
