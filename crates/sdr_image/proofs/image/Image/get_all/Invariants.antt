use Rattle.std.proofs.Common.{◌≡◌, ◌≤◌, ◌-◌, ◌*◌, false, length, min, take}
use Rattle.sdr_base.specs.Parts.{part}
use Rattle.sdr_disk.specs.Moments.{Reads}
use Rattle.sdr_image.proofs.image.Image.get_all.Given as goal

abbrev pub invariant-loop-line : goal.invariant-loop-line
invariant-loop-line g l = record {
  sound : l.fn.self.failed ≡ false;
  same : l.self ≡ record l.fn.self { disk = l.self.disk };
  later : g.D.Disk.faults l.fn.self.disk ≤ g.D.Disk.faults l.self.disk;
  reads : Reads g.D.Disk.bytes g.D.Disk.tells_crashes g.D.Disk.moment g.D.Disk.may_hold_after l.fn.self.disk l.self.disk;
  given : take (64 * l.line - l.place) l.into
      ≡ part l.place (min (64 * l.line - l.place) (length l.fn.into)) l.fn.self.bytes;
}
