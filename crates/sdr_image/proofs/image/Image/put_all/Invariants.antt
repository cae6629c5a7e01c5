use Rattle.std.proofs.Common.{◌≡◌, ◌≤◌, ◌-◌, ◌*◌, true, false, take}
use Rattle.std.specs.Prelude.{IsPermutation}
use Rattle.std.specs.List.{range_with_len}
use Rattle.sdr_base.specs.Cells.{with_lines}
use Rattle.sdr_base.specs.Parts.{overwrite}
use Rattle.sdr_image.specs.Opened.{IsQuiet}
use Rattle.sdr_image.proofs.image.Image.put_all.Given as goal

abbrev pub invariant-loop-line : goal.invariant-loop-line
invariant-loop-line g l = record {
  sound : l.self.failed ≡ false;
  is_open : l.self.is_open ≡ true;
  later : g.D.Disk.faults l.fn.self.disk ≤ g.D.Disk.faults l.self.disk;
  bytes : l.self.bytes ≡ overwrite l.place (take (64 * l.line - l.place) l.from) l.fn.self.bytes;
  touched : IsPermutation (with_lines l.fn.self.touched (range_with_len l.first (l.line - l.first))) l.self.touched;
  quiet : IsQuiet g.D.Disk.bytes g.D.Disk.tells_crashes g.D.Disk.moment g.D.Disk.may_hold_after l.fn.self l.self;
}
