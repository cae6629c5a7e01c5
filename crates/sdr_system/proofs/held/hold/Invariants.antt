use Rattle.std.proofs.Common.{◌≤◌, ◌<◌, ◌-◌, ◌+◌, ◌≡◌, false, length}
use Rattle.std.specs.Io.KnownBytes.{Consumes}
use Rattle.sdr_system.proofs.held.hold.Given as goal

abbrev pub invariant-loop-piece : goal.invariant-loop-piece
invariant-loop-piece g l = record {
  taken : Consumes (g.S.Source.left l.fn.source) (g.S.Source.left l.source) l.bytes.items;
  later : g.S.Source.faults l.fn.source ≤ g.S.Source.faults l.source;
  each_gave : g.S.Source.reads l.source ≤ g.S.Source.reads l.fn.source + length l.bytes.items;
  most : length l.bytes.items ≤ 1048577;
  sound : l.failed ≡ false;
}

abbrev pub decreases-loop-piece : goal.decreases-loop-piece
decreases-loop-piece g l = 1048577 - length l.bytes.items
