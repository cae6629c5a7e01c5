-- What those so far name was gone over, and nothing was written.
use Rattle.std.proofs.Common.{◌≡◌, ◌≤◌, ℕ, length}
use Rattle.std.specs.Prelude.{Ok}
use Rattle.sdr_base.specs.Works.{Looks}
use Rattle.zco_wire.specs.Going.{WalksNamed}
use Rattle.zco_wire.specs.Stopping.{KeepsTold}
use Rattle.zco_wire.proofs.extents.read_extents.Given as goal

abbrev pub invariant-loop-i : goal.invariant-loop-i
invariant-loop-i g l = record {
  walks : WalksNamed g.M.Media l.fn.media l.media (g.O.HasHeap.heap l.fn.o).blocks l.first l.extent l.i l.fn.at l.cursor l.fn.into l.into;
  room : l.cursor.given ≤ length l.into;
  same : length l.into ≡ length l.fn.into;
  media : KeepsTold g.M.Media l.fn.media l.media;
  looks : Looks {T = ℕ} g.O.HasHeap l.fn.o l.o (Ok 0);
}
