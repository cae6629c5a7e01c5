-- Those so far were gone over, and nothing was written.
use Rattle.std.proofs.Common.{◌≡◌, ◌≤◌, ℕ, length}
use Rattle.std.specs.Prelude.{Ok}
use Rattle.sdr_base.specs.Works.{Looks}
use Rattle.zco_wire.specs.Going.{WalksHeads}
use Rattle.zco_wire.proofs.heads.read_heads.Given as goal

abbrev pub invariant-loop-i : goal.invariant-loop-i
invariant-loop-i g l = record {
  walks : WalksHeads (g.O.HasHeap.heap l.fn.o).blocks l.first l.head l.i l.fn.at l.cursor l.fn.into l.into;
  room : l.cursor.given ≤ length l.into;
  same : length l.into ≡ length l.fn.into;
  looks : Looks {T = ℕ} g.O.HasHeap l.fn.o l.o (Ok 0);
}
