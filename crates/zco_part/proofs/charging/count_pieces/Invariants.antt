-- So many were passed, their pieces are counted, and nothing was written.
use Rattle.std.proofs.Common.{ℕ, ◌≤◌}
use Rattle.std.specs.Prelude.{Ok}
use Rattle.sdr_base.specs.Works.{Looks}
use Rattle.zco_part.proofs.CountLemmas.{CountsSoFar}
use Rattle.zco_part.proofs.charging.count_pieces.Given as goal

abbrev pub invariant-loop-i : goal.invariant-loop-i
invariant-loop-i g l = record {
  goes : CountsSoFar (g.O.HasHeap.heap l.fn.o).blocks l.first l.fn.span l.extent l.i l.left l.count;
  most : l.count ≤ l.i;
  looks : Looks {T = ℕ} g.O.HasHeap l.fn.o l.o (Ok 0);
}
