-- So many elements were seen, and nothing was written.
use Rattle.std.proofs.Common.{ℕ}
use Rattle.std.specs.Prelude.{Ok}
use Rattle.sdr_base.specs.Works.{Looks}
use Rattle.sdr_list.specs.Walks.{WalksOn}
use Rattle.sdr_list.proofs.ordered.first_equal.Given as goal

abbrev pub invariant-loop-i : goal.invariant-loop-i
invariant-loop-i g l = record {
  walks : WalksOn (g.F.Collate.order l.by.by) (g.O.HasHeap.heap l.fn.o).blocks l.list l.key l.cursor l.i;
  looks : Looks {T = ℕ} g.O.HasHeap l.fn.o l.o (Ok 0);
}
