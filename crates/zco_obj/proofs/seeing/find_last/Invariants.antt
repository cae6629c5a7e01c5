-- So many were passed, and nothing was written.
use Rattle.std.proofs.Common.{ℕ}
use Rattle.std.specs.Prelude.{Ok}
use Rattle.sdr_base.specs.Works.{Looks}
use Rattle.zco_obj.specs.Walks.{WalksOne}
use Rattle.zco_obj.proofs.seeing.find_last.Given as goal

abbrev pub invariant-loop-i : goal.invariant-loop-i
invariant-loop-i g l = record {
  walks : WalksOne (g.O.HasHeap.heap l.fn.o).blocks l.first l.previous l.addr l.i;
  looks : Looks {T = ℕ} g.O.HasHeap l.fn.o l.o (Ok 0);
}
