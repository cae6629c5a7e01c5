-- So many entries of other keys were passed, and nothing was written.
use Rattle.std.proofs.Common.{ℕ}
use Rattle.std.specs.Prelude.{Ok}
use Rattle.sdr_base.specs.Works.{Looks}
use Rattle.sdr_hash.specs.Walks.{Walks}
use Rattle.sdr_hash.proofs.searching.search.Given as goal

abbrev pub invariant-loop-i : goal.invariant-loop-i
invariant-loop-i g l = record {
  walks : Walks (g.O.HasHeap.heap l.fn.o).blocks l.fn.front l.key l.link l.addr l.i;
  looks : Looks {T = ℕ} g.O.HasHeap l.fn.o l.o (Ok 0);
}
