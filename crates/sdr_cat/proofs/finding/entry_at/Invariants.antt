-- So many entries were passed, and nothing was written.
use Rattle.std.proofs.Common.{ℕ}
use Rattle.std.specs.Prelude.{Ok}
use Rattle.sdr_base.specs.Works.{Looks}
use Rattle.sdr_cat.specs.Walks.{Steps}
use Rattle.sdr_cat.proofs.finding.entry_at.Given as goal

abbrev pub invariant-loop-i : goal.invariant-loop-i
invariant-loop-i g l = record {
  steps : Steps (g.O.HasHeap.heap l.fn.o) l.addr l.i;
  looks : Looks {T = ℕ} g.O.HasHeap l.fn.o l.o (Ok 0);
}
