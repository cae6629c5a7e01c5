-- So many were passed, and their pieces were named.
use Rattle.std.proofs.Common.{ℕ, ◌*◌, ◌-◌, length}
use Rattle.std.specs.Prelude.{Ok}
use Rattle.sdr_base.specs.Works.{Spends}
use Rattle.zco_part.proofs.CopyLemmas.{CopiedSoFar}
use Rattle.zco_part.proofs.copying.copy_chain.Given as goal

abbrev pub invariant-loop-i : goal.invariant-loop-i
invariant-loop-i g l = record {
  goes : CopiedSoFar l.copy l.first l.fn.span (g.O.HasHeap.heap l.fn.o) (g.O.HasHeap.heap l.o) l.extent l.i l.left;
  works : Spends {T = ℕ} g.O.HasHeap (33 * (length (g.O.HasHeap.heap l.o).moves - length (g.O.HasHeap.heap l.fn.o).moves))
      l.fn.o l.o (Ok 0);
}
