-- So many were passed, whose bytes are summed, and nothing was written.
use Rattle.std.proofs.Common.{ℕ, ◌*◌, ◌≤◌}
use Rattle.std.specs.Prelude.{Ok}
use Rattle.sdr_base.specs.Works.{Looks}
use Rattle.sdr_base.specs.ZcoObjects.{extent_addr, extent_block}
use Rattle.zco_obj.specs.Kept.{ExtentFits}
use Rattle.zco_obj.specs.Walks.{Sums}
use Rattle.zco_obj.proofs.summing.extents_length.Given as goal

abbrev pub invariant-loop-i : goal.invariant-loop-i
invariant-loop-i g l = record {
  sums : Sums ExtentFits extent_addr extent_block (λ e. e.length) (g.O.HasHeap.heap l.fn.o).blocks l.first l.addr l.i l.total;
  most : l.total ≤ 1099511627776 * l.i;
  looks : Looks {T = ℕ} g.O.HasHeap l.fn.o l.o (Ok 0);
}
