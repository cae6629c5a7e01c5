-- So many were passed, what they charge more is summed, and nothing was written.
use Rattle.std.proofs.Common.{ℕ, ◌*◌, ◌≤◌}
use Rattle.std.specs.Prelude.{Ok}
use Rattle.sdr_base.specs.Works.{Looks}
use Rattle.sdr_base.specs.ZcoObjects.{capsule_addr, capsule_block}
use Rattle.zco_obj.specs.Kept.{CapsuleFits}
use Rattle.zco_obj.specs.Walks.{Sums}
use Rattle.zco_bond.specs.Charging.{bond_rise}
use Rattle.zco_bond.proofs.charging.bond_rise.Given as goal

abbrev pub invariant-loop-i : goal.invariant-loop-i
invariant-loop-i g l = record {
  sums : Sums CapsuleFits capsule_addr capsule_block bond_rise (g.O.HasHeap.heap l.fn.o).blocks l.first l.addr l.i l.total;
  most : l.total ≤ 32 * l.i;
  looks : Looks {T = ℕ} g.O.HasHeap l.fn.o l.o (Ok 0);
}
