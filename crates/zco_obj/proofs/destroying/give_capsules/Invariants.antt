-- So many were given back, and what they charged is summed.
use Rattle.std.proofs.Common.{ℕ, ◌*◌, ◌≤◌}
use Rattle.std.specs.Prelude.{Ok}
use Rattle.sdr_base.specs.Works.{Spends}
use Rattle.zco_obj.proofs.CapsulesGoneLemmas.{CapsulesLeft}
use Rattle.zco_obj.proofs.destroying.give_capsules.Given as goal

abbrev pub invariant-loop-i : goal.invariant-loop-i
invariant-loop-i g l = record {
  goes : CapsulesLeft l.first (g.O.HasHeap.heap l.fn.o) (g.O.HasHeap.heap l.o) l.addr l.i l.charged;
  most : l.charged ≤ 1040 * l.i;
  works : Spends {T = ℕ} g.O.HasHeap (24 * l.i) l.fn.o l.o (Ok 0);
}
