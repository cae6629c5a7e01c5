-- So many were given back, each after what goes with it, and what they charged is summed.
use Rattle.std.proofs.Common.{ℕ, ◌+◌, ◌-◌, ◌*◌, length}
use Rattle.std.specs.Prelude.{Ok}
use Rattle.sdr_base.specs.Works.{Spends}
use Rattle.zco_obj.specs.Giving.{AreAtMost}
use Rattle.zco_obj.proofs.ExtentsGoneLemmas.{ExtentsLeft}
use Rattle.zco_obj.proofs.destroying.give_extents.Given as goal

abbrev pub invariant-loop-i : goal.invariant-loop-i
invariant-loop-i g l = record {
  goes : ExtentsLeft l.acct l.first (g.O.HasHeap.heap l.fn.o) (g.O.HasHeap.heap l.o) l.extent l.i l.charged;
  most : AreAtMost (1099511627808 * l.i) l.charged;
  works : Spends {T = ℕ} g.O.HasHeap
      (24 * (length (g.O.HasHeap.heap l.o).moves - length (g.O.HasHeap.heap l.fn.o).moves) + 4 * l.i) l.fn.o l.o (Ok 0);
}
