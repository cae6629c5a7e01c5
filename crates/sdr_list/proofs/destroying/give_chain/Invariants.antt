-- So many were given back.
use Rattle.std.proofs.Common.{ℕ, ◌*◌}
use Rattle.std.specs.Prelude.{Ok}
use Rattle.sdr_base.specs.Works.{Spends}
use Rattle.sdr_list.specs.Giving.{GivesElements}
use Rattle.sdr_list.proofs.destroying.give_chain.Given as goal

abbrev pub invariant-loop-i : goal.invariant-loop-i
invariant-loop-i g l = record {
  gives : GivesElements (g.O.HasHeap.heap l.fn.o) (g.O.HasHeap.heap l.o) l.first l.count l.element l.i;
  works : Spends {T = ℕ} g.O.HasHeap (24 * l.i) l.fn.o l.o (Ok 0);
}
