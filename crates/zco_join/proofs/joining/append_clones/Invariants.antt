-- The extents of some first clones came.
use Rattle.std.proofs.Common.{ℕ, ◌*◌, [], length}
use Rattle.std.specs.Prelude.{Ok}
use Rattle.sdr_base.specs.Objects.{Heap}
use Rattle.sdr_base.specs.Works.{Spends}
use Rattle.sdr_base.specs.declared.account.Acct.{Acct}
use Rattle.zco_join.specs.Appending.{HasAppended}
use Rattle.zco_join.specs.Joining.{Together, pieces_in}
use Rattle.zco_join.proofs.AppendedLemmas.{Appended}
use Rattle.zco_join.proofs.PassedLemmas.{PassedParts}
use Rattle.zco_join.proofs.joining.append_clones.Given as goal

abbrev pub invariant-loop-part : goal.invariant-loop-part
invariant-loop-part g l = record {
  passed : PassedParts l.parts l.part-index;
  goes : (start : Heap) (acct : Acct) (t : Together) → HasAppended start acct l.parts t l.object [] (pieces_in t.clones) (g.O.HasHeap.heap l.fn.o) →
      (a : Appended l.object l.ticket t.clones passed.left (g.O.HasHeap.heap l.fn.o) (g.O.HasHeap.heap l.o))
      × Spends {T = ℕ} g.O.HasHeap (42 * length (pieces_in a.before)) l.fn.o l.o (Ok 0);
}
