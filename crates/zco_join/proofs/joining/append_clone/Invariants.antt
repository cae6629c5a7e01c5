-- So many extents were passed.
use Rattle.std.proofs.Common.{ℕ, ◌*◌, List}
use Rattle.std.specs.Prelude.{Ok}
use Rattle.sdr_base.specs.Works.{Spends}
use Rattle.sdr_base.specs.declared.account.Acct.{Acct}
use Rattle.zco_obj.specs.declared.extent.ExtentPiece.{ExtentPiece}
use Rattle.zco_join.specs.Appending.{CloneAt}
use Rattle.zco_join.specs.Joining.{Together}
use Rattle.zco_join.specs.Stocks.{Standing}
use Rattle.zco_join.specs.declared.filled.Filled.{Filled}
use Rattle.zco_join.proofs.ExtendLemmas.{Extended}
use Rattle.zco_join.proofs.joining.append_clone.Given as goal
use Rattle.sdr_base.specs.Objects.{Heap}

abbrev pub invariant-loop-i : goal.invariant-loop-i
invariant-loop-i g l = record {
  goes : (start : Heap) (acct : Acct) (parts : List Filled) (t : Together) (done : List ExtentPiece) (z : Standing) (left : List ExtentPiece) →
      CloneAt start acct parts t l.object l.clone done z left (g.O.HasHeap.heap l.fn.o) →
      Extended l.object l.ticket z.row.extents (g.O.HasHeap.heap l.fn.o) (g.O.HasHeap.heap l.o) l.extent l.i;
  works : (start : Heap) (acct : Acct) (parts : List Filled) (t : Together) (done : List ExtentPiece) (z : Standing) (left : List ExtentPiece) →
      CloneAt start acct parts t l.object l.clone done z left (g.O.HasHeap.heap l.fn.o) →
      Spends {T = ℕ} g.O.HasHeap (42 * l.i) l.fn.o l.o (Ok 0);
}
