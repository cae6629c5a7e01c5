-- So many tickets were passed, none of which is sought, and nothing was written.
use Rattle.std.proofs.Common.{ℕ}
use Rattle.std.specs.Prelude.{Ok}
use Rattle.sdr_base.specs.Works.{Looks}
use Rattle.zco_acct.specs.Walks.{Walks, is_sought}
use Rattle.zco_acct.proofs.queue.search.Given as goal

abbrev pub invariant-loop-i : goal.invariant-loop-i
invariant-loop-i g l = record {
  walks : Walks (g.O.HasHeap.heap l.fn.o) l.fn.acct (is_sought l.sought) l.previous l.addr l.i;
  looks : Looks {T = ℕ} g.O.HasHeap l.fn.o l.o (Ok 0);
}
