-- So many rows of the line were seen.
use Rattle.std.proofs.Common.{ℕ}
use Rattle.std.specs.Prelude.{Ok}
use Rattle.sdr_base.specs.Works.{Looks}
use Rattle.bp_queue.proofs.NamingLemmas.{WalksLine}
use Rattle.bp_queue.proofs.putting.item_naming.Given as goal

abbrev pub invariant-loop-i : goal.invariant-loop-i
invariant-loop-i g l = record {
  walks : WalksLine l.q l.object (g.O.HasHeap.heap l.fn.o).blocks l.element l.i;
  looks : Looks {T = ℕ} g.O.HasHeap l.fn.o l.o (Ok 0);
}
