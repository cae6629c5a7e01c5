-- So far the queue was served, and so many tickets were granted.
use Rattle.std.proofs.Common.{ℕ, ◌*◌, ◌≤◌, List, take}
use Rattle.std.specs.Prelude.{Ok}
use Rattle.sdr_base.specs.Cells.{TouchesWithin}
use Rattle.sdr_base.specs.Works.{Spends}
use Rattle.sdr_model.specs.declared.accounts.Ticket.{Ticket}
use Rattle.zco_acct.specs.Kept.{AmountsFit, KeepsQueue}
use Rattle.zco_space.specs.Served.{serving_lines, waiting_tickets}
use Rattle.zco_space.proofs.ServingLemmas.{Serves}
use Rattle.zco_space.proofs.serving.serve.Given as goal

abbrev pub invariant-loop-i : goal.invariant-loop-i
invariant-loop-i g l = record {
  serves : Serves (g.O.HasHeap.heap l.fn.o) (g.O.HasHeap.heap l.o) l.acct l.taken l.addr l.granted l.i;
  few : l.granted ≤ l.i;
  fits : AmountsFit l.taken;
  works : Spends {T = ℕ} g.O.HasHeap (5 * l.granted) l.fn.o l.o (Ok 0);
  lines : (tickets : List Ticket) → KeepsQueue (g.O.HasHeap.heap l.fn.o) l.acct tickets →
      TouchesWithin {T = ℕ} (serving_lines l.acct (take l.granted (waiting_tickets tickets))) (g.O.HasHeap.transaction l.fn.o)
      (g.O.HasHeap.transaction l.o) (Ok 0);
}
