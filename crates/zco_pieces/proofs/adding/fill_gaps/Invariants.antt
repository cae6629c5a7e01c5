-- So many are filled.
use Rattle.std.proofs.Common.{ℕ, ◌*◌, List}
use Rattle.std.specs.Prelude.{Ok}
use Rattle.sdr_base.specs.Works.{Spends}
use Rattle.sdr_base.specs.ZcoObjects.{ObjectRow}
use Rattle.sdr_model.specs.declared.accounts.Ticket.{Ticket}
use Rattle.zco_obj.specs.Gone.{NamedSource}
use Rattle.zco_pieces.specs.Adding.{KeepsToFill, moves_to_fill}
use Rattle.zco_pieces.proofs.FillLemmas.{FilledSoFar}
use Rattle.zco_pieces.proofs.adding.fill_gaps.Given as goal

abbrev pub invariant-loop-i : goal.invariant-loop-i
invariant-loop-i g l = record {
  goes : FilledSoFar l.piece.object l.ticket l.piece.offset l.fn.parts l.parts (g.O.HasHeap.heap l.fn.o) (g.O.HasHeap.heap l.o) l.i;
  works : (row : ObjectRow) (tickets : List Ticket) (sources : List NamedSource) →
      KeepsToFill (g.O.HasHeap.heap l.fn.o) l.piece.object l.piece.offset l.fn.parts row tickets sources →
      Spends {T = ℕ} g.O.HasHeap (34 * moves_to_fill l.piece.offset row goes.done) l.fn.o l.o (Ok 0);
}
