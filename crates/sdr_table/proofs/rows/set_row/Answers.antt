-- The row's bytes are written where they stand.
use Rattle.std.proofs.Common.{arith}
use Rattle.std.proofs.lemmas.Result.{on_ok_weaker}
use Rattle.sdr_base.proofs.WritingLemmas.{reaches_less}
use Rattle.sdr_table.proofs.RowLemmas.{row_reaches, row_set}
use Rattle.sdr_table.proofs.rows.set_row.Goals as goal

pub put-requires-clause-inside : goal.put-requires-clause-inside
put-requires-clause-inside g c =
    let e = c.if-from-size.false in
    rw c.row_size.ensures.looks.same
    (reaches_less _ _ _ (row_reaches (c.requires.table c.in_ok-size.ensures.given.kind) c.in_ok-size.ensures.given) (omega (arith, e)))

pub returns-clause-set : goal.returns-clause-set
returns-clause-set g c =
    on_ok_weaker _
    (λ w. row_set {old = g.O.HasHeap.heap c.args.o.now} {new = g.O.HasHeap.heap c.put.new.self} c.args.from.now
    c.in_ok-size.ensures.given c.if-from-size.false w)
    (rw c.row_size.ensures.looks.same at c.put.ensures.written)
