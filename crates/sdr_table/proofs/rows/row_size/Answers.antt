-- The words of the table's block say it.
use Rattle.std.proofs.Common.{arith, refl}
use Rattle.std.proofs.lemmas.Result.{IfOk-weaker}
use Rattle.sdr_base.proofs.WritingLemmas.{reaches_less}
use Rattle.sdr_table.proofs.KeptLemmas.{table_reaches}
use Rattle.sdr_table.proofs.RowLemmas.{has_row, no_row}
use Rattle.sdr_table.proofs.rows.row_size.Goals as goal

pub word-requires-clause-inside : goal.word-requires-clause-inside
word-requires-clause-inside g c =
    rw c.expect_kind.ensures.looks.same
    (reaches_less _ 24 _ (table_reaches (c.requires.table c.in_ok-expect_kind.ensures.found)) (omega arith))

pub returns-then-row-rows-clause-refused : goal.returns-then-row-rows-clause-refused
returns-then-row-rows-clause-refused g c =
    let r = rw c.expect_kind.ensures.looks.same at c.in_ok-rows.ensures.given in
    (refl, no_row c.in_ok-expect_kind.ensures.found r c.if-row-rows.true)

pub word-requires-2-clause-inside : goal.word-requires-2-clause-inside
word-requires-2-clause-inside g c =
    rw (c.word.ensures.looks.same, c.expect_kind.ensures.looks.same)
    (reaches_less _ 24 _ (table_reaches (c.requires.table c.in_ok-expect_kind.ensures.found)) (omega arith))

pub returns-clause-given : goal.returns-clause-given
returns-clause-given g c =
    let r = rw c.expect_kind.ensures.looks.same at c.in_ok-rows.ensures.given in
    IfOk-weaker _ _ _ (λ size s. has_row c.in_ok-expect_kind.ensures.found r c.if-row-rows.false s)
    (rw (c.word.ensures.looks.same, c.expect_kind.ensures.looks.same) at c.word-2.ensures.given)
