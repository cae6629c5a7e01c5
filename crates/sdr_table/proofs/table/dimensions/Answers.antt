-- The words of the table's block say it.
use Rattle.std.proofs.Common.{arith}
use Rattle.sdr_base.proofs.WritingLemmas.{reaches_less}
use Rattle.sdr_table.proofs.KeptLemmas.{both_are, rows_is, size_is, table_reaches, told}
use Rattle.sdr_table.proofs.table.dimensions.Goals as goal

pub word-requires-clause-inside : goal.word-requires-clause-inside
word-requires-clause-inside g c =
    rw c.expect_kind.ensures.looks.same
    (reaches_less _ 24 _ (table_reaches (c.requires.table c.in_ok-expect_kind.ensures.found)) (omega arith))

pub word-requires-2-clause-inside : goal.word-requires-2-clause-inside
word-requires-2-clause-inside g c =
    rw (c.word.ensures.looks.same, c.expect_kind.ensures.looks.same)
    (reaches_less _ 24 _ (table_reaches (c.requires.table c.in_ok-expect_kind.ensures.found)) (omega arith))

pub returns-clause-given : goal.returns-clause-given
returns-clause-given g c =
    let r = rw c.expect_kind.ensures.looks.same at c.in_ok-rows.ensures.given in
    let s = rw (c.word.ensures.looks.same, c.expect_kind.ensures.looks.same) at c.in_ok-size.ensures.given in
    told (λ t. (t.rows, t.size)) _ c.in_ok-expect_kind.ensures.found (λ table k. both_are (rows_is r k) (size_is s k))
