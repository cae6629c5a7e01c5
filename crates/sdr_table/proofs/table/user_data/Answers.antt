-- The word of the table's block says it.
use Rattle.std.proofs.Common.{arith}
use Rattle.std.proofs.lemmas.Result.{IfOk-weaker}
use Rattle.sdr_base.proofs.WritingLemmas.{reaches_less}
use Rattle.sdr_table.proofs.KeptLemmas.{table_reaches, told, user_is}
use Rattle.sdr_table.proofs.table.user_data.Goals as goal

pub word-requires-clause-inside : goal.word-requires-clause-inside
word-requires-clause-inside g c =
    rw c.expect_kind.ensures.looks.same
    (reaches_less _ 24 _ (table_reaches (c.requires.table c.in_ok-expect_kind.ensures.found)) (omega arith))

pub returns-clause-given : goal.returns-clause-given
returns-clause-given g c =
    IfOk-weaker _ _ _
    (λ value h. told (λ t. t.user) value c.in_ok-expect_kind.ensures.found (λ table k. user_is h k))
    (rw c.expect_kind.ensures.looks.same at c.word.ensures.given)
