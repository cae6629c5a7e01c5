-- The field is one of four.
use Rattle.std.proofs.Common.{arith}
use Rattle.sdr_base.proofs.WritingLemmas.{reaches_less}
use Rattle.sdr_list.proofs.KeptLemmas.{list_reaches}
use Rattle.sdr_list.proofs.reading.list_word.Goals as goal

pub word-requires-clause-inside : goal.word-requires-clause-inside
word-requires-clause-inside g c =
    rw c.expect_kind.ensures.looks.same
    (reaches_less _ 32 _ (list_reaches (c.requires.list c.in_ok-expect_kind.ensures.found).keeps) (omega (arith, c.requires.field)))
