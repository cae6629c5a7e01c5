-- The field is one of four.
use Rattle.std.proofs.Common.{arith}
use Rattle.sdr_base.proofs.WritingLemmas.{reaches_less}
use Rattle.sdr_list.proofs.KeptLemmas.{element_reaches}
use Rattle.sdr_list.proofs.reading.element_word.Goals as goal

pub word-requires-clause-inside : goal.word-requires-clause-inside
word-requires-clause-inside g c =
    rw c.expect_kind.ensures.looks.same
    (reaches_less _ 32 _ (element_reaches (c.requires.element c.in_ok-expect_kind.ensures.found).is) (omega (arith, c.requires.field)))
