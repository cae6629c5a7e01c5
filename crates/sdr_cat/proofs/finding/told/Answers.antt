-- The words of the entry's block say it.
use Rattle.std.proofs.Common.{arith}
use Rattle.sdr_base.proofs.WritingLemmas.{reaches_less}
use Rattle.sdr_cat.proofs.FindLemmas.{entry_reaches, tells, type_fits}
use Rattle.sdr_cat.proofs.finding.told.Goals as goal

pub word-requires-clause-inside : goal.word-requires-clause-inside
word-requires-clause-inside g c = reaches_less _ 56 _ (entry_reaches c.requires.entry) (omega arith)

pub word-requires-2-clause-inside : goal.word-requires-2-clause-inside
word-requires-2-clause-inside g c =
    rw c.word.ensures.looks.same (reaches_less _ 56 _ (entry_reaches c.requires.entry) (omega arith))

pub overflow_cast-result : goal.overflow_cast-result
overflow_cast-result g c =
    let f = type_fits c.requires.entry c.in_ok-kind.ensures.given in omega (arith, f)

pub returns-clause-told : goal.returns-clause-told
returns-clause-told g c =
    tells c.in_ok-kind.ensures.given (rw c.word.ensures.looks.same at c.in_ok-object.ensures.given)
