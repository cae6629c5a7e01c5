-- The word that is set is the datum.
use Rattle.std.proofs.Common.{arith}
use Rattle.std.proofs.lemmas.Result.{on_ok_weaker}
use Rattle.sdr_base.proofs.WritingLemmas.{reaches_less}
use Rattle.sdr_list.proofs.DeleteLemmas.{datum_set}
use Rattle.sdr_list.proofs.KeptLemmas.{element_reaches}
use Rattle.sdr_list.proofs.element.set_datum.Goals as goal

pub set_word-requires-clause-inside : goal.set_word-requires-clause-inside
set_word-requires-clause-inside g c =
    rw c.expect_kind.ensures.looks.same
    (reaches_less _ 32 _ (element_reaches (c.requires.element c.in_ok-expect_kind.ensures.found).is) (omega arith))

pub returns-clause-set : goal.returns-clause-set
returns-clause-set g c =
    on_ok_weaker _
    (λ w. datum_set (g.O.HasHeap.heap c.args.o.now) (g.O.HasHeap.heap c.set_word.new.o) c.args.datum
    c.in_ok-expect_kind.ensures.found w)
    (rw c.expect_kind.ensures.looks.same at c.set_word.ensures.written)
