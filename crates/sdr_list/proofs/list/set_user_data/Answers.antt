-- The word that is set is the user's number.
use Rattle.std.proofs.Common.{arith}
use Rattle.std.proofs.lemmas.Result.{on_ok_weaker}
use Rattle.sdr_base.proofs.WritingLemmas.{reaches_less}
use Rattle.sdr_list.proofs.KeptLemmas.{list_reaches, user_set}
use Rattle.sdr_list.proofs.list.set_user_data.Goals as goal

pub set_word-requires-clause-inside : goal.set_word-requires-clause-inside
set_word-requires-clause-inside g c =
    rw c.expect_kind.ensures.looks.same
    (reaches_less _ 32 _ (list_reaches (c.requires.list c.in_ok-expect_kind.ensures.found).keeps) (omega arith))

pub returns-clause-set : goal.returns-clause-set
returns-clause-set g c =
    on_ok_weaker _
    (λ w. user_set {old = g.O.HasHeap.heap c.args.o.now} {new = g.O.HasHeap.heap c.set_word.new.o}
    c.in_ok-expect_kind.ensures.found w)
    (rw c.expect_kind.ensures.looks.same at c.set_word.ensures.written)
