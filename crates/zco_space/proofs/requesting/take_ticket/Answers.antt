-- The words are those of a ticket that waits.
use Rattle.std.proofs.lemmas.Result.{IfOk-weaker}
use Rattle.zco_space.proofs.EnterLemmas.{takes_new}
use Rattle.zco_space.proofs.requesting.take_ticket.Goals as goal

pub returns-clause-taken : goal.returns-clause-taken
returns-clause-taken g c =
    IfOk-weaker _ _ _
    (λ addr t. takes_new c.args.acct c.args.new.now c.args.next (g.O.HasHeap.heap c.args.o.now)
    (g.O.HasHeap.heap c.take_words.new.o) addr _ c.requires.new c.number-number.ensures t)
    c.take_words.ensures.taken
