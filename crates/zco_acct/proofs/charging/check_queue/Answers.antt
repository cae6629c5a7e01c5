-- A ticket that waits is found, or none.
use Rattle.std.proofs.Common.{◌∙◌, sym}
use Rattle.zco_acct.proofs.RefusalLemmas.{free, not_free}
use Rattle.zco_acct.proofs.charging.check_queue.Goals as goal

pub returns-in-None-clause-free : goal.returns-in-None-clause-free
returns-in-None-clause-free g c =
    free (g.O.HasHeap.heap c.args.o.now) c.args.acct c.args.uncovered.now (sym c.is_nothing.ensures ∙ c.if-is_nothing.false)
    (rw c.in-None.is at c.in_ok-search.ensures.found)

pub returns-in-Some-clause-refused : goal.returns-in-Some-clause-refused
returns-in-Some-clause-refused g c =
    not_free (g.O.HasHeap.heap c.args.o.now) c.args.acct c.args.uncovered.now _
    (sym c.is_nothing.ensures ∙ c.if-is_nothing.false) (rw c.in-Some.is at c.in_ok-search.ensures.found)
