-- The word that is set is the link.
use Rattle.std.proofs.lemmas.Result.{on_ok_weaker}
use Rattle.sdr_list.proofs.LinkLemmas.{links_last, links_previous}
use Rattle.sdr_list.proofs.link.link_prev.Goals as goal

pub returns-then-next-eq0-clause-linked : goal.returns-then-next-eq0-clause-linked
returns-then-next-eq0-clause-linked g c =
    on_ok_weaker _ (λ w. links_last (g.O.HasHeap.heap c.args.o.now) (g.O.HasHeap.heap c.set_word.new.o) _ _ _ c.if-next-eq0.true w)
    c.set_word.ensures.written

pub returns-else-next-eq0-clause-linked : goal.returns-else-next-eq0-clause-linked
returns-else-next-eq0-clause-linked g c =
    on_ok_weaker _ (λ w. links_previous (g.O.HasHeap.heap c.args.o.now) (g.O.HasHeap.heap c.set_word-else-next-eq0.new.o) _ _ _ c.if-next-eq0.false w)
    c.set_word-else-next-eq0.ensures.written
