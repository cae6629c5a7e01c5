-- The word that is set is the link.
use Rattle.std.proofs.lemmas.Result.{on_ok_weaker}
use Rattle.sdr_list.proofs.LinkLemmas.{links_first, links_next}
use Rattle.sdr_list.proofs.link.link_next.Goals as goal

pub returns-then-prev-eq0-clause-linked : goal.returns-then-prev-eq0-clause-linked
returns-then-prev-eq0-clause-linked g c =
    on_ok_weaker _ (λ w. links_first (g.O.HasHeap.heap c.args.o.now) (g.O.HasHeap.heap c.set_word.new.o) _ _ _ c.if-prev-eq0.true w)
    c.set_word.ensures.written

pub returns-else-prev-eq0-clause-linked : goal.returns-else-prev-eq0-clause-linked
returns-else-prev-eq0-clause-linked g c =
    on_ok_weaker _ (λ w. links_next (g.O.HasHeap.heap c.args.o.now) (g.O.HasHeap.heap c.set_word-else-prev-eq0.new.o) _ _ _ c.if-prev-eq0.false w)
    c.set_word-else-prev-eq0.ensures.written
