-- The word that is set is the link.
use Rattle.std.proofs.Common.{◌∙◌, ap}
use Rattle.std.proofs.lemmas.Result.{on_ok_weaker}
use Rattle.sdr_base.specs.Words.{with_word}
use Rattle.zco_obj.proofs.ChainLemmas.{links_first, links_next}
use Rattle.zco_obj.proofs.linking.link_next.Goals as goal

pub returns-then-prev-eq0-clause-linked : goal.returns-then-prev-eq0-clause-linked
returns-then-prev-eq0-clause-linked g c =
    let old = g.O.HasHeap.heap c.args.o.now in
    on_ok_weaker _
    (λ w. links_first {old = old} {new = g.O.HasHeap.heap c.set_word.new.o} c.args.side c.args.object c.args.prev c.args.next
    c.if-prev-eq0.true (w ∙ ap (λ n. with_word old c.args.object n c.args.next) c.first_field.ensures.field))
    c.set_word.ensures.written

pub returns-else-prev-eq0-clause-linked : goal.returns-else-prev-eq0-clause-linked
returns-else-prev-eq0-clause-linked g c =
    on_ok_weaker _
    (λ w. links_next {old = g.O.HasHeap.heap c.args.o.now} {new = g.O.HasHeap.heap c.set_word-else-prev-eq0.new.o} c.args.side c.args.object
    c.args.prev c.args.next c.if-prev-eq0.false w)
    c.set_word-else-prev-eq0.ensures.written
