-- The word that is set is the last one's.
use Rattle.std.proofs.Common.{◌∙◌, ap}
use Rattle.std.proofs.lemmas.Result.{on_ok_weaker}
use Rattle.sdr_base.specs.Words.{with_word}
use Rattle.zco_obj.proofs.ChainLemmas.{links_last}
use Rattle.zco_obj.proofs.linking.link_last.Goals as goal

pub returns-then-next-eq0-clause-linked : goal.returns-then-next-eq0-clause-linked
returns-then-next-eq0-clause-linked g c =
    let old = g.O.HasHeap.heap c.args.o.now in
    on_ok_weaker _
    (λ w. links_last {old = old} {new = g.O.HasHeap.heap c.set_word.new.o} c.args.side c.args.object c.args.next c.args.prev
    c.if-next-eq0.true (w ∙ ap (λ n. with_word old c.args.object n c.args.prev) c.last_field.ensures.field))
    c.set_word.ensures.written
