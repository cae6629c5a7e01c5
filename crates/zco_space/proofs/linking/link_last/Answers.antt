-- The word that is set is the last one's.
use Rattle.std.proofs.Common.{◌∙◌, ap}
use Rattle.std.proofs.lemmas.Result.{on_ok_weaker}
use Rattle.sdr_base.specs.Objects.{with_root}
use Rattle.zco_space.proofs.LinkLemmas.{links_last}
use Rattle.zco_space.proofs.linking.link_last.Goals as goal

pub returns-then-next-eq0-clause-linked : goal.returns-then-next-eq0-clause-linked
returns-then-next-eq0-clause-linked g c =
    let old = g.O.HasHeap.heap c.args.o.now in
    on_ok_weaker _
    (λ w. links_last {old = old} {new = g.O.HasHeap.heap c.set_root.new.self} c.if-next-eq0.true
    (w ∙ ap (λ n. with_root old n c.args.prev) c.last_word.ensures.word))
    c.set_root.ensures.written
