-- Both ends of the part are found, its first and its last extent are cut, and both chains are linked.
use Rattle.std.proofs.Common.{◌∙◌, arith}
use Rattle.std.proofs.lemmas.Result.{err_from_is_err_and}
use Rattle.zco_strip.proofs.PartedLemmas.{begin_reaches, end_reaches, first_there, last_there, left_there, parted, some_extents, within_from}
use Rattle.zco_strip.proofs.PartingLemmas.{end_same}
use Rattle.zco_strip.proofs.SpanLemmas.{unmoved_after}
use Rattle.zco_strip.proofs.chain.part_bytes.Goals as goal

pub find_place-requires-clause-chain : goal.find_place-requires-clause-chain
find_place-requires-clause-chain g c = some_extents c.requires.chain

pub overflow_add-until : goal.overflow_add-until
overflow_add-until g c =
    let q = c.requires.chain in
    let w = within_from (g.O.HasHeap.heap c.args.o.now) c.requires.some c.in_ok-begin.ensures.found q.is q.long in omega (arith, w)

pub find_place-requires-2-clause-chain : goal.find_place-requires-2-clause-chain
find_place-requires-2-clause-chain g c =
    let q = c.requires.chain in
    rw c.find_place.ensures.looks.same (left_there (g.O.HasHeap.heap c.args.o.now) c.requires.some c.in_ok-begin.ensures.found q.is q.long)

pub cut_to-requires-clause-extent : goal.cut_to-requires-clause-extent
cut_to-requires-clause-extent g c =
    let q = c.requires.chain in
    rw (c.find_place-2.ensures.looks.same, c.find_place.ensures.looks.same)
    (first_there (g.O.HasHeap.heap c.args.o.now) c.requires.some c.in_ok-begin.ensures.found q.is q.long)

pub cut_end-requires-clause-extent : goal.cut_end-requires-clause-extent
cut_end-requires-clause-extent g c =
    let q = c.requires.chain in
    let p = rw c.find_place.ensures.looks.same at c.in_ok-place.ensures.found in
    let t = rw (c.find_place-2.ensures.looks.same, c.find_place.ensures.looks.same) at c.in_ok-cut_to.ensures.cut in
    last_there (g.O.HasHeap.heap c.args.o.now) c.requires.some c.in_ok-begin.ensures.found q.is q.long p t

pub link_after-requires-clause-last : goal.link_after-requires-clause-last
link_after-requires-clause-last g c =
    let q = c.requires.chain in
    let p = rw c.find_place.ensures.looks.same at c.in_ok-place.ensures.found in
    let t = rw (c.find_place-2.ensures.looks.same, c.find_place.ensures.looks.same) at c.in_ok-cut_to.ensures.cut in
    end_reaches (g.O.HasHeap.heap c.args.o.now) c.requires.some c.in_ok-begin.ensures.found q.is q.long p t _ c.in_ok-end.end c.in_ok-end.ensures.cut

pub link_after-requires-2-clause-last : goal.link_after-requires-2-clause-last
link_after-requires-2-clause-last g c =
    let q = c.requires.chain in
    let p = rw c.find_place.ensures.looks.same at c.in_ok-place.ensures.found in
    let t = rw (c.find_place-2.ensures.looks.same, c.find_place.ensures.looks.same) at c.in_ok-cut_to.ensures.cut in
    begin_reaches (g.O.HasHeap.heap c.args.o.now) c.requires.some c.in_ok-begin.ensures.found q.is q.long p t _ c.in_ok-end.end c.in_ok-end.ensures.cut
    c.in_ok-link_after.ensures.linked

pub returns-in_err-end-clause-refused : goal.returns-in_err-end-clause-refused
returns-in_err-end-clause-refused g c =
    let p = err_from_is_err_and c.from_residual-in_err-end.result c.from_residual-in_err-end.ensures.1 in
    let t = rw (c.find_place-2.ensures.looks.same, c.find_place.ensures.looks.same) at c.in_ok-cut_to.ensures.cut in
    rw (p.1, p.2) (unmoved_after (g.O.HasHeap.heap c.args.o.now) _ (g.O.HasHeap.heap c.cut_end.new.o) _ t.same c.in_err-end.ensures.refused)

pub returns-in_err-link_after-clause-refused : goal.returns-in_err-link_after-clause-refused
returns-in_err-link_after-clause-refused g c =
    let p = err_from_is_err_and c.from_residual-in_err-link_after.result c.from_residual-in_err-link_after.ensures.1 in
    let t = rw (c.find_place-2.ensures.looks.same, c.find_place.ensures.looks.same) at c.in_ok-cut_to.ensures.cut in
    rw (p.1, p.2)
    (unmoved_after (g.O.HasHeap.heap c.args.o.now) _ (g.O.HasHeap.heap c.link_after.new.o) _ (end_same c.in_ok-place.place _ _ c.in_ok-end.end c.in_ok-end.ensures.cut ∙ t.same)
    c.in_err-link_after.ensures.refused)

pub returns-in_err-link_after-2-clause-refused : goal.returns-in_err-link_after-2-clause-refused
returns-in_err-link_after-2-clause-refused g c =
    let p = err_from_is_err_and c.from_residual-in_err-link_after-2.result c.from_residual-in_err-link_after-2.ensures.1 in
    let t = rw (c.find_place-2.ensures.looks.same, c.find_place.ensures.looks.same) at c.in_ok-cut_to.ensures.cut in
    rw (p.1, p.2)
    (unmoved_after (g.O.HasHeap.heap c.args.o.now) _ (g.O.HasHeap.heap c.link_after-2.new.o) _
    (c.in_ok-link_after.ensures.linked.same ∙ end_same c.in_ok-place.place _ _ c.in_ok-end.end c.in_ok-end.ensures.cut ∙ t.same) c.in_err-link_after-2.ensures.refused)

pub returns-clause-parted : goal.returns-clause-parted
returns-clause-parted g c =
    let p = rw c.find_place.ensures.looks.same at c.in_ok-place.ensures.found in
    let t = rw (c.find_place-2.ensures.looks.same, c.find_place.ensures.looks.same) at c.in_ok-cut_to.ensures.cut in
    record {
      parts = λ rows chain long.
          parted (g.O.HasHeap.heap c.args.o.now) c.requires.some c.in_ok-begin.ensures.found chain long p t _ c.in_ok-end.end c.in_ok-end.ensures.cut c.in_ok-link_after.ensures.linked
          c.first_outside.result c.in_ok-link_after-2.ensures.linked c.first_outside.ensures;
      same =
          c.in_ok-link_after-2.ensures.linked.same ∙ c.in_ok-link_after.ensures.linked.same ∙ end_same c.in_ok-place.place _ _ c.in_ok-end.end c.in_ok-end.ensures.cut ∙ t.same;
    }
