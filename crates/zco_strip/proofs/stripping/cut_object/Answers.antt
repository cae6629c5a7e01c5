-- The part is read, the chain is parted, and the object's ends are set.
use Rattle.std.proofs.lemmas.Result.{err_from_is_err_and}
use Rattle.zco_strip.proofs.SpanLemmas.{cuts_object, object_there, some_chain, some_kept, span_ordered, unmoved_after}
use Rattle.zco_strip.proofs.stripping.cut_object.Goals as goal

pub part_span-requires-clause-object : goal.part_span-requires-clause-object
part_span-requires-clause-object g c = some_kept c.requires.object

pub part_chain-requires-clause-ordered : goal.part_chain-requires-clause-ordered
part_chain-requires-clause-ordered g c = span_ordered _ _ c.in_ok-span.ensures.told c.requires.object

pub part_chain-requires-clause-chain : goal.part_chain-requires-clause-chain
part_chain-requires-clause-chain g c =
    rw c.part_span.ensures.looks.same (some_chain _ _ c.in_ok-span.ensures.told c.requires.object)

pub set_ends-requires-clause-object : goal.set_ends-requires-clause-object
set_ends-requires-clause-object g c =
    let p = rw c.part_span.ensures.looks.same at c.in_ok-parted.ensures.parted in
    object_there _ _ c.in_ok-span.ensures.told p c.requires.object

pub returns-in_err-set_ends-clause-refused : goal.returns-in_err-set_ends-clause-refused
returns-in_err-set_ends-clause-refused g c =
    let e = err_from_is_err_and c.from_residual-in_err-set_ends.result c.from_residual-in_err-set_ends.ensures.1 in
    let p = rw c.part_span.ensures.looks.same at c.in_ok-parted.ensures.parted in
    rw (e.1, e.2) (unmoved_after (g.O.HasHeap.heap c.args.o.now) _ (g.O.HasHeap.heap c.set_ends.new.o) _ p.same c.in_err-set_ends.ensures.refused)

pub returns-clause-cut : goal.returns-clause-cut
returns-clause-cut g c =
    let p = rw c.part_span.ensures.looks.same at c.in_ok-parted.ensures.parted in
    cuts_object _ _ c.in_ok-span.ensures.told p c.in_ok-set_ends.ensures.set
