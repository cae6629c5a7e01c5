-- The headers go, the extents, and the trailers.
use Rattle.std.proofs.Common.{◌∙◌, arith, ap}
use Rattle.std.proofs.lemmas.Result.{err_from_is_err_and}
use Rattle.sdr_base.proofs.WorksLemmas.{looks_then, works_more, works_ok, works_stopped, works_then}
use Rattle.sdr_model.specs.Amounts.{plus}
use Rattle.zco_obj.proofs.PartsGoneLemmas.{extents_in, extents_stop, gives_parts, headers_in, headers_stop, some_extents, some_headers, some_kept, some_trailers, trailers_in, trailers_stop}
use Rattle.zco_obj.proofs.destroying.give_parts.Goals as goal

pub first_parts-requires-clause-object : goal.first_parts-requires-clause-object
first_parts-requires-clause-object g c = some_kept c.requires.object

pub give_capsules-requires-clause-chain : goal.give_capsules-requires-clause-chain
give_capsules-requires-clause-chain g c =
    rw c.first_parts.ensures.looks.same (some_headers _ _ c.in_ok-first.ensures.told c.requires.acct c.requires.object)

pub returns-in_err-headers-clause-refused : goal.returns-in_err-headers-clause-refused
returns-in_err-headers-clause-refused g c =
    let p = err_from_is_err_and c.from_residual-in_err-headers.result c.from_residual-in_err-headers.ensures.1 in
    rw (p.1, p.2)
    (headers_stop _ _ c.in_ok-first.ensures.told c.requires.acct (g.O.HasHeap.heap c.give_capsules.new.o) _
    (rw c.first_parts.ensures.looks.same at c.in_err-headers.ensures.refused))

pub returns-in_err-headers-clause-works : goal.returns-in_err-headers-clause-works
returns-in_err-headers-clause-works g c =
    let p = err_from_is_err_and c.from_residual-in_err-headers.result c.from_residual-in_err-headers.ensures.1 in
    let w = rw c.first_parts.ensures.looks.same at c.in_err-headers.ensures.works in
    λ row sources k.
    rw (p.1, p.2)
    (works_stopped _
    (works_more (looks_then c.in_ok-first.ensures.looks
    (w row.headers (headers_in (g.O.HasHeap.heap c.args.o.now) _ c.in_ok-first.ensures.told c.requires.acct k))) (omega arith)))

pub give_extents-requires-clause-kept : goal.give_extents-requires-clause-kept
give_extents-requires-clause-kept g c =
    let w = rw c.first_parts.ensures.looks.same at c.in_ok-headers.ensures.works in
    (w _ (headers_in (g.O.HasHeap.heap c.args.o.now) _ c.in_ok-first.ensures.told c.requires.acct c.requires.object.keeps)).kept

pub give_extents-requires-clause-chain : goal.give_extents-requires-clause-chain
give_extents-requires-clause-chain g c =
    let h = rw c.first_parts.ensures.looks.same at c.in_ok-headers.ensures.given in
    some_extents _ _ c.in_ok-first.ensures.told c.requires.acct h c.requires.object

pub returns-in_err-extents-clause-refused : goal.returns-in_err-extents-clause-refused
returns-in_err-extents-clause-refused g c =
    let p = err_from_is_err_and c.from_residual-in_err-extents.result c.from_residual-in_err-extents.ensures.1 in
    let h = rw c.first_parts.ensures.looks.same at c.in_ok-headers.ensures.given in
    rw (p.1, p.2)
    (extents_stop _ _ c.in_ok-first.ensures.told c.requires.acct h (g.O.HasHeap.heap c.give_extents.new.o) _
    c.in_err-extents.ensures.refused)

pub returns-in_err-extents-clause-works : goal.returns-in_err-extents-clause-works
returns-in_err-extents-clause-works g c =
    let p = err_from_is_err_and c.from_residual-in_err-extents.result c.from_residual-in_err-extents.ensures.1 in
    let w = rw c.first_parts.ensures.looks.same at c.in_ok-headers.ensures.works in
    let h = rw c.first_parts.ensures.looks.same at c.in_ok-headers.ensures.given in
    let f = c.in_ok-first.ensures.told in
    λ row sources k.
    rw (p.1, p.2)
    (works_stopped _
    (works_more (looks_then c.in_ok-first.ensures.looks
    (works_then (w row.headers (headers_in (g.O.HasHeap.heap c.args.o.now) _ f c.requires.acct k))
    (c.in_err-extents.ensures.works row.extents sources (extents_in _ _ f c.requires.acct h k)))) (omega arith)))

pub give_capsules-requires-2-clause-kept : goal.give_capsules-requires-2-clause-kept
give_capsules-requires-2-clause-kept g c =
    let h = rw c.first_parts.ensures.looks.same at c.in_ok-headers.ensures.given in
    (c.in_ok-extents.ensures.works _ _
    (extents_in _ _ c.in_ok-first.ensures.told c.requires.acct h c.requires.object.keeps)).kept

pub give_capsules-requires-2-clause-chain : goal.give_capsules-requires-2-clause-chain
give_capsules-requires-2-clause-chain g c =
    let h = rw c.first_parts.ensures.looks.same at c.in_ok-headers.ensures.given in
    some_trailers _ _ c.in_ok-first.ensures.told c.requires.acct h c.in_ok-extents.ensures.given c.requires.object

pub returns-in_err-trailers-clause-refused : goal.returns-in_err-trailers-clause-refused
returns-in_err-trailers-clause-refused g c =
    let p = err_from_is_err_and c.from_residual-in_err-trailers.result c.from_residual-in_err-trailers.ensures.1 in
    let h = rw c.first_parts.ensures.looks.same at c.in_ok-headers.ensures.given in
    rw (p.1, p.2)
    (trailers_stop _ _ c.in_ok-first.ensures.told c.requires.acct h c.in_ok-extents.ensures.given
    (g.O.HasHeap.heap c.give_capsules-2.new.o) _ c.in_err-trailers.ensures.refused)

pub returns-in_err-trailers-clause-works : goal.returns-in_err-trailers-clause-works
returns-in_err-trailers-clause-works g c =
    let p = err_from_is_err_and c.from_residual-in_err-trailers.result c.from_residual-in_err-trailers.ensures.1 in
    let w = rw c.first_parts.ensures.looks.same at c.in_ok-headers.ensures.works in
    let h = rw c.first_parts.ensures.looks.same at c.in_ok-headers.ensures.given in
    let f = c.in_ok-first.ensures.told in
    λ row sources k.
    rw (p.1, p.2)
    (works_stopped _
    (works_more (looks_then c.in_ok-first.ensures.looks
    (works_then (works_then (w row.headers (headers_in (g.O.HasHeap.heap c.args.o.now) _ f c.requires.acct k))
    (c.in_ok-extents.ensures.works row.extents sources (extents_in _ _ f c.requires.acct h k)))
    (c.in_err-trailers.ensures.works row.trailers (trailers_in _ _ f c.requires.acct h c.in_ok-extents.ensures.given k)))) (omega arith)))

pub returns-clause-given : goal.returns-clause-given
returns-clause-given g c =
    let h = rw c.first_parts.ensures.looks.same at c.in_ok-headers.ensures.given in
    gives_parts _ _ c.in_ok-first.ensures.told c.requires.acct h c.in_ok-extents.ensures.given c.plus.result
    c.in_ok-trailers.ensures.given (c.plus.ensures ∙ ap (plus c.in_ok-extents.extents) c.heap_amounts.ensures)

pub returns-clause-works : goal.returns-clause-works
returns-clause-works g c =
    let w = rw c.first_parts.ensures.looks.same at c.in_ok-headers.ensures.works in
    let h = rw c.first_parts.ensures.looks.same at c.in_ok-headers.ensures.given in
    let f = c.in_ok-first.ensures.told in
    λ row sources k.
    works_ok
    (looks_then c.in_ok-first.ensures.looks
    (works_then (works_then (w row.headers (headers_in (g.O.HasHeap.heap c.args.o.now) _ f c.requires.acct k))
    (c.in_ok-extents.ensures.works row.extents sources (extents_in _ _ f c.requires.acct h k)))
    (c.in_ok-trailers.ensures.works row.trailers (trailers_in _ _ f c.requires.acct h c.in_ok-extents.ensures.given k))))
