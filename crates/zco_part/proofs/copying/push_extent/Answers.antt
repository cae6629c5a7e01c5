-- The extent is taken, the object ends at it, and it is linked.
use Rattle.std.proofs.Common.{arith, refl, ap}
use Rattle.std.proofs.lemmas.Result.{IfErr-weaker, err_from_is_err_and, on_ok_weaker}
use Rattle.sdr_base.specs.Making.{besides}
use Rattle.sdr_base.specs.Objects.{OnlyShort}
use Rattle.sdr_base.proofs.HeapLemmas.{short_after}
use Rattle.sdr_base.proofs.WorksLemmas.{looks_then, works_more, works_then}
use Rattle.zco_obj.proofs.ExtentLemmas.{took_extent}
use Rattle.zco_obj.proofs.KeptLemmas.{object_reaches}
use Rattle.zco_part.proofs.WholeLemmas.{adds_last, ended_last, ended_reaches, longer_fits, whole_beside}
use Rattle.zco_part.proofs.copying.push_extent.Goals as goal

pub word-requires-clause-inside : goal.word-requires-clause-inside
word-requires-clause-inside g c = object_reaches c.requires.object.some.keeps 24 (omega arith)

pub word-requires-2-clause-inside : goal.word-requires-2-clause-inside
word-requires-2-clause-inside g c = rw c.word.ensures.looks.same (object_reaches c.requires.object.some.keeps 72 (omega arith))

pub overflow_add-longer : goal.overflow_add-longer
overflow_add-longer g c =
    let h = rw c.word.ensures.looks.same at c.in_ok-part.ensures.given in
    let f = longer_fits c.in_ok-part.part c.args.piece.bytes c.requires.object h c.requires.short in omega (arith, f)

pub end_at-requires-clause-object : goal.end_at-requires-clause-object
end_at-requires-clause-object g c =
    let t = rw (c.word-2.ensures.looks.same, c.word.ensures.looks.same) at c.in_ok-added.ensures.taken in
    whole_beside c.args.piece t c.requires.object

pub returns-in_err-end_at-clause-refused : goal.returns-in_err-end_at-clause-refused
returns-in_err-end_at-clause-refused g c =
    let p = err_from_is_err_and c.from_residual-in_err-end_at.result c.from_residual-in_err-end_at.ensures.1 in
    let t = rw (c.word-2.ensures.looks.same, c.word.ensures.looks.same) at c.in_ok-added.ensures.taken in
    rw (p.1, p.2)
    (short_after (g.O.HasHeap.heap c.take_extent.new.o) (g.O.HasHeap.heap c.end_at.new.o) _ (took_extent c.args.piece t) refl
    c.in_err-end_at.ensures.refused)

pub link_behind-requires-clause-object : goal.link_behind-requires-clause-object
link_behind-requires-clause-object g c =
    let t = rw (c.word-2.ensures.looks.same, c.word.ensures.looks.same) at c.in_ok-added.ensures.taken in
    let h = rw c.word.ensures.looks.same at c.in_ok-part.ensures.given in
    ended_reaches c.args.piece t c.requires.object c.in_ok-part.part h c.in_ok-end_at.ensures.ended

pub link_behind-requires-clause-last : goal.link_behind-requires-clause-last
link_behind-requires-clause-last g c =
    let t = rw (c.word-2.ensures.looks.same, c.word.ensures.looks.same) at c.in_ok-added.ensures.taken in
    let h = rw c.word.ensures.looks.same at c.in_ok-part.ensures.given in
    ended_last c.args.piece t c.requires.object c.in_ok-part.part h c.in_ok-end_at.ensures.ended c.in_ok-last.ensures.given

pub returns-clause-added : goal.returns-clause-added
returns-clause-added g c =
    let t = rw (c.word-2.ensures.looks.same, c.word.ensures.looks.same) at c.in_ok-added.ensures.taken in
    let h = rw c.word.ensures.looks.same at c.in_ok-part.ensures.given in
    on_ok_weaker _
    (λ f. adds_last c.args.piece t c.requires.object c.in_ok-part.part h c.in_ok-end_at.ensures.ended c.in_ok-last.ensures.given f)
    c.link_behind.ensures.linked

pub returns-clause-refused : goal.returns-clause-refused
returns-clause-refused g c =
    let old = g.O.HasHeap.heap c.args.o.now in
    let ended = g.O.HasHeap.heap c.end_at.new.o in
    let new = g.O.HasHeap.heap c.link_behind.new.o in
    let t = rw (c.word-2.ensures.looks.same, c.word.ensures.looks.same) at c.in_ok-added.ensures.taken in
    IfErr-weaker _ _ (OnlyShort 32 old new)
    (λ stop s. short_after ended new stop (took_extent c.args.piece t) (ap besides c.in_ok-end_at.ensures.ended) s)
    c.link_behind.ensures.refused

pub returns-clause-works : goal.returns-clause-works
returns-clause-works g c =
    looks_then c.in_ok-last.ensures.looks (looks_then c.in_ok-part.ensures.looks
    (works_more (works_then (works_then c.in_ok-added.ensures.works c.in_ok-end_at.ensures.works) c.link_behind.ensures.works) (omega arith)))
