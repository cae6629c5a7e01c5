-- The part's words are read, and its length is set where it reached the end.
use Rattle.std.proofs.Common.{arith, ◌∙◌}
use Rattle.std.specs.Prelude.{Result, Ok, Err, OnOk}
use Rattle.std.proofs.lemmas.Result.{on_ok_weaker}
use Rattle.sdr_base.proofs.WorksLemmas.{looks_looks, looks_then, looks_works, works_more}
use Rattle.zco_obj.proofs.ExtentLemmas.{part_fits, part_grows, part_stays}
use Rattle.zco_obj.proofs.KeptLemmas.{object_reaches}
use Rattle.zco_obj.proofs.PartsLemmas.{extents_from}
use Rattle.zco_obj.proofs.extent.grow.Goals as goal

-- what holds in any case holds on success
always_ok : {T E P : Type 0} (r : Result T E) → P → OnOk r P
always_ok (Ok v) p = p
always_ok (Err e) p = tt

pub word-requires-clause-inside : goal.word-requires-clause-inside
word-requires-clause-inside g c = object_reaches c.requires.object.keeps 16 (omega arith)

pub word-requires-2-clause-inside : goal.word-requires-2-clause-inside
word-requires-2-clause-inside g c = rw c.word.ensures.looks.same (object_reaches c.requires.object.keeps 64 (omega arith))

pub word-requires-3-clause-inside : goal.word-requires-3-clause-inside
word-requires-3-clause-inside g c =
    rw (c.word-2.ensures.looks.same, c.word.ensures.looks.same) (object_reaches c.requires.object.keeps 72 (omega arith))

pub extents_length-requires-clause-chain : goal.extents_length-requires-clause-chain
extents_length-requires-clause-chain g c =
    rw (c.word-3.ensures.looks.same, c.word-2.ensures.looks.same, c.word.ensures.looks.same)
    (record { rows = _; is = extents_from c.requires.object.keeps c.in_ok-first.ensures.given })

pub set_word-requires-clause-inside : goal.set_word-requires-clause-inside
set_word-requires-clause-inside g c =
    rw (c.extents_length.ensures.looks.same, c.word-3.ensures.looks.same, c.word-2.ensures.looks.same, c.word.ensures.looks.same)
    (object_reaches c.requires.object.keeps 72 (omega arith))

pub overflow_add-reached : goal.overflow_add-reached
overflow_add-reached g c =
    let o = rw c.word.ensures.looks.same at c.in_ok-offset.ensures.given in
    let p = rw (c.word-2.ensures.looks.same, c.word.ensures.looks.same) at c.in_ok-part.ensures.given in
    let f = part_fits c.in_ok-offset.offset c.in_ok-part.part c.args.bytes c.requires.object o p c.requires.short in omega (arith, f)

pub overflow_add-part : goal.overflow_add-part
overflow_add-part g c =
    let o = rw c.word.ensures.looks.same at c.in_ok-offset.ensures.given in
    let p = rw (c.word-2.ensures.looks.same, c.word.ensures.looks.same) at c.in_ok-part.ensures.given in
    let f = part_fits c.in_ok-offset.offset c.in_ok-part.part c.args.bytes c.requires.object o p c.requires.short in omega (arith, f)

pub returns-then-reached-end-clause-grown : goal.returns-then-reached-end-clause-grown
returns-then-reached-end-clause-grown g c =
    let o = rw c.word.ensures.looks.same at c.in_ok-offset.ensures.given in
    let p = rw (c.word-2.ensures.looks.same, c.word.ensures.looks.same) at c.in_ok-part.ensures.given in
    let t = rw (c.word-3.ensures.looks.same, c.word-2.ensures.looks.same, c.word.ensures.looks.same) at c.in_ok-end.ensures.told in
    on_ok_weaker _
    (λ w. part_grows c.in_ok-offset.offset c.in_ok-part.part c.in_ok-end.end c.args.bytes (g.O.HasHeap.heap c.args.o.now)
    (g.O.HasHeap.heap c.set_word.new.o) c.in_ok-first.ensures.given o p t c.if-reached-end.true
    (rw (c.extents_length.ensures.looks.same, c.word-3.ensures.looks.same, c.word-2.ensures.looks.same, c.word.ensures.looks.same) at w))
    c.set_word.ensures.written

pub returns-then-reached-end-clause-works : goal.returns-then-reached-end-clause-works
returns-then-reached-end-clause-works g c =
    looks_then (looks_looks (looks_looks (looks_looks c.in_ok-first.ensures.looks c.in_ok-offset.ensures.looks)
    c.in_ok-part.ensures.looks) c.in_ok-end.ensures.looks) c.set_word.ensures.works

pub returns-else-reached-end-clause-grown : goal.returns-else-reached-end-clause-grown
returns-else-reached-end-clause-grown g c =
    let o = rw c.word.ensures.looks.same at c.in_ok-offset.ensures.given in
    let p = rw (c.word-2.ensures.looks.same, c.word.ensures.looks.same) at c.in_ok-part.ensures.given in
    let t = rw (c.word-3.ensures.looks.same, c.word-2.ensures.looks.same, c.word.ensures.looks.same) at c.in_ok-end.ensures.told in
    let same = c.check_failed.ensures.looks.same ∙ c.extents_length.ensures.looks.same ∙ c.word-3.ensures.looks.same
    ∙ c.word-2.ensures.looks.same ∙ c.word.ensures.looks.same in
    always_ok _ (part_stays c.in_ok-offset.offset c.in_ok-part.part c.in_ok-end.end c.args.bytes (g.O.HasHeap.heap c.args.o.now)
    (g.O.HasHeap.heap c.check_failed.new.o) c.in_ok-first.ensures.given o p t c.if-reached-end.false same)

pub returns-else-reached-end-clause-works : goal.returns-else-reached-end-clause-works
returns-else-reached-end-clause-works g c =
    works_more (looks_works (looks_looks (looks_looks (looks_looks (looks_looks c.in_ok-first.ensures.looks c.in_ok-offset.ensures.looks)
    c.in_ok-part.ensures.looks) c.in_ok-end.ensures.looks) c.check_failed.ensures.looks)) (omega arith)
