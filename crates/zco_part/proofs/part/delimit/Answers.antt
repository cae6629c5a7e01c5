-- The object and its extents are read, and the two words of the part are set.
use Rattle.std.proofs.Common.{arith}
use Rattle.std.proofs.lemmas.Result.{IfErr-weaker, err_from_is_err_and, on_ok_weaker}
use Rattle.zco_obj.proofs.KeptLemmas.{object_reaches}
use Rattle.zco_obj.proofs.PartsLemmas.{extents_from}
use Rattle.zco_part.specs.Delimiting.{DelimitStops}
use Rattle.zco_part.proofs.DelimitLemmas.{delimits, half_set, lacks_part, missed, not_set, reaches_still}
use Rattle.zco_part.proofs.part.delimit.Goals as goal

pub returns-in_err-expect_kind-clause-refused : goal.returns-in_err-expect_kind-clause-refused
returns-in_err-expect_kind-clause-refused g c =
    let p = err_from_is_err_and c.from_residual.result c.from_residual.ensures.1 in
    rw (p.1, p.2)
    (missed c.args.object c.args.offset c.args.bytes (g.O.HasHeap.heap c.args.o.now) (g.O.HasHeap.heap c.expect_kind.new.o) _
    c.in_err-expect_kind.ensures.refused c.expect_kind.ensures.looks.same)

pub word-requires-clause-inside : goal.word-requires-clause-inside
word-requires-clause-inside g c =
    rw c.expect_kind.ensures.looks.same (object_reaches (c.requires.object c.in_ok-expect_kind.ensures.found).keeps 16 (omega arith))

pub extents_length-requires-clause-chain : goal.extents_length-requires-clause-chain
extents_length-requires-clause-chain g c =
    rw (c.word.ensures.looks.same, c.expect_kind.ensures.looks.same)
    (record {
      rows = _;
      is = extents_from (c.requires.object c.in_ok-expect_kind.ensures.found).keeps
          (rw c.expect_kind.ensures.looks.same at c.in_ok-first.ensures.given);
    })

pub returns-in_err-check_part-clause-refused : goal.returns-in_err-check_part-clause-refused
returns-in_err-check_part-clause-refused g c =
    let p = err_from_is_err_and c.from_residual-in_err-check_part.result c.from_residual-in_err-check_part.ensures.1 in
    let h = rw c.expect_kind.ensures.looks.same at c.in_ok-first.ensures.given in
    let t = rw (c.word.ensures.looks.same, c.expect_kind.ensures.looks.same) at c.in_ok-have.ensures.told in
    rw (p.1, p.2)
    (lacks_part c.args.object c.args.offset c.args.bytes c.in_ok-have.have (g.O.HasHeap.heap c.args.o.now) c.in_ok-expect_kind.ensures.found h t
    (g.O.HasHeap.heap c.extents_length.new.o) _ c.in_err-check_part.ensures.refused
    (rw (c.extents_length.ensures.looks.same, c.word.ensures.looks.same) c.expect_kind.ensures.looks.same))

pub set_word-requires-clause-inside : goal.set_word-requires-clause-inside
set_word-requires-clause-inside g c =
    rw (c.extents_length.ensures.looks.same, c.word.ensures.looks.same, c.expect_kind.ensures.looks.same)
    (object_reaches (c.requires.object c.in_ok-expect_kind.ensures.found).keeps 64 (omega arith))

pub returns-in_err-set_word-clause-refused : goal.returns-in_err-set_word-clause-refused
returns-in_err-set_word-clause-refused g c =
    let p = err_from_is_err_and c.from_residual-in_err-set_word.result c.from_residual-in_err-set_word.ensures.1 in
    let h = rw c.expect_kind.ensures.looks.same at c.in_ok-first.ensures.given in
    let t = rw (c.word.ensures.looks.same, c.expect_kind.ensures.looks.same) at c.in_ok-have.ensures.told in
    rw (p.1, p.2)
    (not_set c.args.object c.args.offset c.args.bytes c.in_ok-have.have (g.O.HasHeap.heap c.args.o.now) c.in_ok-expect_kind.ensures.found h t c.in_ok-check_part.ensures.within
    (g.O.HasHeap.heap c.set_word.new.o) _
    (rw (c.extents_length.ensures.looks.same, c.word.ensures.looks.same, c.expect_kind.ensures.looks.same)
    at c.in_err-set_word.ensures.refused))

pub set_word-requires-2-clause-inside : goal.set_word-requires-2-clause-inside
set_word-requires-2-clause-inside g c =
    let w = rw (c.extents_length.ensures.looks.same, c.word.ensures.looks.same, c.expect_kind.ensures.looks.same)
    at c.in_ok-set_word.ensures.written in
    reaches_still c.args.offset (c.requires.object c.in_ok-expect_kind.ensures.found) w

pub returns-clause-delimited : goal.returns-clause-delimited
returns-clause-delimited g c =
    let h = rw c.expect_kind.ensures.looks.same at c.in_ok-first.ensures.given in
    let t = rw (c.word.ensures.looks.same, c.expect_kind.ensures.looks.same) at c.in_ok-have.ensures.told in
    let w = rw (c.extents_length.ensures.looks.same, c.word.ensures.looks.same, c.expect_kind.ensures.looks.same)
    at c.in_ok-set_word.ensures.written in
    on_ok_weaker _
    (λ v. delimits c.args.object c.args.offset c.args.bytes c.in_ok-have.have (g.O.HasHeap.heap c.args.o.now) c.in_ok-expect_kind.ensures.found h t c.in_ok-check_part.ensures.within w v)
    c.set_word-2.ensures.written

pub returns-clause-refused : goal.returns-clause-refused
returns-clause-refused g c =
    let h = rw c.expect_kind.ensures.looks.same at c.in_ok-first.ensures.given in
    let t = rw (c.word.ensures.looks.same, c.expect_kind.ensures.looks.same) at c.in_ok-have.ensures.told in
    let w = rw (c.extents_length.ensures.looks.same, c.word.ensures.looks.same, c.expect_kind.ensures.looks.same)
    at c.in_ok-set_word.ensures.written in
    let old = g.O.HasHeap.heap c.args.o.now in
    let new = g.O.HasHeap.heap c.set_word-2.new.o in
    IfErr-weaker _ _ (DelimitStops c.args.object c.args.offset c.args.bytes old new)
    (λ stop u. half_set c.args.object c.args.offset c.args.bytes c.in_ok-have.have (g.O.HasHeap.heap c.args.o.now) c.in_ok-expect_kind.ensures.found h t c.in_ok-check_part.ensures.within w
    new stop u)
    c.set_word-2.ensures.refused
