-- The object and the range are tested, and then the clone is made.
use Rattle.std.proofs.Common.{arith}
use Rattle.std.proofs.lemmas.Result.{err_from_is_err_and}
use Rattle.sdr_base.proofs.WorksLemmas.{looks_then}
use Rattle.zco_obj.proofs.KeptLemmas.{object_reaches}
use Rattle.zco_part.proofs.AskedLemmas.{has_range, kept_object, lacks_range, missed}
use Rattle.zco_part.proofs.cloning.clone_part.Goals as goal

pub returns-in_err-expect_kind-clause-refused : goal.returns-in_err-expect_kind-clause-refused
returns-in_err-expect_kind-clause-refused g c =
    let p = err_from_is_err_and c.from_residual.result c.from_residual.ensures.1 in
    rw (p.1, p.2)
    (missed c.args.object c.args.ticket c.args.offset c.args.bytes (g.O.HasHeap.heap c.args.o.now) (g.O.HasHeap.heap c.expect_kind.new.o) _
    c.in_err-expect_kind.ensures.refused c.expect_kind.ensures.looks.same)

pub word-requires-clause-inside : goal.word-requires-clause-inside
word-requires-clause-inside g c =
    rw c.expect_kind.ensures.looks.same
    (object_reaches (kept_object (c.requires.object c.in_ok-expect_kind.ensures.found).keeps) 72 (omega arith))

pub returns-in_err-check_range-clause-refused : goal.returns-in_err-check_range-clause-refused
returns-in_err-check_range-clause-refused g c =
    let p = err_from_is_err_and c.from_residual-in_err-check_range.result c.from_residual-in_err-check_range.ensures.1 in
    let w = rw c.expect_kind.ensures.looks.same at c.in_ok-have.ensures.given in
    rw (p.1, p.2)
    (lacks_range c.args.object c.args.offset c.args.bytes c.in_ok-have.have (g.O.HasHeap.heap c.args.o.now) c.in_ok-expect_kind.ensures.found w c.args.ticket (g.O.HasHeap.heap c.word.new.o) _
    c.in_err-check_range.ensures.refused (rw c.word.ensures.looks.same c.expect_kind.ensures.looks.same))

pub make_clone-requires-clause-object : goal.make_clone-requires-clause-object
make_clone-requires-clause-object g c =
    rw (c.word.ensures.looks.same, c.expect_kind.ensures.looks.same) (c.requires.object c.in_ok-expect_kind.ensures.found)

pub make_clone-requires-clause-has : goal.make_clone-requires-clause-has
make_clone-requires-clause-has g c =
    let w = rw c.expect_kind.ensures.looks.same at c.in_ok-have.ensures.given in
    rw (c.word.ensures.looks.same, c.expect_kind.ensures.looks.same)
    (has_range c.args.object c.args.offset c.args.bytes c.in_ok-have.have (g.O.HasHeap.heap c.args.o.now) c.in_ok-expect_kind.ensures.found w c.in_ok-check_range.ensures.some c.in_ok-check_range.ensures.within)

pub returns-clause-works : goal.returns-clause-works
returns-clause-works g c =
    λ row tickets sources k.
    looks_then c.in_ok-expect_kind.ensures.looks (looks_then c.in_ok-have.ensures.looks
    (c.make_clone.ensures.works row tickets sources (rw (c.word.ensures.looks.same, c.expect_kind.ensures.looks.same) k)))
