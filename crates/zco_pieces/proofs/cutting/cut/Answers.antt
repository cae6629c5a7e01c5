-- The range of a piece is cloned.
use Rattle.std.proofs.Common.{◌*◌, ap, arith, length}
use Rattle.std.proofs.lemmas.Result.{err_from_is_err_and}
use Rattle.sdr_base.proofs.WorksLemmas.{looks_then, works_more, works_ok, works_stopped}
use Rattle.zco_part.specs.Pieces.{asked}
use Rattle.zco_pieces.proofs.CutLemmas.{cut_is, kept_object, to_clone}
use Rattle.zco_pieces.proofs.cutting.cut.Goals as goal

pub clone_part-requires-clause-object : goal.clone_part-requires-clause-object
clone_part-requires-clause-object g c =
    let t = c.in_ok-total.ensures.told in
    λ kind. rw (c.min.ensures, c.source_length.ensures.looks.same) (to_clone (g.O.HasHeap.heap c.args.o.now) c.args.most c.args.k t (c.requires.object t.kind))

pub returns-in_err-clone-clause-works : goal.returns-in_err-clone-clause-works
returns-in_err-clone-clause-works g c =
    let p = err_from_is_err_and c.from_residual-in_err-clone.result c.from_residual-in_err-clone.ensures.1 in
    λ row tickets sources k.
    let e = ap (λ n. length (asked (c.args.k * c.args.most) n row)) (cut_is (g.O.HasHeap.heap c.args.o.now) c.args.most c.args.k c.in_ok-total.ensures.told (kept_object k)) in
    let w = rw c.min.ensures at (c.in_err-clone.ensures.works row tickets sources (rw c.source_length.ensures.looks.same k)) in
    rw (p.1, p.2) (works_stopped _ (works_more (looks_then c.in_ok-total.ensures.looks w) (omega (arith, e))))

pub returns-clause-works : goal.returns-clause-works
returns-clause-works g c =
    λ row tickets sources k.
    let e = ap (λ n. length (asked (c.args.k * c.args.most) n row)) (cut_is (g.O.HasHeap.heap c.args.o.now) c.args.most c.args.k c.in_ok-total.ensures.told (kept_object k)) in
    let w = rw c.min.ensures at (c.in_ok-clone.ensures.works row tickets sources (rw c.source_length.ensures.looks.same k)) in
    works_ok (works_more (looks_then c.in_ok-total.ensures.looks w) (omega (arith, e)))
