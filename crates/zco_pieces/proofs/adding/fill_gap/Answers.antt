-- A gap is filled by a clone.
use Rattle.std.proofs.Common.{[], arith}
use Rattle.std.proofs.lemmas.Result.{err_from_is_err_and}
use Rattle.sdr_base.proofs.WorksLemmas.{works_more, works_ok, works_stopped}
use Rattle.zco_pieces.proofs.FillLemmas.{gap_moves, moves_cons}
use Rattle.zco_pieces.proofs.adding.fill_gap.Goals as goal

pub returns-in_err-object-clause-works : goal.returns-in_err-object-clause-works
returns-in_err-object-clause-works g c =
    let p = err_from_is_err_and c.from_residual-in_err-object.result c.from_residual-in_err-object.ensures.1 in
    λ row tickets sources k.
    let a = moves_cons c.args.piece.now.offset row c.args.part [] in
    let m = gap_moves c.args.piece.now.offset row c.args.part c.if-part-ne0.false in
    rw (p.1, p.2) (works_stopped _ (works_more (c.in_err-object.ensures.works row tickets sources k.keeps) (omega (arith, a, m))))

pub returns-clause-works : goal.returns-clause-works
returns-clause-works g c =
    λ row tickets sources k.
    let a = moves_cons c.args.piece.now.offset row c.args.part [] in
    let m = gap_moves c.args.piece.now.offset row c.args.part c.if-part-ne0.false in
    works_ok (works_more (c.in_ok-object.ensures.works row tickets sources k.keeps) (omega (arith, a, m)))
