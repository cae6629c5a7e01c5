-- The grant's lines, and those of what is occupied.
use Rattle.std.proofs.lemmas.Result.{err_from_is_err_and}
use Rattle.sdr_base.proofs.WithinLemmas.{within_front, within_ok, within_stopped, within_then}
use Rattle.zco_space.proofs.serving.grant.Goals as goal

pub returns-in_err-put_grant-clause-lines : goal.returns-in_err-put_grant-clause-lines
returns-in_err-put_grant-clause-lines g c =
    let p = err_from_is_err_and c.from_residual.result c.from_residual.ensures.1 in
    rw (p.1, p.2) (within_stopped _ (within_front _ c.in_err-put_grant.ensures.lines))

pub returns-in_err-set_occupied-clause-lines : goal.returns-in_err-set_occupied-clause-lines
returns-in_err-set_occupied-clause-lines g c =
    let p = err_from_is_err_and c.from_residual-in_err-set_occupied.result c.from_residual-in_err-set_occupied.ensures.1 in
    rw (p.1, p.2) (within_stopped _ (within_then c.in_ok-put_grant.ensures.lines c.in_err-set_occupied.ensures.lines))

pub returns-clause-lines : goal.returns-clause-lines
returns-clause-lines g c = within_ok (within_then c.in_ok-put_grant.ensures.lines c.in_ok-set_occupied.ensures.lines)
