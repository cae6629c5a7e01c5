-- The queue is served, so it is in the world.
use Rattle.std.proofs.Common.{arith}
use Rattle.std.proofs.lemmas.Result.{err_from_is_err_and}
use Rattle.sdr_base.proofs.WorksLemmas.{works_more, works_ok, works_stopped}
use Rattle.sdr_model.specs.Accounts.{tickets_of}
use Rattle.step_zco.proofs.AccountLemmas.{serve_grants, serves}
use Rattle.step_zco.proofs.QueueLemmas.{queue_kept}
use Rattle.step_zco.proofs.accounts.serve.Goals as goal

pub returns-in_err-serve-clause-works : goal.returns-in_err-serve-clause-works
returns-in_err-serve-clause-works g c =
    let p = err_from_is_err_and c.from_residual.result c.from_residual.ensures.1 in
    λ w stands keeps.
    let few = serve_grants c.args.acct stands keeps in
    rw (p.1, p.2)
    (works_stopped _ (works_more (c.in_err-serve.ensures.works (tickets_of w.accounts c.args.acct)
    (queue_kept c.args.acct stands keeps))
    (omega (arith, few))))

pub returns-clause-served : goal.returns-clause-served
returns-clause-served g c = serves c.requires.queue c.in_ok-serve.ensures.served

pub returns-clause-works : goal.returns-clause-works
returns-clause-works g c =
    λ w stands keeps.
    let few = serve_grants c.args.acct stands keeps in
    works_ok (works_more (c.in_ok-serve.ensures.works (tickets_of w.accounts c.args.acct)
    (queue_kept c.args.acct stands keeps))
    (omega (arith, few)))
