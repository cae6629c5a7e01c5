-- A maximum is set, and the queue served.
use Rattle.std.proofs.Common.{arith, refl, rules, Err}
use Rattle.std.proofs.lemmas.Result.{err_from_is_err_and}
use Rattle.step_things.specs.Answering.{ComesInEach}
use Rattle.sdr_base.proofs.WorksLemmas.{works_more, works_ok, works_stopped, works_then}
use Rattle.sdr_base.specs.Objects.{OnlyUnmoved}
use Rattle.sdr_model.specs.declared.answer.Reply.TheVariants as replies
use Rattle.sdr_model.specs.declared.call.Call.TheVariants as calls
use Rattle.zco_acct.specs.Changes.{MaximumStops}
use Rattle.step_zco.proofs.AccountCalls.{maxed, maxed_grants, maxed_keeps, maxed_queue, maxed_stands, maximum_aim, maximum_answered_by, maximum_refused}
use Rattle.step_things.proofs.CallLemmas.{comes_answered, comes_stopped}
use Rattle.step_zco.proofs.ComingLemmas.{log_full, tickets_kept}
use Rattle.step_zco.proofs.accounts.set_maximum.Goals as goal

pub returns-in_err-set_maximum-clause-comes : goal.returns-in_err-set_maximum-clause-comes
returns-in_err-set_maximum-clause-comes g c =
    let old = g.O.HasHeap.heap c.args.o.now in
    let new = g.O.HasHeap.heap c.set_maximum.new.o in
    let page = c.args.page.now in
    let call = calls.SetMaximum c.args.acct c.args.space c.args.value in
    let fact : ComesInEach call old new page page (Err c.in_err-set_maximum.field-0.0) =
    comes_stopped call old new page c.in_err-set_maximum.field-0.0 (MaximumStops c.args.space c.args.value old new)
    c.in_err-set_maximum.ensures.refused
    (λ w refusal stands served m. maximum_refused old new w c.args.acct c.args.space c.args.value page refusal c.requires.unmoved m) in
    search rules

pub serve-requires-clause-queue : goal.serve-requires-clause-queue
serve-requires-clause-queue g c =
    maxed_queue (g.O.HasHeap.heap c.args.o.now) (g.O.HasHeap.heap c.set_maximum.new.o) c.args.acct c.args.space c.args.value
    c.requires.queue c.in_ok-set_maximum.ensures.set

pub returns-in_err-serve-clause-comes : goal.returns-in_err-serve-clause-comes
returns-in_err-serve-clause-comes g c =
    let old = g.O.HasHeap.heap c.args.o.now in
    let mid = g.O.HasHeap.heap c.set_maximum.new.o in
    let new = g.O.HasHeap.heap c.serve.new.o in
    let page = c.args.page.now in
    let call = calls.SetMaximum c.args.acct c.args.space c.args.value in
    let small = c.in_ok-set_maximum.ensures.set.small in
    let fact : ComesInEach call old new page page (Err c.in_err-serve.field-0.0) =
    comes_stopped call old new page c.in_err-serve.field-0.0 (OnlyUnmoved mid new) c.in_err-serve.ensures.refused
    (λ w refusal stands served m.
    log_full w call old mid new page refusal refl (maximum_aim w c.args.acct c.args.space c.args.value small) m) in
    search rules

pub returns-in_err-serve-clause-works : goal.returns-in_err-serve-clause-works
returns-in_err-serve-clause-works g c =
    let p = err_from_is_err_and c.from_residual-in_err-serve.result c.from_residual-in_err-serve.ensures.1 in
    let set = c.in_ok-set_maximum.ensures.set in
    λ w stands served.
    let many = maxed_grants w c.args.acct c.args.space c.args.value in
    rw (p.1, p.2)
    (works_stopped _ (works_more (works_then c.in_ok-set_maximum.ensures.works
    (c.in_err-serve.ensures.works (maxed w c.args.acct c.args.space c.args.value) (maxed_stands stands set)
    (maxed_keeps w c.args.acct c.args.space c.args.value set.small (tickets_kept served)))) (omega (arith, many))))

pub returns-clause-comes : goal.returns-clause-comes
returns-clause-comes g c =
    let old = g.O.HasHeap.heap c.args.o.now in
    let mid = g.O.HasHeap.heap c.set_maximum.new.o in
    let new = g.O.HasHeap.heap c.serve.new.o in
    comes_answered (calls.SetMaximum c.args.acct c.args.space c.args.value) old new c.args.page.now c.clear.new.self replies.Done
    c.clear.ensures
    (λ w stands served. maximum_answered_by old mid new w c.args.acct c.args.space c.args.value c.requires.unmoved stands served
    c.in_ok-set_maximum.ensures.set c.in_ok-serve.ensures.served)

pub returns-clause-works : goal.returns-clause-works
returns-clause-works g c =
    let set = c.in_ok-set_maximum.ensures.set in
    λ w stands served.
    let many = maxed_grants w c.args.acct c.args.space c.args.value in
    works_ok (works_more (works_then c.in_ok-set_maximum.ensures.works
    (c.in_ok-serve.ensures.works (maxed w c.args.acct c.args.space c.args.value) (maxed_stands stands set)
    (maxed_keeps w c.args.acct c.args.space c.args.value set.small (tickets_kept served)))) (omega (arith, many)))
