-- An object, destroyed or refused.
use Rattle.std.proofs.Common.{rules, Err, arith}
use Rattle.std.proofs.lemmas.Result.{err_from_is_err_and}
use Rattle.step_things.specs.Answering.{ComesInEach}
use Rattle.step_things.proofs.ListLemmas.{IsSmall}
use Rattle.step_things.proofs.CallLemmas.{comes_answered, comes_stopped}
use Rattle.sdr_stands.specs.Rows.{object_row}
use Rattle.sdr_base.proofs.WorksLemmas.{looks_then, looks_works, works_more, works_ok, works_stopped, works_then}
use Rattle.sdr_base.specs.Objects.{Misses, OnlyUnmoved}
use Rattle.sdr_base.specs.declared.kind.Kind.TheVariants as kinds
use Rattle.sdr_model.specs.declared.answer.Reply.TheVariants as replies
use Rattle.sdr_model.specs.declared.call.Call.TheVariants as calls
use Rattle.step_zco.proofs.DestroyCalls.{destroyed, gone, keeps, lines_enough, lost, lost_keeps, lost_stands, misnamed, object, rows, undestroyed, unserved}
use Rattle.step_zco.proofs.DestroyLeft.{alone, queue_left, sources_kept, with_sources}
use Rattle.step_zco.proofs.ObjectLemmas.{object_is_at}
use Rattle.zco_obj.specs.Destroying.{DestroyStops}
use Rattle.step_zco.proofs.destroying.destroy.Goals as goal

pub returns-in_err-expect_kind-clause-comes : goal.returns-in_err-expect_kind-clause-comes
returns-in_err-expect_kind-clause-comes g c =
    let old = g.O.HasHeap.heap c.args.o.now in
    let new = g.O.HasHeap.heap c.expect_kind.new.o in
    let page = c.args.page.now in
    let call = calls.Destroy c.args.object in
    let small : IsSmall old = record {
      few = g.met.O.Objects.few c.args.o.now c.requires.kept;
      small = g.met.O.Objects.small c.args.o.now c.requires.kept;
    } in
    let fact : ComesInEach call old new page page (Err c.in_err-expect_kind.field-0.0) =
    comes_stopped call old new page c.in_err-expect_kind.field-0.0 (Misses (old.blocks c.args.object) c.args.object kinds.Object)
    c.in_err-expect_kind.ensures.refused
    (λ w refusal stands served m.
    misnamed old w c.requires.unmoved stands served small c.args.object new page refusal m c.expect_kind.ensures.looks.same) in
    search rules

pub account-requires-clause-object : goal.account-requires-clause-object
account-requires-clause-object g c =
    rw c.expect_kind.ensures.looks.same (alone (c.requires.object c.in_ok-expect_kind.ensures.found))

pub destroy-requires-clause-object : goal.destroy-requires-clause-object
destroy-requires-clause-object g c =
    rw (c.account.ensures.looks.same, c.expect_kind.ensures.looks.same)
    (with_sources c.requires.object (g.met.O.Objects.few c.args.o.now c.requires.kept) c.requires.room)

pub returns-in_err-destroy-clause-comes : goal.returns-in_err-destroy-clause-comes
returns-in_err-destroy-clause-comes g c =
    let old = g.O.HasHeap.heap c.args.o.now in
    let new = g.O.HasHeap.heap c.destroy.new.o in
    let page = c.args.page.now in
    let call = calls.Destroy c.args.object in
    let small : IsSmall old = record {
      few = g.met.O.Objects.few c.args.o.now c.requires.kept;
      small = g.met.O.Objects.small c.args.o.now c.requires.kept;
    } in
    let stops = rw (c.account.ensures.looks.same, c.expect_kind.ensures.looks.same) at c.in_err-destroy.ensures.refused in
    let fact : ComesInEach call old new page page (Err c.in_err-destroy.field-0.0) =
    comes_stopped call old new page c.in_err-destroy.field-0.0 (DestroyStops c.args.object old new) stops
    (λ w refusal stands served m. undestroyed old w c.requires.unmoved stands served small c.args.object new page refusal m) in
    search rules

pub serve-requires-clause-kept : goal.serve-requires-clause-kept
serve-requires-clause-kept g c =
    let k = c.requires.object c.in_ok-expect_kind.ensures.found in
    let works = rw (c.account.ensures.looks.same, c.expect_kind.ensures.looks.same) at c.in_ok-destroy.ensures.works in
    (works k.row k.sources (sources_kept k)).kept

pub serve-requires-clause-queue : goal.serve-requires-clause-queue
serve-requires-clause-queue g c =
    queue_left c.requires.object
    (rw (c.account.ensures.looks.same, c.expect_kind.ensures.looks.same) at c.in_ok-destroy.ensures.destroyed)
    (rw c.expect_kind.ensures.looks.same at c.in_ok-acct.ensures.told)

pub returns-in_err-serve-clause-comes : goal.returns-in_err-serve-clause-comes
returns-in_err-serve-clause-comes g c =
    let old = g.O.HasHeap.heap c.args.o.now in
    let mid = g.O.HasHeap.heap c.destroy.new.o in
    let new = g.O.HasHeap.heap c.serve.new.o in
    let page = c.args.page.now in
    let call = calls.Destroy c.args.object in
    let small : IsSmall old = record {
      few = g.met.O.Objects.few c.args.o.now c.requires.kept;
      small = g.met.O.Objects.small c.args.o.now c.requires.kept;
    } in
    let d = rw (c.account.ensures.looks.same, c.expect_kind.ensures.looks.same) at c.in_ok-destroy.ensures.destroyed in
    let fact : ComesInEach call old new page page (Err c.in_err-serve.field-0.0) =
    comes_stopped call old new page c.in_err-serve.field-0.0 (OnlyUnmoved mid new) c.in_err-serve.ensures.refused
    (λ w refusal stands served m. unserved old w c.requires.unmoved stands served small c.args.object d new page refusal m) in
    search rules

pub returns-clause-comes : goal.returns-clause-comes
returns-clause-comes g c =
    let old = g.O.HasHeap.heap c.args.o.now in
    let new = g.O.HasHeap.heap c.serve.new.o in
    let call = calls.Destroy c.args.object in
    let small : IsSmall old = record {
      few = g.met.O.Objects.few c.args.o.now c.requires.kept;
      small = g.met.O.Objects.small c.args.o.now c.requires.kept;
    } in
    let d = rw (c.account.ensures.looks.same, c.expect_kind.ensures.looks.same) at c.in_ok-destroy.ensures.destroyed in
    let told = rw c.expect_kind.ensures.looks.same at c.in_ok-acct.ensures.told in
    comes_answered call old new c.args.page.now c.clear.new.self replies.Done c.clear.ensures
    (λ w stands served.
    destroyed old w c.requires.unmoved stands served small c.args.object d told c.in_ok-serve.ensures.served)

pub returns-clause-works : goal.returns-clause-works
returns-clause-works g c =
    let old = g.O.HasHeap.heap c.args.o.now in
    let small : IsSmall old = record {
      few = g.met.O.Objects.few c.args.o.now c.requires.kept;
      small = g.met.O.Objects.small c.args.o.now c.requires.kept;
    } in
    let d = rw (c.account.ensures.looks.same, c.expect_kind.ensures.looks.same) at c.in_ok-destroy.ensures.destroyed in
    let works = rw (c.account.ensures.looks.same, c.expect_kind.ensures.looks.same) at c.in_ok-destroy.ensures.works in
    let told = rw c.expect_kind.ensures.looks.same at c.in_ok-acct.ensures.told in
    λ w stands served.
    let at = object old w c.requires.unmoved stands served small c.args.object d in
    let left = lost_stands old w c.requires.unmoved stands served small c.args.object at
    (gone old w c.requires.unmoved stands served small c.args.object d) in
    let kept = lost_keeps old w c.requires.unmoved stands served small c.args.object at in
    let mine = keeps old w c.requires.unmoved stands served small c.args.object at in
    let gave = works (object_row at.object) (rows old w c.requires.unmoved stands served small c.args.object at) mine in
    works_ok (works_more
    (looks_then c.in_ok-expect_kind.ensures.looks
    (looks_then c.in_ok-acct.ensures.looks
    (works_then gave
    (c.in_ok-serve.ensures.works (lost old w c.requires.unmoved stands served small c.args.object at) left kept))))
    (lines_enough old w c.requires.unmoved stands served small c.args.object at told))

pub returns-in_err-expect_kind-clause-works : goal.returns-in_err-expect_kind-clause-works
returns-in_err-expect_kind-clause-works g c =
    let p = err_from_is_err_and c.from_residual.result c.from_residual.ensures.1 in
    λ w stands served.
    rw (p.1, p.2) (works_stopped _ (works_more (looks_works c.in_err-expect_kind.ensures.looks) (omega arith)))

pub returns-in_err-acct-clause-works : goal.returns-in_err-acct-clause-works
returns-in_err-acct-clause-works g c =
    let p = err_from_is_err_and c.from_residual-in_err-acct.result c.from_residual-in_err-acct.ensures.1 in
    λ w stands served.
    rw (p.1, p.2)
    (works_stopped _
    (works_more (looks_then c.in_ok-expect_kind.ensures.looks (looks_works c.in_err-acct.ensures.looks)) (omega arith)))

pub returns-in_err-destroy-clause-works : goal.returns-in_err-destroy-clause-works
returns-in_err-destroy-clause-works g c =
    let p = err_from_is_err_and c.from_residual-in_err-destroy.result c.from_residual-in_err-destroy.ensures.1 in
    let old = g.O.HasHeap.heap c.args.o.now in
    let small : IsSmall old = record {
      few = g.met.O.Objects.few c.args.o.now c.requires.kept;
      small = g.met.O.Objects.small c.args.o.now c.requires.kept;
    } in
    let works = rw (c.account.ensures.looks.same, c.expect_kind.ensures.looks.same) at c.in_err-destroy.ensures.works in
    let told = rw c.expect_kind.ensures.looks.same at c.in_ok-acct.ensures.told in
    λ w stands served.
    let at = object_is_at old w c.args.object stands served c.in_ok-expect_kind.ensures.found in
    let mine = keeps old w c.requires.unmoved stands served small c.args.object at in
    let gave = works (object_row at.object) (rows old w c.requires.unmoved stands served small c.args.object at) mine in
    let enough = lines_enough old w c.requires.unmoved stands served small c.args.object at told in
    rw (p.1, p.2)
    (works_stopped _
    (works_more (looks_then c.in_ok-expect_kind.ensures.looks (looks_then c.in_ok-acct.ensures.looks gave)) (omega (arith, enough))))

pub returns-in_err-serve-clause-works : goal.returns-in_err-serve-clause-works
returns-in_err-serve-clause-works g c =
    let p = err_from_is_err_and c.from_residual-in_err-serve.result c.from_residual-in_err-serve.ensures.1 in
    let old = g.O.HasHeap.heap c.args.o.now in
    let small : IsSmall old = record {
      few = g.met.O.Objects.few c.args.o.now c.requires.kept;
      small = g.met.O.Objects.small c.args.o.now c.requires.kept;
    } in
    let d = rw (c.account.ensures.looks.same, c.expect_kind.ensures.looks.same) at c.in_ok-destroy.ensures.destroyed in
    let works = rw (c.account.ensures.looks.same, c.expect_kind.ensures.looks.same) at c.in_ok-destroy.ensures.works in
    let told = rw c.expect_kind.ensures.looks.same at c.in_ok-acct.ensures.told in
    λ w stands served.
    let at = object old w c.requires.unmoved stands served small c.args.object d in
    let left = lost_stands old w c.requires.unmoved stands served small c.args.object at
    (gone old w c.requires.unmoved stands served small c.args.object d) in
    let kept = lost_keeps old w c.requires.unmoved stands served small c.args.object at in
    let mine = keeps old w c.requires.unmoved stands served small c.args.object at in
    let gave = works (object_row at.object) (rows old w c.requires.unmoved stands served small c.args.object at) mine in
    rw (p.1, p.2)
    (works_stopped _ (works_more
    (looks_then c.in_ok-expect_kind.ensures.looks
    (looks_then c.in_ok-acct.ensures.looks
    (works_then gave
    (c.in_err-serve.ensures.works (lost old w c.requires.unmoved stands served small c.args.object at) left kept))))
    (lines_enough old w c.requires.unmoved stands served small c.args.object at told)))
