-- The first header, given back or refused.
use Rattle.std.proofs.Common.{rules, Err, arith, refl}
use Rattle.std.proofs.lemmas.Result.{err_from_is_err_and}
use Rattle.std.specs.Prelude.{slice_get}
use Rattle.step_things.specs.Answering.{ComesInEach}
use Rattle.step_things.proofs.ListLemmas.{IsSmall}
use Rattle.step_things.proofs.CallLemmas.{comes_answered, comes_stopped}
use Rattle.sdr_base.proofs.WorksLemmas.{looks_then, works_more, works_ok, works_stopped, works_then}
use Rattle.sdr_base.specs.Objects.{OnlyUnmoved}
use Rattle.sdr_model.specs.ObjectSteps.{without_header}
use Rattle.sdr_model.specs.declared.answer.Reply.TheVariants as replies
use Rattle.sdr_model.specs.declared.call.Call.TheVariants as calls
use Rattle.step_zco.proofs.DiscardCalls.{discard_answered, discard_refused, dropped, lost, lost_grants, lost_keeps, served_stands, unserved}
use Rattle.step_zco.proofs.DropLemmas.{drops_header}
use Rattle.step_zco.proofs.LosingLemmas.{header_fits, object_left, queue_left}
use Rattle.zco_obj.specs.Discards as rows
use Rattle.zco_obj.specs.Discards.{DiscardStops}
use Rattle.step_zco.proofs.capsules.discard_first_header.Goals as goal

pub returns-in_err-discard_first_header-clause-comes : goal.returns-in_err-discard_first_header-clause-comes
returns-in_err-discard_first_header-clause-comes g c =
    let old = g.O.HasHeap.heap c.args.o.now in
    let new = g.O.HasHeap.heap c.discard_first_header.new.o in
    let page = c.args.page.now in
    let call = calls.DiscardFirstHeader c.args.object in
    let small : IsSmall old = record {
      few = g.met.O.Objects.few c.args.o.now c.requires.kept;
      small = g.met.O.Objects.small c.args.o.now c.requires.kept;
    } in
    let fact : ComesInEach call old new page page (Err c.in_err-discard_first_header.field-0.0) =
    comes_stopped call old new page c.in_err-discard_first_header.field-0.0 (DiscardStops rows.first_header c.args.object old new)
    c.in_err-discard_first_header.ensures.refused
    (λ w refusal stands served m.
    discard_refused old w c.requires.unmoved stands served small (λ z. slice_get z.headers 0) without_header rows.first_header rows.without_header drops_header header_fits call refl
    c.args.object (λ o h. h) new page refusal m) in
    search rules

pub account-requires-clause-object : goal.account-requires-clause-object
account-requires-clause-object g c = object_left header_fits c.requires.object c.in_ok-discard_first_header.ensures.discarded

pub serve-requires-clause-queue : goal.serve-requires-clause-queue
serve-requires-clause-queue g c =
    queue_left header_fits c.requires.object c.in_ok-discard_first_header.ensures.discarded c.in_ok-acct.ensures.told c.in_ok-acct.ensures.looks.same

pub returns-in_err-serve-clause-comes : goal.returns-in_err-serve-clause-comes
returns-in_err-serve-clause-comes g c =
    let old = g.O.HasHeap.heap c.args.o.now in
    let mid = g.O.HasHeap.heap c.discard_first_header.new.o in
    let heap = g.O.HasHeap.heap c.account.new.o in
    let new = g.O.HasHeap.heap c.serve.new.o in
    let page = c.args.page.now in
    let call = calls.DiscardFirstHeader c.args.object in
    let small : IsSmall old = record {
      few = g.met.O.Objects.few c.args.o.now c.requires.kept;
      small = g.met.O.Objects.small c.args.o.now c.requires.kept;
    } in
    let fact : ComesInEach call old new page page (Err c.in_err-serve.field-0.0) =
    comes_stopped call old new page c.in_err-serve.field-0.0 (OnlyUnmoved heap new) c.in_err-serve.ensures.refused
    (λ w refusal stands served m.
    let d = dropped old w c.requires.unmoved stands served small (λ z. slice_get z.headers 0) without_header rows.first_header rows.without_header drops_header header_fits call refl
    c.args.object (λ o h. h) mid c.in_ok-discard_first_header.ensures.discarded in
    unserved old w c.requires.unmoved stands served small (λ z. slice_get z.headers 0) without_header rows.first_header rows.without_header drops_header header_fits call refl
    c.args.object (λ o h. h) heap new d page refusal m) in
    search rules

pub returns-clause-comes : goal.returns-clause-comes
returns-clause-comes g c =
    let old = g.O.HasHeap.heap c.args.o.now in
    let mid = g.O.HasHeap.heap c.discard_first_header.new.o in
    let new = g.O.HasHeap.heap c.serve.new.o in
    let call = calls.DiscardFirstHeader c.args.object in
    let small : IsSmall old = record {
      few = g.met.O.Objects.few c.args.o.now c.requires.kept;
      small = g.met.O.Objects.small c.args.o.now c.requires.kept;
    } in
    comes_answered call old new c.args.page.now c.clear.new.self replies.Done c.clear.ensures
    (λ w stands served.
    let d = dropped old w c.requires.unmoved stands served small (λ z. slice_get z.headers 0) without_header rows.first_header rows.without_header drops_header header_fits call refl
    c.args.object (λ o h. h) mid c.in_ok-discard_first_header.ensures.discarded in
    discard_answered old w c.requires.unmoved stands served small (λ z. slice_get z.headers 0) without_header rows.first_header rows.without_header drops_header header_fits call refl
    c.args.object (λ o h. h) d c.in_ok-acct.ensures.looks.same c.in_ok-acct.ensures.told c.in_ok-serve.ensures.served)

pub returns-in_err-serve-clause-works : goal.returns-in_err-serve-clause-works
returns-in_err-serve-clause-works g c =
    let p = err_from_is_err_and c.from_residual-in_err-serve.result c.from_residual-in_err-serve.ensures.1 in
    let old = g.O.HasHeap.heap c.args.o.now in
    let mid = g.O.HasHeap.heap c.discard_first_header.new.o in
    let call = calls.DiscardFirstHeader c.args.object in
    let small : IsSmall old = record {
      few = g.met.O.Objects.few c.args.o.now c.requires.kept;
      small = g.met.O.Objects.small c.args.o.now c.requires.kept;
    } in
    λ w stands served.
    let d = dropped old w c.requires.unmoved stands served small (λ z. slice_get z.headers 0) without_header rows.first_header rows.without_header drops_header header_fits call refl
    c.args.object (λ o h. h) mid c.in_ok-discard_first_header.ensures.discarded in
    let lost_world = lost old w c.requires.unmoved stands served small (λ z. slice_get z.headers 0) without_header rows.first_header rows.without_header drops_header header_fits call refl
    c.args.object (λ o h. h) d.gone.object in
    let there = served_stands old w c.requires.unmoved stands served small (λ z. slice_get z.headers 0) without_header rows.first_header rows.without_header drops_header header_fits call refl
    c.args.object (λ o h. h) d c.in_ok-acct.ensures.looks.same in
    let keeps = lost_keeps old w c.requires.unmoved stands served small (λ z. slice_get z.headers 0) without_header rows.first_header rows.without_header drops_header header_fits call refl
    c.args.object (λ o h. h) d in
    let many = lost_grants old w c.requires.unmoved stands served small (λ z. slice_get z.headers 0) without_header rows.first_header rows.without_header drops_header header_fits call refl
    c.args.object (λ o h. h) d c.in_ok-acct.ensures.told in
    rw (p.1, p.2)
    (works_stopped _ (works_more (works_then c.in_ok-discard_first_header.ensures.works
    (looks_then c.in_ok-acct.ensures.looks (c.in_err-serve.ensures.works lost_world there keeps))) (omega (arith, many))))

pub returns-clause-works : goal.returns-clause-works
returns-clause-works g c =
    let old = g.O.HasHeap.heap c.args.o.now in
    let mid = g.O.HasHeap.heap c.discard_first_header.new.o in
    let call = calls.DiscardFirstHeader c.args.object in
    let small : IsSmall old = record {
      few = g.met.O.Objects.few c.args.o.now c.requires.kept;
      small = g.met.O.Objects.small c.args.o.now c.requires.kept;
    } in
    λ w stands served.
    let d = dropped old w c.requires.unmoved stands served small (λ z. slice_get z.headers 0) without_header rows.first_header rows.without_header drops_header header_fits call refl
    c.args.object (λ o h. h) mid c.in_ok-discard_first_header.ensures.discarded in
    let lost_world = lost old w c.requires.unmoved stands served small (λ z. slice_get z.headers 0) without_header rows.first_header rows.without_header drops_header header_fits call refl
    c.args.object (λ o h. h) d.gone.object in
    let there = served_stands old w c.requires.unmoved stands served small (λ z. slice_get z.headers 0) without_header rows.first_header rows.without_header drops_header header_fits call refl
    c.args.object (λ o h. h) d c.in_ok-acct.ensures.looks.same in
    let keeps = lost_keeps old w c.requires.unmoved stands served small (λ z. slice_get z.headers 0) without_header rows.first_header rows.without_header drops_header header_fits call refl
    c.args.object (λ o h. h) d in
    let many = lost_grants old w c.requires.unmoved stands served small (λ z. slice_get z.headers 0) without_header rows.first_header rows.without_header drops_header header_fits call refl
    c.args.object (λ o h. h) d c.in_ok-acct.ensures.told in
    works_ok (works_more (works_then c.in_ok-discard_first_header.ensures.works
    (looks_then c.in_ok-acct.ensures.looks (c.in_ok-serve.ensures.works lost_world there keeps))) (omega (arith, many)))
