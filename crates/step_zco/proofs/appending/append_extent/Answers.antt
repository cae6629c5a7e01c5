-- A part of a source or of a raw object, appended or refused.
use Rattle.std.proofs.Common.{rules, Err}
use Rattle.std.proofs.lemmas.Result.{err_from_is_err_and}
use Rattle.step_things.specs.Answering.{ComesInEach}
use Rattle.step_things.proofs.ListLemmas.{IsSmall}
use Rattle.step_things.proofs.CallLemmas.{comes_answered, comes_stopped}
use Rattle.sdr_base.proofs.WorksLemmas.{works_ok, works_stopped}
use Rattle.sdr_model.specs.declared.answer.Reply.TheVariants as replies
use Rattle.sdr_model.specs.declared.call.Call.TheVariants as calls
use Rattle.step_zco.proofs.AppendCalls.{append_works, piece_appended, piece_refused}
use Rattle.zco_obj.specs.AppendStops.{AppendStops}
use Rattle.step_zco.proofs.appending.append_extent.Goals as goal

pub returns-in_err-append_extent-clause-comes : goal.returns-in_err-append_extent-clause-comes
returns-in_err-append_extent-clause-comes g c =
    let old = g.O.HasHeap.heap c.args.o.now in
    let new = g.O.HasHeap.heap c.append_extent.new.o in
    let page = c.args.page.now in
    let call = calls.AppendExtent c.args.object c.args.ticket c.args.named c.args.offset c.args.bytes in
    let small : IsSmall old = record {
      few = g.met.O.Objects.few c.args.o.now c.requires.kept;
      small = g.met.O.Objects.small c.args.o.now c.requires.kept;
    } in
    let fact : ComesInEach call old new page page (Err c.in_err-append_extent.field-0.0) =
    comes_stopped call old new page c.in_err-append_extent.field-0.0
    (AppendStops c.args.object c.args.ticket (record { of = c.args.named; offset = c.args.offset; bytes = c.args.bytes }) old new)
    c.in_err-append_extent.ensures.refused
    (λ w refusal stands served m.
    piece_refused old new w c.requires.unmoved stands served small c.args.object c.args.ticket c.args.named c.args.offset c.args.bytes page
    refusal m) in
    search rules

pub returns-clause-comes : goal.returns-clause-comes
returns-clause-comes g c =
    let old = g.O.HasHeap.heap c.args.o.now in
    let new = g.O.HasHeap.heap c.append_extent.new.o in
    let call = calls.AppendExtent c.args.object c.args.ticket c.args.named c.args.offset c.args.bytes in
    let small : IsSmall old = record {
      few = g.met.O.Objects.few c.args.o.now c.requires.kept;
      small = g.met.O.Objects.small c.args.o.now c.requires.kept;
    } in
    comes_answered call old new c.args.page.now c.clear.new.self replies.Done c.clear.ensures
    (λ w stands served.
    piece_appended old new w c.requires.unmoved stands served small c.args.object c.args.ticket c.args.named c.args.offset c.args.bytes
    c.in_ok-append_extent.ensures.appended)

pub returns-in_err-append_extent-clause-works : goal.returns-in_err-append_extent-clause-works
returns-in_err-append_extent-clause-works g c =
    let p = err_from_is_err_and c.from_residual.result c.from_residual.ensures.1 in
    λ w stands served.
    rw (p.1, p.2)
    (works_stopped _ (append_works {r = Err c.in_err-append_extent.field-0.0} (g.O.HasHeap.heap c.args.o.now) w c.args.named stands served
    c.in_err-append_extent.ensures.works c.in_err-append_extent.ensures.works_source))

pub returns-clause-works : goal.returns-clause-works
returns-clause-works g c =
    λ w stands served.
    works_ok (append_works (g.O.HasHeap.heap c.args.o.now) w c.args.named stands served
    c.in_ok-append_extent.ensures.works c.in_ok-append_extent.ensures.works_source)
