-- A part of an object, cloned or refused.
use Rattle.std.proofs.Common.{rules, Err}
use Rattle.std.proofs.lemmas.Result.{err_from_is_err_and}
use Rattle.step_things.specs.Answering.{ComesInEach}
use Rattle.step_things.proofs.ListLemmas.{IsSmall}
use Rattle.step_things.proofs.CallLemmas.{comes_answered, comes_stopped}
use Rattle.sdr_base.proofs.WorksLemmas.{works_ok, works_stopped}
use Rattle.sdr_model.specs.declared.answer.Reply.TheVariants as replies
use Rattle.sdr_model.specs.declared.call.Call.TheVariants as calls
use Rattle.zco_part.specs.Cloning.{CloneStops}
use Rattle.step_zco_parts.proofs.CloneCalls.{clone_made, clone_refused, clone_works}
use Rattle.step_zco_parts.proofs.PartKeptLemmas.{room_to_clone}
use Rattle.step_zco_parts.proofs.cloning.clone_part.Goals as goal

pub clone_part-requires-clause-object : goal.clone_part-requires-clause-object
clone_part-requires-clause-object g c =
    room_to_clone c.args.offset c.args.bytes (g.met.O.Objects.few c.args.o.now c.requires.kept) c.requires.object c.requires.room

pub returns-in_err-addr-clause-comes : goal.returns-in_err-addr-clause-comes
returns-in_err-addr-clause-comes g c =
    let old = g.O.HasHeap.heap c.args.o.now in
    let new = g.O.HasHeap.heap c.clone_part.new.o in
    let page = c.args.page.now in
    let call = calls.ClonePart c.args.object c.args.ticket c.args.offset c.args.bytes in
    let small : IsSmall old = record {
      few = g.met.O.Objects.few c.args.o.now c.requires.kept;
      small = g.met.O.Objects.small c.args.o.now c.requires.kept;
    } in
    let fact : ComesInEach call old new page page (Err c.in_err-addr.field-0.0) =
    comes_stopped call old new page c.in_err-addr.field-0.0
    (CloneStops c.args.object c.args.ticket c.args.offset c.args.bytes old new) c.in_err-addr.ensures.refused
    (λ w refusal stands served m.
    clone_refused old new w c.requires.unmoved stands served small c.args.object c.args.ticket c.args.offset c.args.bytes page refusal m) in
    search rules

pub returns-in_err-addr-clause-works : goal.returns-in_err-addr-clause-works
returns-in_err-addr-clause-works g c =
    let p = err_from_is_err_and c.from_residual.result c.from_residual.ensures.1 in
    let old = g.O.HasHeap.heap c.args.o.now in
    let new = g.O.HasHeap.heap c.clone_part.new.o in
    let small : IsSmall old = record {
      few = g.met.O.Objects.few c.args.o.now c.requires.kept;
      small = g.met.O.Objects.small c.args.o.now c.requires.kept;
    } in
    λ w stands served.
    rw (p.1, p.2)
    (works_stopped _
    (clone_works old new w c.requires.unmoved stands served small c.args.object c.args.ticket c.args.offset c.args.bytes
    {r = Err c.in_err-addr.field-0.0} c.in_err-addr.ensures.works c.in_err-addr.ensures.missed))

pub returns-clause-comes : goal.returns-clause-comes
returns-clause-comes g c =
    let old = g.O.HasHeap.heap c.args.o.now in
    let new = g.O.HasHeap.heap c.clone_part.new.o in
    let call = calls.ClonePart c.args.object c.args.ticket c.args.offset c.args.bytes in
    let small : IsSmall old = record {
      few = g.met.O.Objects.few c.args.o.now c.requires.kept;
      small = g.met.O.Objects.small c.args.o.now c.requires.kept;
    } in
    comes_answered call old new c.args.page.now c.clear.new.self (replies.At c.in_ok-addr.addr) c.clear.ensures
    (λ w stands served.
    clone_made old new w c.requires.unmoved stands served small c.args.object c.args.ticket c.args.offset c.args.bytes c.in_ok-addr.addr
    c.in_ok-addr.ensures.cloned)

pub returns-clause-works : goal.returns-clause-works
returns-clause-works g c =
    let old = g.O.HasHeap.heap c.args.o.now in
    let new = g.O.HasHeap.heap c.clone_part.new.o in
    let small : IsSmall old = record {
      few = g.met.O.Objects.few c.args.o.now c.requires.kept;
      small = g.met.O.Objects.small c.args.o.now c.requires.kept;
    } in
    λ w stands served.
    works_ok
    (clone_works old new w c.requires.unmoved stands served small c.args.object c.args.ticket c.args.offset c.args.bytes
    c.in_ok-addr.ensures.works c.in_ok-addr.ensures.missed)
