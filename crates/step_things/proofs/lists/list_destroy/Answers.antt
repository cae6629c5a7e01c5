use Rattle.std.proofs.Common.{arith, rules, Err}
use Rattle.step_things.proofs.CallLemmas.{comes_answered, comes_stopped}
use Rattle.step_things.proofs.ListChanging.{destroy_refused, destroyed}
use Rattle.step_things.proofs.ListLemmas.{IsSmall, room_for_list}
use Rattle.step_things.specs.Answering.{ComesInEach}
use Rattle.sdr_list.specs.Destroying.{DestroyStops}
use Rattle.sdr_model.specs.declared.answer.Reply.TheVariants as replies
use Rattle.sdr_model.specs.declared.call.Call.TheVariants as calls
use Rattle.step_things.proofs.lists.list_destroy.Goals as goal

pub destroy-requires-clause-spare : goal.destroy-requires-clause-spare
destroy-requires-clause-spare g c =
    let old = g.O.HasHeap.heap c.args.o.now in
    let few = room_for_list old c.args.list (g.met.O.Objects.few c.args.o.now c.requires.kept) c.requires.list in
    omega (arith, few, c.requires.spare)

pub returns-in_err-destroy-clause-comes : goal.returns-in_err-destroy-clause-comes
returns-in_err-destroy-clause-comes g c =
    let old = g.O.HasHeap.heap c.args.o.now in
    let new = g.O.HasHeap.heap c.destroy.new.o in
    let small : IsSmall old = record
    { few = g.met.O.Objects.few c.args.o.now c.requires.kept; small = g.met.O.Objects.small c.args.o.now c.requires.kept } in
    let page = c.args.page.now in
    let fact : ComesInEach (calls.ListDestroy c.args.list) old new page page (Err c.in_err-destroy.field-0.0) =
    comes_stopped (calls.ListDestroy c.args.list) old new page c.in_err-destroy.field-0.0 (DestroyStops c.args.list old new)
    c.in_err-destroy.ensures.refused
    (λ w refusal stands served m. destroy_refused old new w c.requires.unmoved stands served small c.args.list page refusal m)
    in
    search rules

pub returns-clause-comes : goal.returns-clause-comes
returns-clause-comes g c =
    let old = g.O.HasHeap.heap c.args.o.now in
    let new = g.O.HasHeap.heap c.destroy.new.o in
    let small : IsSmall old = record
    { few = g.met.O.Objects.few c.args.o.now c.requires.kept; small = g.met.O.Objects.small c.args.o.now c.requires.kept } in
    comes_answered (calls.ListDestroy c.args.list) old new c.args.page.now c.clear.new.self (replies.Done) c.clear.ensures
    (λ w stands served. destroyed old new w c.requires.unmoved stands served small c.args.list
    c.in_ok-destroy.ensures.destroyed)
