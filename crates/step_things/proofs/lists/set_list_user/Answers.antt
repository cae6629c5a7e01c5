use Rattle.std.proofs.Common.{rules, Err}
use Rattle.step_things.proofs.CallLemmas.{comes_answered, comes_stopped}
use Rattle.step_things.proofs.ListChanging.{user_refused, user_set}
use Rattle.step_things.proofs.ListLemmas.{IsSmall}
use Rattle.step_things.specs.Answering.{ComesInEach}
use Rattle.sdr_list.specs.Calls.{ChangeStops}
use Rattle.sdr_base.specs.declared.kind.Kind.TheVariants as kinds
use Rattle.sdr_model.specs.declared.answer.Reply.TheVariants as replies
use Rattle.sdr_model.specs.declared.call.Call.TheVariants as calls
use Rattle.step_things.proofs.lists.set_list_user.Goals as goal

pub returns-in_err-set_user_data-clause-comes : goal.returns-in_err-set_user_data-clause-comes
returns-in_err-set_user_data-clause-comes g c =
    let old = g.O.HasHeap.heap c.args.o.now in
    let new = g.O.HasHeap.heap c.set_user_data.new.o in
    let small : IsSmall old = record
    { few = g.met.O.Objects.few c.args.o.now c.requires.kept; small = g.met.O.Objects.small c.args.o.now c.requires.kept } in
    let page = c.args.page.now in
    let fact : ComesInEach (calls.SetListUser c.args.list c.args.user) old new page page (Err c.in_err-set_user_data.field-0.0) =
    comes_stopped (calls.SetListUser c.args.list c.args.user) old new page c.in_err-set_user_data.field-0.0
    (ChangeStops kinds.List c.args.list old new) c.in_err-set_user_data.ensures.refused
    (λ w refusal stands served m. user_refused old new w c.requires.unmoved stands served small c.args.list c.args.user page
    refusal m) in
    search rules

pub returns-clause-comes : goal.returns-clause-comes
returns-clause-comes g c =
    let old = g.O.HasHeap.heap c.args.o.now in
    let new = g.O.HasHeap.heap c.set_user_data.new.o in
    let small : IsSmall old = record
    { few = g.met.O.Objects.few c.args.o.now c.requires.kept; small = g.met.O.Objects.small c.args.o.now c.requires.kept } in
    comes_answered (calls.SetListUser c.args.list c.args.user) old new c.args.page.now c.clear.new.self (replies.Done)
    c.clear.ensures
    (λ w stands served. user_set old new w c.requires.unmoved stands served small c.args.list c.args.user
    c.in_ok-set_user_data.ensures.set)
