use Rattle.std.proofs.Common.{rules, Err}
use Rattle.step_things.proofs.CallLemmas.{comes_answered, comes_stopped}
use Rattle.step_things.proofs.ListChanging.{list_made, list_unmade}
use Rattle.step_things.proofs.ListLemmas.{IsSmall}
use Rattle.step_things.specs.Answering.{ComesInEach}
use Rattle.sdr_base.specs.Objects.{OnlyShort}
use Rattle.sdr_model.specs.declared.answer.Reply.TheVariants as replies
use Rattle.sdr_model.specs.declared.call.Call.TheVariants as calls
use Rattle.step_things.proofs.lists.list.Goals as goal

pub returns-in_err-addr-clause-comes : goal.returns-in_err-addr-clause-comes
returns-in_err-addr-clause-comes g c =
    let old = g.O.HasHeap.heap c.args.o.now in
    let new = g.O.HasHeap.heap c.create.new.o in
    let small : IsSmall old = record
    { few = g.met.O.Objects.few c.args.o.now c.requires.kept; small = g.met.O.Objects.small c.args.o.now c.requires.kept } in
    let page = c.args.page.now in
    let fact : ComesInEach (calls.List c.args.user) old new page page (Err c.in_err-addr.field-0.0) =
    comes_stopped (calls.List c.args.user) old new page c.in_err-addr.field-0.0 (OnlyShort 32 old new)
    c.in_err-addr.ensures.refused
    (λ w refusal stands served m. list_unmade old new w c.requires.unmoved stands served small c.args.user page refusal m) in
    search rules

pub returns-clause-comes : goal.returns-clause-comes
returns-clause-comes g c =
    let old = g.O.HasHeap.heap c.args.o.now in
    let new = g.O.HasHeap.heap c.create.new.o in
    let small : IsSmall old = record
    { few = g.met.O.Objects.few c.args.o.now c.requires.kept; small = g.met.O.Objects.small c.args.o.now c.requires.kept } in
    comes_answered (calls.List c.args.user) old new c.args.page.now c.clear.new.self (replies.At c.in_ok-addr.addr)
    c.clear.ensures
    (λ w stands served. list_made old new w c.requires.unmoved stands served small c.args.user c.in_ok-addr.addr
    c.in_ok-addr.ensures.made)
