use Rattle.std.proofs.Common.{rules, Err}
use Rattle.step_things.proofs.CallLemmas.{comes_answered, comes_stopped}
use Rattle.step_things.proofs.ListLemmas.{IsSmall}
use Rattle.step_things.proofs.ListReading.{list_missed, search_answered}
use Rattle.step_things.specs.Answering.{ComesInEach}
use Rattle.sdr_base.specs.Objects.{Misses}
use Rattle.sdr_base.specs.declared.kind.Kind.TheVariants as kinds
use Rattle.sdr_model.specs.declared.answer.Reply.TheVariants as replies
use Rattle.sdr_model.specs.declared.call.Call.TheVariants as calls
use Rattle.step_things.proofs.lists.search.Goals as goal

pub returns-in_err-addr-clause-comes : goal.returns-in_err-addr-clause-comes
returns-in_err-addr-clause-comes g c =
    let old = g.O.HasHeap.heap c.args.o.now in
    let new = g.O.HasHeap.heap c.search.new.o in
    let small : IsSmall old = record
    { few = g.met.O.Objects.few c.args.o.now c.requires.kept; small = g.met.O.Objects.small c.args.o.now c.requires.kept } in
    let page = c.args.page.now in
    let fact : ComesInEach (calls.Search c.args.list c.args.datum c.args.keys) old new page page (Err c.in_err-addr.field-0.0) =
    comes_stopped (calls.Search c.args.list c.args.datum c.args.keys) old new page c.in_err-addr.field-0.0
    (Misses (old.blocks c.args.list) c.args.list kinds.List) c.in_err-addr.ensures.refused
    (λ w refusal stands served m. list_missed old new w c.requires.unmoved stands served small
    (calls.Search c.args.list c.args.datum c.args.keys) c.args.list _ page refusal c.in_err-addr.ensures.looks.same (λ o h. h)
    m) in
    search rules

pub returns-clause-comes : goal.returns-clause-comes
returns-clause-comes g c =
    let old = g.O.HasHeap.heap c.args.o.now in
    let new = g.O.HasHeap.heap c.search.new.o in
    let small : IsSmall old = record
    { few = g.met.O.Objects.few c.args.o.now c.requires.kept; small = g.met.O.Objects.small c.args.o.now c.requires.kept } in
    comes_answered (calls.Search c.args.list c.args.datum c.args.keys) old new c.args.page.now c.clear.new.self
    (replies.At c.in_ok-addr.addr) c.clear.ensures
    (λ w stands served. search_answered old new w c.requires.unmoved stands served small c.args.list c.args.datum c.args.keys
    c.collation.result.by c.in_ok-addr.addr c.in_ok-addr.ensures.looks.same c.collation.ensures c.in_ok-addr.ensures.found)
