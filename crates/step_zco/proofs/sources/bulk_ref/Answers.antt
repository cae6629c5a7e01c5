-- A source of an item, made or refused.
use Rattle.std.proofs.Common.{rules, Err}
use Rattle.step_things.specs.Answering.{ComesInEach}
use Rattle.step_things.proofs.CallLemmas.{comes_answered, comes_stopped}
use Rattle.step_zco.proofs.MakingCalls.{bulk_made, bulk_unmade}
use Rattle.zco_ref.specs.Making.{BulkStops}
use Rattle.sdr_model.specs.declared.answer.Reply.TheVariants as replies
use Rattle.sdr_model.specs.declared.call.Call.TheVariants as calls
use Rattle.step_zco.proofs.sources.bulk_ref.Goals as goal

pub returns-in_err-addr-clause-comes : goal.returns-in_err-addr-clause-comes
returns-in_err-addr-clause-comes g c =
    let old = g.O.HasHeap.heap c.args.o.now in
    let new = g.O.HasHeap.heap c.bulk_ref.new.o in
    let page = c.args.page.now in
    let fact : ComesInEach (calls.BulkRef c.args.item c.args.bytes) old new page page (Err c.in_err-addr.field-0.0) =
    comes_stopped (calls.BulkRef c.args.item c.args.bytes) old new page c.in_err-addr.field-0.0 (BulkStops c.args.bytes old new) c.in_err-addr.ensures.refused
    (λ w refusal stands served m. bulk_unmade old new w c.requires.unmoved stands served c.args.item c.args.bytes page refusal m) in
    search rules

pub returns-clause-comes : goal.returns-clause-comes
returns-clause-comes g c =
    let old = g.O.HasHeap.heap c.args.o.now in
    let new = g.O.HasHeap.heap c.bulk_ref.new.o in
    comes_answered (calls.BulkRef c.args.item c.args.bytes) old new c.args.page.now c.clear.new.self (replies.At c.in_ok-addr.addr) c.clear.ensures
    (λ w stands served. bulk_made old new w c.requires.unmoved stands served c.args.item c.args.bytes c.in_ok-addr.addr c.in_ok-addr.ensures.made)
