use Rattle.std.proofs.Common.{rules, Err}
use Rattle.step_things.proofs.CallLemmas.{comes_answered, comes_stopped}
use Rattle.step_things.proofs.TableCalls.{table_destroyed, table_undestroyed}
use Rattle.step_things.specs.Answering.{ComesInEach}
use Rattle.sdr_table.specs.Calls.{DestroyStops}
use Rattle.sdr_model.specs.declared.answer.Reply.TheVariants as replies
use Rattle.sdr_model.specs.declared.call.Call.TheVariants as calls
use Rattle.step_things.proofs.tables.table_destroy.Goals as goal

pub returns-in_err-destroy-clause-comes : goal.returns-in_err-destroy-clause-comes
returns-in_err-destroy-clause-comes g c =
    let old = g.O.HasHeap.heap c.args.o.now in
    let new = g.O.HasHeap.heap c.destroy.new.o in
    let page = c.args.page.now in
    let fact : ComesInEach (calls.TableDestroy c.args.table) old new page page (Err c.in_err-destroy.field-0.0) =
    comes_stopped (calls.TableDestroy c.args.table) old new page c.in_err-destroy.field-0.0 (DestroyStops c.args.table old new)
    c.in_err-destroy.ensures.refused
    (λ w refusal stands served m. table_undestroyed old new w c.requires.unmoved stands served c.args.table page refusal m) in
    search rules

pub returns-clause-comes : goal.returns-clause-comes
returns-clause-comes g c =
    let old = g.O.HasHeap.heap c.args.o.now in
    let new = g.O.HasHeap.heap c.destroy.new.o in
    comes_answered (calls.TableDestroy c.args.table) old new c.args.page.now c.clear.new.self (replies.Done) c.clear.ensures
    (λ w stands served. table_destroyed old new w c.requires.unmoved stands served c.args.table
    c.in_ok-destroy.ensures.destroyed)
