use Rattle.std.proofs.Common.{rules, length, Err}
use Rattle.step_things.proofs.CallLemmas.{comes_answered, comes_stopped}
use Rattle.step_things.proofs.TableCalls.{row_set, row_unset}
use Rattle.step_things.specs.Answering.{ComesInEach}
use Rattle.sdr_table.specs.Rows.{SetStops}
use Rattle.sdr_model.specs.declared.answer.Reply.TheVariants as replies
use Rattle.sdr_model.specs.declared.call.Call.TheVariants as calls
use Rattle.step_things.proofs.tables.set_row.Goals as goal

pub returns-in_err-set_row-clause-comes : goal.returns-in_err-set_row-clause-comes
returns-in_err-set_row-clause-comes g c =
    let old = g.O.HasHeap.heap c.args.o.now in
    let new = g.O.HasHeap.heap c.set_row.new.o in
    let page = c.args.page.now in
    let fact : ComesInEach (calls.SetRow c.args.table c.args.row c.args.from.now) old new page page (Err c.in_err-set_row.field-0.0) =
    comes_stopped (calls.SetRow c.args.table c.args.row c.args.from.now) old new page c.in_err-set_row.field-0.0
    (SetStops c.args.table c.args.row (length c.args.from.now) old new) c.in_err-set_row.ensures.refused
    (λ w refusal stands served m. row_unset old new w c.requires.unmoved stands served c.args.table c.args.row c.args.from.now
    page refusal m) in
    search rules

pub returns-clause-comes : goal.returns-clause-comes
returns-clause-comes g c =
    let old = g.O.HasHeap.heap c.args.o.now in
    let new = g.O.HasHeap.heap c.set_row.new.o in
    comes_answered (calls.SetRow c.args.table c.args.row c.args.from.now) old new c.args.page.now c.clear.new.self
    (replies.Done) c.clear.ensures
    (λ w stands served. row_set old new w c.requires.unmoved stands served c.args.table c.args.row c.args.from.now
    c.in_ok-set_row.ensures.set)
