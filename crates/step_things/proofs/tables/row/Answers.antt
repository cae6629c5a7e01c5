use Rattle.std.proofs.Common.{rules, take, Err}
use Rattle.step_things.proofs.CallLemmas.{comes_showing, comes_stopped}
use Rattle.step_things.proofs.TableCalls.{row_answered, row_unread}
use Rattle.step_things.specs.Answering.{ComesInEach}
use Rattle.sdr_table.specs.Rows.{RowStops}
use Rattle.sdr_model.specs.declared.answer.Reply.TheVariants as replies
use Rattle.sdr_model.specs.declared.call.Call.TheVariants as calls
use Rattle.step_things.proofs.tables.row.Goals as goal

pub returns-in_err-count-clause-comes : goal.returns-in_err-count-clause-comes
returns-in_err-count-clause-comes g c =
    let old = g.O.HasHeap.heap c.args.o.now in
    let new = g.O.HasHeap.heap c.row.new.o in
    let page = c.args.page.now in
    let fact : ComesInEach (calls.Row c.args.table c.args.row) old new page page (Err c.in_err-count.field-0.0) =
    comes_stopped (calls.Row c.args.table c.args.row) old new page c.in_err-count.field-0.0
    (RowStops (old.blocks c.args.table) c.args.table c.args.row) c.in_err-count.ensures.refused
    (λ w refusal stands served m. row_unread old new w c.requires.unmoved stands served c.args.table c.args.row page refusal
    c.in_err-count.ensures.looks.same m) in
    search rules

pub returns-clause-comes : goal.returns-clause-comes
returns-clause-comes g c =
    let old = g.O.HasHeap.heap c.args.o.now in
    let new = g.O.HasHeap.heap c.row.new.o in
    comes_showing (calls.Row c.args.table c.args.row) old new c.args.page.now c.show.new.self
    (take c.in_ok-count.count c.row.new.into) (replies.Bytes c.in_ok-count.count) c.show.ensures
    (λ w stands served. row_answered old new w c.requires.unmoved stands served c.args.table c.args.row c.in_ok-count.count
    c.row.new.into c.in_ok-count.ensures.looks.same c.in_ok-count.ensures.given)
