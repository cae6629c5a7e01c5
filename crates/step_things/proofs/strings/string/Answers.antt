use Rattle.std.proofs.Common.{rules, Err}
use Rattle.step_things.proofs.CallLemmas.{comes_answered, comes_stopped}
use Rattle.step_things.proofs.StringLemmas.{string_answered, string_refused}
use Rattle.step_things.specs.Answering.{ComesInEach}
use Rattle.sdr_string.specs.Calls.{StringStops}
use Rattle.sdr_model.specs.declared.answer.Reply.TheVariants as replies
use Rattle.sdr_model.specs.declared.call.Call.TheVariants as calls
use Rattle.step_things.proofs.strings.string.Goals as goal

pub returns-in_err-addr-clause-comes : goal.returns-in_err-addr-clause-comes
returns-in_err-addr-clause-comes g c =
    let old = g.O.HasHeap.heap c.args.o.now in
    let new = g.O.HasHeap.heap c.create.new.o in
    let page = c.args.page.now in
    let fact : ComesInEach (calls.String c.args.text.now) old new page page (Err c.in_err-addr.field-0.0) =
    comes_stopped (calls.String c.args.text.now) old new page c.in_err-addr.field-0.0 (StringStops c.args.text.now old new)
    c.in_err-addr.ensures.refused
    (λ w refusal stands served m. string_refused c.args.text.now old new w page refusal c.requires.unmoved m) in
    search rules

pub returns-clause-comes : goal.returns-clause-comes
returns-clause-comes g c =
    let old = g.O.HasHeap.heap c.args.o.now in
    let new = g.O.HasHeap.heap c.create.new.o in
    comes_answered (calls.String c.args.text.now) old new c.args.page.now c.clear.new.self (replies.At c.in_ok-addr.addr)
    c.clear.ensures
    (λ w stands served. string_answered c.args.text.now c.in_ok-addr.addr old new w c.requires.unmoved
    c.in_ok-addr.ensures.made stands served)
