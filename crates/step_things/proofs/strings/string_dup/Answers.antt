use Rattle.std.proofs.Common.{rules, Err}
use Rattle.step_things.proofs.CallLemmas.{comes_answered, comes_stopped}
use Rattle.step_things.proofs.StringLemmas.{string_dup_answered, string_dup_refused}
use Rattle.step_things.specs.Answering.{ComesInEach}
use Rattle.sdr_string.specs.Calls.{DupStops}
use Rattle.sdr_model.specs.declared.answer.Reply.TheVariants as replies
use Rattle.sdr_model.specs.declared.call.Call.TheVariants as calls
use Rattle.step_things.proofs.strings.string_dup.Goals as goal

pub returns-in_err-copy-clause-comes : goal.returns-in_err-copy-clause-comes
returns-in_err-copy-clause-comes g c =
    let old = g.O.HasHeap.heap c.args.o.now in
    let new = g.O.HasHeap.heap c.dup.new.o in
    let page = c.args.page.now in
    let fact : ComesInEach (calls.StringDup c.args.addr) old new page page (Err c.in_err-copy.field-0.0) =
    comes_stopped (calls.StringDup c.args.addr) old new page c.in_err-copy.field-0.0
    (DupStops (old.blocks c.args.addr) c.args.addr old new) c.in_err-copy.ensures.refused
    (λ w refusal stands served m. string_dup_refused c.args.addr old new w page refusal c.requires.unmoved stands served m) in
    search rules

pub returns-clause-comes : goal.returns-clause-comes
returns-clause-comes g c =
    let old = g.O.HasHeap.heap c.args.o.now in
    let new = g.O.HasHeap.heap c.dup.new.o in
    comes_answered (calls.StringDup c.args.addr) old new c.args.page.now c.clear.new.self (replies.At c.in_ok-copy.copy)
    c.clear.ensures
    (λ w stands served. string_dup_answered c.args.addr c.in_ok-copy.copy old new w c.requires.unmoved
    c.in_ok-copy.ensures.made stands served)
