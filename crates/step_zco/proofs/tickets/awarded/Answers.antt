-- A ticket is awarded, or it isn't.
use Rattle.std.proofs.Common.{rules, Err}
use Rattle.step_things.specs.Answering.{ComesInEach}
use Rattle.sdr_model.specs.declared.answer.Reply.TheVariants as replies
use Rattle.sdr_model.specs.declared.call.Call.TheVariants as calls
use Rattle.step_things.proofs.CallLemmas.{comes_answered, comes_stopped}
use Rattle.step_zco.proofs.AwardCalls.{awarded_answered, awarded_refused}
use Rattle.zco_space.specs.Located.{AwardStops}
use Rattle.step_zco.proofs.tickets.awarded.Goals as goal

pub returns-in_err-awarded-clause-comes : goal.returns-in_err-awarded-clause-comes
returns-in_err-awarded-clause-comes g c =
    let old = g.O.HasHeap.heap c.args.o.now in
    let new = g.O.HasHeap.heap c.awarded.new.o in
    let page = c.args.page.now in
    let fact : ComesInEach (calls.Awarded c.args.ticket) old new page page (Err c.in_err-awarded.field-0.0) =
    comes_stopped (calls.Awarded c.args.ticket) old new page c.in_err-awarded.field-0.0 (AwardStops old c.args.ticket)
    c.in_err-awarded.ensures.refused
    (λ w refusal stands served m. awarded_refused old new w c.requires.unmoved stands served c.in_err-awarded.ensures.looks.same
    c.args.ticket page refusal m) in
    search rules

pub returns-clause-comes : goal.returns-clause-comes
returns-clause-comes g c =
    let old = g.O.HasHeap.heap c.args.o.now in
    let new = g.O.HasHeap.heap c.awarded.new.o in
    comes_answered (calls.Awarded c.args.ticket) old new c.args.page.now c.clear.new.self replies.Done c.clear.ensures
    (λ w stands served. awarded_answered old new w c.requires.unmoved stands served c.in_ok-awarded.ensures.looks.same
    c.args.ticket c.in_ok-awarded.ensures.awarded)
