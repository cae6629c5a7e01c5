-- A source, destroyed or refused.
use Rattle.std.proofs.Common.{rules, Err}
use Rattle.step_things.specs.Answering.{ComesInEach}
use Rattle.step_things.proofs.ListLemmas.{IsSmall}
use Rattle.step_things.proofs.CallLemmas.{comes_answered, comes_stopped}
use Rattle.step_zco.proofs.DroppingCalls.{destroyed, undestroyed}
use Rattle.zco_ref.specs.Dropping.{DestroyStops}
use Rattle.sdr_model.specs.declared.answer.Reply.TheVariants as replies
use Rattle.sdr_model.specs.declared.call.Call.TheVariants as calls
use Rattle.step_zco.proofs.sources.destroy_ref.Goals as goal

pub returns-in_err-destroy_ref-clause-comes : goal.returns-in_err-destroy_ref-clause-comes
returns-in_err-destroy_ref-clause-comes g c =
    let old = g.O.HasHeap.heap c.args.o.now in
    let new = g.O.HasHeap.heap c.destroy_ref.new.o in
    let page = c.args.page.now in
    let small : IsSmall old = record {
      few = g.met.O.Objects.few c.args.o.now c.requires.kept;
      small = g.met.O.Objects.small c.args.o.now c.requires.kept;
    } in
    let fact : ComesInEach (calls.DestroyRef c.args.source) old new page page (Err c.in_err-destroy_ref.field-0.0) =
    comes_stopped (calls.DestroyRef c.args.source) old new page c.in_err-destroy_ref.field-0.0 (DestroyStops c.args.source old new) c.in_err-destroy_ref.ensures.refused
    (λ w refusal stands served m. undestroyed old new w c.requires.unmoved stands served c.args.source page refusal small m) in
    search rules

pub returns-clause-comes : goal.returns-clause-comes
returns-clause-comes g c =
    let old = g.O.HasHeap.heap c.args.o.now in
    let new = g.O.HasHeap.heap c.destroy_ref.new.o in
    let small : IsSmall old = record {
      few = g.met.O.Objects.few c.args.o.now c.requires.kept;
      small = g.met.O.Objects.small c.args.o.now c.requires.kept;
    } in
    comes_answered (calls.DestroyRef c.args.source) old new c.args.page.now c.clear.new.self (replies.Done) c.clear.ensures
    (λ w stands served. destroyed old new w c.requires.unmoved stands served c.args.source small c.in_ok-destroy_ref.ensures.destroyed)
