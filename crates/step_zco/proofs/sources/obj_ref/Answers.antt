-- A source of a raw object, made or refused.
use Rattle.std.proofs.Common.{rules, Err}
use Rattle.step_things.specs.Answering.{ComesInEach}
use Rattle.step_things.proofs.ListLemmas.{IsSmall}
use Rattle.step_things.proofs.CallLemmas.{comes_answered, comes_stopped}
use Rattle.step_zco.proofs.NamingCalls.{obj_made, obj_unmade}
use Rattle.zco_ref.specs.Naming.{NamingStops}
use Rattle.sdr_model.specs.declared.answer.Reply.TheVariants as replies
use Rattle.sdr_model.specs.declared.call.Call.TheVariants as calls
use Rattle.step_zco.proofs.sources.obj_ref.Goals as goal

pub returns-in_err-addr-clause-comes : goal.returns-in_err-addr-clause-comes
returns-in_err-addr-clause-comes g c =
    let old = g.O.HasHeap.heap c.args.o.now in
    let new = g.O.HasHeap.heap c.obj_ref.new.o in
    let page = c.args.page.now in
    let small : IsSmall old = record {
      few = g.met.O.Objects.few c.args.o.now c.requires.kept;
      small = g.met.O.Objects.small c.args.o.now c.requires.kept;
    } in
    let fact : ComesInEach (calls.ObjRef c.args.raw) old new page page (Err c.in_err-addr.field-0.0) =
    comes_stopped (calls.ObjRef c.args.raw) old new page c.in_err-addr.field-0.0 (NamingStops c.args.raw old new) c.in_err-addr.ensures.refused
    (λ w refusal stands served m. obj_unmade old new w c.requires.unmoved stands served c.args.raw page refusal small m) in
    search rules

pub returns-clause-comes : goal.returns-clause-comes
returns-clause-comes g c =
    let old = g.O.HasHeap.heap c.args.o.now in
    let new = g.O.HasHeap.heap c.obj_ref.new.o in
    let small : IsSmall old = record {
      few = g.met.O.Objects.few c.args.o.now c.requires.kept;
      small = g.met.O.Objects.small c.args.o.now c.requires.kept;
    } in
    comes_answered (calls.ObjRef c.args.raw) old new c.args.page.now c.clear.new.self (replies.At c.in_ok-addr.addr) c.clear.ensures
    (λ w stands served. obj_made old new w c.requires.unmoved stands served c.args.raw c.in_ok-addr.addr c.in_ok-addr.ensures.made)
