-- An object, bonded or refused.
use Rattle.std.proofs.Common.{rules, Err}
use Rattle.std.proofs.lemmas.Result.{err_from_is_err_and}
use Rattle.step_things.proofs.CallLemmas.{comes_answered, comes_stopped}
use Rattle.step_things.proofs.ListLemmas.{IsSmall}
use Rattle.step_things.specs.Answering.{ComesInEach}
use Rattle.sdr_base.proofs.WorksLemmas.{works_ok, works_stopped}
use Rattle.sdr_model.specs.declared.answer.Reply.TheVariants as replies
use Rattle.sdr_model.specs.declared.call.Call.TheVariants as calls
use Rattle.zco_bond.specs.Bonding.{BondStops}
use Rattle.step_zco_parts.proofs.BondCalls.{bond_answered, bond_refused}
use Rattle.step_zco_parts.proofs.LinesLemmas.{bond_works, kept_to_bond}
use Rattle.step_zco_parts.proofs.bonding.bond.Goals as goal

pub bond-requires-clause-object : goal.bond-requires-clause-object
bond-requires-clause-object g c =
    kept_to_bond (g.O.HasHeap.heap c.args.o.now) c.args.object (g.met.O.Objects.few c.args.o.now c.requires.kept) c.requires.room
    c.requires.object

pub returns-in_err-bond-clause-comes : goal.returns-in_err-bond-clause-comes
returns-in_err-bond-clause-comes g c =
    let old = g.O.HasHeap.heap c.args.o.now in
    let new = g.O.HasHeap.heap c.bond.new.o in
    let page = c.args.page.now in
    let call = calls.Bond c.args.object c.args.ticket in
    let small : IsSmall old = record {
      few = g.met.O.Objects.few c.args.o.now c.requires.kept;
      small = g.met.O.Objects.small c.args.o.now c.requires.kept;
    } in
    let fact : ComesInEach call old new page page (Err c.in_err-bond.field-0.0) =
    comes_stopped call old new page c.in_err-bond.field-0.0 (BondStops c.args.object c.args.ticket old new)
    c.in_err-bond.ensures.refused
    (λ w refusal stands served m.
    bond_refused old new w c.requires.unmoved stands served small c.args.object c.args.ticket page refusal m) in
    search rules

pub returns-clause-comes : goal.returns-clause-comes
returns-clause-comes g c =
    let old = g.O.HasHeap.heap c.args.o.now in
    let new = g.O.HasHeap.heap c.bond.new.o in
    let call = calls.Bond c.args.object c.args.ticket in
    let small : IsSmall old = record {
      few = g.met.O.Objects.few c.args.o.now c.requires.kept;
      small = g.met.O.Objects.small c.args.o.now c.requires.kept;
    } in
    comes_answered call old new c.args.page.now c.clear.new.self replies.Done c.clear.ensures
    (λ w stands served.
    bond_answered old new w c.requires.unmoved stands served small c.args.object c.args.ticket c.in_ok-bond.ensures.bonded)

pub returns-in_err-bond-clause-works : goal.returns-in_err-bond-clause-works
returns-in_err-bond-clause-works g c =
    let p = err_from_is_err_and c.from_residual.result c.from_residual.ensures.1 in
    let old = g.O.HasHeap.heap c.args.o.now in
    let small : IsSmall old = record {
      few = g.met.O.Objects.few c.args.o.now c.requires.kept;
      small = g.met.O.Objects.small c.args.o.now c.requires.kept;
    } in
    λ w stands served.
    rw (p.1, p.2)
    (works_stopped _
    (bond_works {r = Err c.in_err-bond.field-0.0} old w c.args.object stands served small c.in_err-bond.ensures.works
    c.in_err-bond.ensures.missed))

pub returns-clause-works : goal.returns-clause-works
returns-clause-works g c =
    let old = g.O.HasHeap.heap c.args.o.now in
    let small : IsSmall old = record {
      few = g.met.O.Objects.few c.args.o.now c.requires.kept;
      small = g.met.O.Objects.small c.args.o.now c.requires.kept;
    } in
    λ w stands served.
    works_ok
    (bond_works old w c.args.object stands served small c.in_ok-bond.ensures.works c.in_ok-bond.ensures.missed)
