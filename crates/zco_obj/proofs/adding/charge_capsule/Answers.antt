-- The checks are made before the charge.
use Rattle.std.proofs.Common.{ap, subst, ◌∙◌}
use Rattle.std.proofs.lemmas.Result.{IfErr-weaker, on_ok_weaker}
use Rattle.zco_obj.specs.Amounts.{heap_amounts}
use Rattle.zco_obj.specs.Capsules.{CapsuleStops, ChargesCapsule}
use Rattle.zco_obj.specs.Charging.{ChargesObject, ObjectChargeStops}
use Rattle.zco_obj.proofs.CapsuleLemmas.{uncharged_stops}
use Rattle.zco_obj.proofs.adding.charge_capsule.Goals as goal

pub returns-clause-charged : goal.returns-clause-charged
returns-clause-charged g c =
    let old = g.O.HasHeap.heap c.args.o.now in
    let new = g.O.HasHeap.heap c.charge_object.new.o in
    let e = c.heap_amounts.ensures ∙ ap heap_amounts c.capsule_bytes.ensures in
    on_ok_weaker {Q = ChargesCapsule c.args.object c.args.ticket c.args.text.now old new} _
    (λ w. record {
      kind = c.in_ok-expect_kind.ensures.found;
      fits = c.in_ok-check_text.ensures.fits;
      charged = subst (λ a. ChargesObject c.args.object c.args.ticket (λ acct. a) old new) e (rw c.expect_kind.ensures.looks.same at w);
    })
    c.charge_object.ensures.charged

pub returns-clause-refused : goal.returns-clause-refused
returns-clause-refused g c =
    let old = g.O.HasHeap.heap c.args.o.now in
    let new = g.O.HasHeap.heap c.charge_object.new.o in
    let kind = c.in_ok-expect_kind.ensures.found in
    let e = c.heap_amounts.ensures ∙ ap heap_amounts c.capsule_bytes.ensures in
    IfErr-weaker _ _ (CapsuleStops c.args.object c.args.ticket c.args.text.now old new)
    (λ stop s. uncharged_stops c.args.object c.args.ticket c.args.text.now old new stop (c.requires.object kind) kind
    c.in_ok-check_text.ensures.fits
    (subst (λ a. ObjectChargeStops c.args.object c.args.ticket (λ acct. a) old new stop) e (rw c.expect_kind.ensures.looks.same at s)))
    c.charge_object.ensures.refused
