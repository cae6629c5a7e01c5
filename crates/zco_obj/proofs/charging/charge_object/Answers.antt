-- The account is the object's.
use Rattle.std.proofs.lemmas.Result.{IfErr-weaker, on_ok_weaker}
use Rattle.zco_obj.specs.Charging.{ObjectChargeStops}
use Rattle.zco_obj.proofs.ChargeLemmas.{charge_stops, charges_object, some_object, some_queue}
use Rattle.zco_obj.proofs.charging.charge_object.Goals as goal

pub account-requires-clause-object : goal.account-requires-clause-object
account-requires-clause-object g c = some_object c.requires.object

pub charge-requires-clause-queue : goal.charge-requires-clause-queue
charge-requires-clause-queue g c = rw c.account.ensures.looks.same (some_queue c.requires.object c.in_ok-acct.ensures.told)

pub returns-clause-charged : goal.returns-clause-charged
returns-clause-charged g c =
    let old = g.O.HasHeap.heap c.args.o.now in
    on_ok_weaker _
    (λ w. charges_object (λ acct. c.args.amounts.now) {old = old} {new = g.O.HasHeap.heap c.charge.new.o} c.in_ok-acct.ensures.told
    (rw c.account.ensures.looks.same at w)) c.charge.ensures.charged

pub returns-clause-refused : goal.returns-clause-refused
returns-clause-refused g c =
    let old = g.O.HasHeap.heap c.args.o.now in
    let new = g.O.HasHeap.heap c.charge.new.o in
    IfErr-weaker _ _ (ObjectChargeStops c.args.object c.args.ticket (λ acct. c.args.amounts.now) old new)
    (λ stop s. charge_stops c.args.object c.args.ticket _ (λ acct. c.args.amounts.now) old new stop c.in_ok-acct.ensures.told
    (rw c.account.ensures.looks.same at s)) c.charge.ensures.refused
