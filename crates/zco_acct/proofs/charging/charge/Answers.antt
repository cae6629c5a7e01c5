-- The grant is used, and the rest is occupied.
use Rattle.std.proofs.Common.{◌∙◌, ap, rules, subst}
use Rattle.std.proofs.lemmas.Result.{IfErr-weaker, on_ok_weaker}
use Rattle.sdr_base.specs.Objects.{Heap}
use Rattle.sdr_model.specs.Amounts.{minus, plus}
use Rattle.zco_acct.specs.Charges.{ChargeStops}
use Rattle.zco_acct.specs.Refusals.{Allows, RefusedAs, room_refusal}
use Rattle.zco_acct.specs.Words.{maxima_in, occupied_in}
use Rattle.zco_acct.proofs.ChargeLemmas.{charges, may_charge, some_grant, stops_full, stops_room, used_besides}
use Rattle.zco_acct.proofs.MoveLemmas.{unmoved_since}
use Rattle.zco_acct.proofs.charging.charge.Goals as goal

pub use_grant-requires-clause-there : goal.use_grant-requires-clause-there
use_grant-requires-clause-there g c =
    rw (c.occupied_with.ensures.looks.same, c.grant_of.ensures.looks.same)
    (some_grant _ c.requires.queue c.in_ok-grant.ensures.granted)

pub returns-clause-charged : goal.returns-clause-charged
returns-clause-charged g c =
    let old = g.O.HasHeap.heap c.args.o.now in
    let grant = c.in_ok-grant.grant in
    let unc = c.minus-uncovered.ensures ∙ ap (minus c.args.amounts.now) c.left_of.ensures in
    let sum = rw c.grant_of.ensures.looks.same at c.in_ok-after.ensures.sum in
    let free = rw c.grant_of.ensures.looks.same at c.in_ok-after.ensures.free in
    let uses = rw (c.occupied_with.ensures.looks.same, c.grant_of.ensures.looks.same) at c.in_ok-use_grant.ensures.used in
    on_ok_weaker _
    (λ w. charges old (g.O.HasHeap.heap c.use_grant.new.o) (g.O.HasHeap.heap c.set_occupied.new.o) grant
    c.in_ok-grant.ensures.granted
    (sum ∙ ap (plus (occupied_in old c.args.acct)) unc)
    (subst (λ a. Allows old c.args.acct (λ tickets. room_refusal tickets a (occupied_in old c.args.acct) (maxima_in old c.args.acct))) unc free)
    uses w) c.set_occupied.ensures.set

pub returns-in_err-after-clause-refused : goal.returns-in_err-after-clause-refused
returns-in_err-after-clause-refused g c =
    let old = g.O.HasHeap.heap c.args.o.now in
    let new = g.O.HasHeap.heap c.occupied_with.new.o in
    let acct = c.args.acct in
    let grant = c.in_ok-grant.grant in
    let unc = c.minus-uncovered.ensures ∙ ap (minus c.args.amounts.now) c.left_of.ensures in
    let why = rw c.grant_of.ensures.looks.same at c.in_err-after.ensures.refused in
    let s : ChargeStops acct c.args.ticket c.args.amounts.now old new c.in_err-after.field-0.0 =
    stops_room old acct c.args.ticket c.args.amounts.now grant new _ c.in_ok-grant.ensures.granted
    (c.occupied_with.ensures.looks.same ∙ c.grant_of.ensures.looks.same)
    (subst (λ a. RefusedAs old acct (λ tickets. room_refusal tickets a (occupied_in old acct) (maxima_in old acct)) c.in_err-after.field-0.0) unc why) in
    search rules

pub returns-in_err-use_grant-clause-refused : goal.returns-in_err-use_grant-clause-refused
returns-in_err-use_grant-clause-refused g c =
    let old = g.O.HasHeap.heap c.args.o.now in
    let new = g.O.HasHeap.heap c.use_grant.new.o in
    let acct = c.args.acct in
    let unc = c.minus-uncovered.ensures ∙ ap (minus c.args.amounts.now) c.left_of.ensures in
    let free = rw c.grant_of.ensures.looks.same at c.in_ok-after.ensures.free in
    let why = rw (c.occupied_with.ensures.looks.same, c.grant_of.ensures.looks.same) at c.in_err-use_grant.ensures.refused in
    let s : ChargeStops acct c.args.ticket c.args.amounts.now old new c.in_err-use_grant.field-0.0 =
    stops_full old acct c.args.ticket c.args.amounts.now new _
    (may_charge c.args.amounts.now c.in_ok-grant.grant c.in_ok-grant.ensures.granted
    (subst (λ a. Allows old acct (λ tickets. room_refusal tickets a (occupied_in old acct) (maxima_in old acct))) unc free)) why in
    search rules

pub returns-clause-refused : goal.returns-clause-refused
returns-clause-refused g c =
    let old = g.O.HasHeap.heap c.args.o.now in
    let mid = g.O.HasHeap.heap c.use_grant.new.o in
    let new = g.O.HasHeap.heap c.set_occupied.new.o in
    let acct = c.args.acct in
    let unc = c.minus-uncovered.ensures ∙ ap (minus c.args.amounts.now) c.left_of.ensures in
    let free = rw c.grant_of.ensures.looks.same at c.in_ok-after.ensures.free in
    let uses = rw (c.occupied_with.ensures.looks.same, c.grant_of.ensures.looks.same) at c.in_ok-use_grant.ensures.used in
    let rest = used_besides old mid c.args.amounts.now c.in_ok-grant.grant uses in
    IfErr-weaker _ _ (ChargeStops acct c.args.ticket c.args.amounts.now old new)
    (λ stop u. stops_full old acct c.args.ticket c.args.amounts.now new stop
    (may_charge c.args.amounts.now c.in_ok-grant.grant c.in_ok-grant.ensures.granted
    (subst (λ a. Allows old acct (λ tickets. room_refusal tickets a (occupied_in old acct) (maxima_in old acct))) unc free))
    (unmoved_since old mid new stop (ap (λ (h : Heap). h.moves) rest) (ap (λ (h : Heap). h.spare) rest) u))
    c.set_occupied.ensures.refused
