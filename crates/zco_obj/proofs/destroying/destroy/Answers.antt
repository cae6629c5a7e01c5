-- The parts go, then the object, and its account is given back what they charged.
use Rattle.std.proofs.Common.{◌∙◌, ap}
use Rattle.std.proofs.lemmas.Result.{IfErr-weaker, err_from_is_err_and, on_ok_weaker}
use Rattle.sdr_model.specs.Amounts.{plus}
use Rattle.zco_obj.specs.Destroying.{DestroyStops}
use Rattle.zco_obj.proofs.EndLemmas.{destroys, object_room, object_still, object_stop, parts_stop, release_stop}
use Rattle.zco_obj.proofs.PartsGoneLemmas.{some_kept}
use Rattle.zco_obj.proofs.destroying.destroy.Goals as goal

pub account-requires-clause-object : goal.account-requires-clause-object
account-requires-clause-object g c =
    rw c.expect_kind.ensures.looks.same (some_kept (c.requires.object c.in_ok-expect_kind.ensures.found))

pub returns-in_err-parts-clause-refused : goal.returns-in_err-parts-clause-refused
returns-in_err-parts-clause-refused g c =
    let p = err_from_is_err_and c.from_residual-in_err-parts.result c.from_residual-in_err-parts.ensures.1 in
    rw (p.1, p.2)
    (parts_stop c.args.object (g.O.HasHeap.heap c.args.o.now) (g.O.HasHeap.heap c.give_parts.new.o) _ c.in_ok-expect_kind.ensures.found
    (rw (c.account.ensures.looks.same, c.expect_kind.ensures.looks.same) at c.in_err-parts.ensures.refused))

pub give-requires-clause-spare : goal.give-requires-clause-spare
give-requires-clause-spare g c =
    let p = rw (c.account.ensures.looks.same, c.expect_kind.ensures.looks.same) at c.in_ok-parts.ensures.given in
    object_room c.in_ok-parts.parts p (c.requires.object c.in_ok-expect_kind.ensures.found)

pub give-requires-clause-used : goal.give-requires-clause-used
give-requires-clause-used g c =
    let p = rw (c.account.ensures.looks.same, c.expect_kind.ensures.looks.same) at c.in_ok-parts.ensures.given in
    object_still c.in_ok-parts.parts p (c.requires.object c.in_ok-expect_kind.ensures.found)

pub returns-in_err-give-clause-refused : goal.returns-in_err-give-clause-refused
returns-in_err-give-clause-refused g c =
    let e = err_from_is_err_and c.from_residual-in_err-give.result c.from_residual-in_err-give.ensures.1 in
    let p = rw (c.account.ensures.looks.same, c.expect_kind.ensures.looks.same) at c.in_ok-parts.ensures.given in
    rw (e.1, e.2)
    (object_stop c.in_ok-parts.parts p (g.O.HasHeap.heap c.give.new.self) _ c.in_ok-expect_kind.ensures.found c.in_err-give.ensures.refused)

pub returns-clause-destroyed : goal.returns-clause-destroyed
returns-clause-destroyed g c =
    let p = rw (c.account.ensures.looks.same, c.expect_kind.ensures.looks.same) at c.in_ok-parts.ensures.given in
    let t = rw c.expect_kind.ensures.looks.same at c.in_ok-acct.ensures.told in
    on_ok_weaker _
    (λ r. destroys c.in_ok-parts.parts p c.in_ok-give.ensures.given c.in_ok-acct.acct c.plus.result c.in_ok-expect_kind.ensures.found t
    (c.plus.ensures ∙ ap (plus c.in_ok-parts.parts) c.heap_amounts.ensures) r)
    c.release.ensures.released

pub returns-clause-refused : goal.returns-clause-refused
returns-clause-refused g c =
    let p = rw (c.account.ensures.looks.same, c.expect_kind.ensures.looks.same) at c.in_ok-parts.ensures.given in
    let old = g.O.HasHeap.heap c.args.o.now in
    let new = g.O.HasHeap.heap c.release.new.o in
    IfErr-weaker _ _ (DestroyStops c.args.object old new)
    (λ stop u. release_stop c.in_ok-parts.parts p c.in_ok-give.ensures.given new stop c.in_ok-expect_kind.ensures.found u)
    c.release.ensures.refused
