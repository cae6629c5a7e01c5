-- It goes, and what it charged is given back.
use Rattle.std.proofs.Common.{ap, ◌∙◌}
use Rattle.std.proofs.lemmas.Result.{IfErr-weaker, err_from_is_err_and, on_ok_weaker}
use Rattle.sdr_model.specs.Amounts.{minus}
use Rattle.zco_acct.specs.Words.{occupied_in, with_occupied}
use Rattle.zco_obj.specs.Amounts.{heap_amounts}
use Rattle.zco_obj.specs.Discards.{SpotStops}
use Rattle.zco_obj.proofs.DiscardLemmas.{discards_spot, stops_then, stops_there}
use Rattle.zco_obj.proofs.discarding.discard.Goals as goal

pub account-requires-clause-object : goal.account-requires-clause-object
account-requires-clause-object g c = record { row = c.requires.spot.row; keeps = c.requires.spot.keeps }

pub returns-clause-discarded : goal.returns-clause-discarded
returns-clause-discarded g c =
    let mid = g.O.HasHeap.heap c.remove_capsule.new.o in
    let acct = c.in_ok-acct.acct in
    let e = c.heap_amounts.ensures ∙ ap heap_amounts c.capsule_bytes.ensures in
    on_ok_weaker _
    (λ w. discards_spot {old = g.O.HasHeap.heap c.args.o.now} {mid = mid} {new = g.O.HasHeap.heap c.release.new.o} c.in_ok-acct.ensures.told
    c.requires.seen (rw c.account.ensures.looks.same at c.in_ok-remove_capsule.ensures.removed)
    (w ∙ ap (λ a. with_occupied mid acct (minus (occupied_in mid acct) a)) e)) c.release.ensures.released

pub returns-in_err-remove_capsule-clause-refused : goal.returns-in_err-remove_capsule-clause-refused
returns-in_err-remove_capsule-clause-refused g c =
    let p = err_from_is_err_and c.from_residual-in_err-remove_capsule.result c.from_residual-in_err-remove_capsule.ensures.1 in
    rw (p.1, p.2)
    (stops_there c.args.gone (g.O.HasHeap.heap c.args.o.now) (g.O.HasHeap.heap c.remove_capsule.new.o) _
    (rw c.account.ensures.looks.same at c.in_err-remove_capsule.ensures.refused))

pub returns-clause-refused : goal.returns-clause-refused
returns-clause-refused g c =
    let old = g.O.HasHeap.heap c.args.o.now in
    let mid = g.O.HasHeap.heap c.remove_capsule.new.o in
    let new = g.O.HasHeap.heap c.release.new.o in
    IfErr-weaker _ _ (SpotStops c.args.gone old new)
    (λ stop s. stops_then c.args.gone old mid new stop (rw c.account.ensures.looks.same at c.in_ok-remove_capsule.ensures.removed) s)
    c.release.ensures.refused
