-- The source is read, the account and its count, the account is charged, and the extent comes.
use Rattle.std.proofs.Common.{arith}
use Rattle.std.proofs.lemmas.Result.{IfErr-weaker, err_from_is_err_and, on_ok_weaker}
use Rattle.zco_obj.specs.AppendStops.{SourceStops}
use Rattle.zco_obj.proofs.ChargeLemmas.{some_object, some_queue}
use Rattle.zco_obj.proofs.SourceStopLemmas.{appends_source, charge_stopped, flagged_stops, pair_there, piece_short, queue_there, range_stops, room_stops, source_short, source_there, spare_same}
use Rattle.zco_obj.proofs.appending.append_source.Goals as goal

pub see_source-requires-clause-source : goal.see_source-requires-clause-source
see_source-requires-clause-source g c = source_there c.requires.some

pub returns-then-seen-clause-refused : goal.returns-then-seen-clause-refused
returns-then-seen-clause-refused g c =
    flagged_stops c.args.ticket c.args.piece c.in_ok-seen.seen c.requires.some c.in_ok-seen.ensures.seen (g.O.HasHeap.heap c.see_source.new.o)
    c.if-seen.true c.see_source.ensures.looks.same

pub returns-in_err-check_range-clause-refused : goal.returns-in_err-check_range-clause-refused
returns-in_err-check_range-clause-refused g c =
    let p = err_from_is_err_and c.from_residual-in_err-check_range.result c.from_residual-in_err-check_range.ensures.1 in
    rw (p.1, p.2)
    (range_stops c.args.ticket c.args.piece c.in_ok-seen.seen c.requires.some c.in_ok-seen.ensures.seen c.if-seen.false
    (g.O.HasHeap.heap c.see_source.new.o) _ c.in_err-check_range.ensures.refused c.see_source.ensures.looks.same)

pub account-requires-clause-object : goal.account-requires-clause-object
account-requires-clause-object g c = rw c.see_source.ensures.looks.same (some_object (queue_there c.requires.some))

pub see_count-requires-clause-source : goal.see_count-requires-clause-source
see_count-requires-clause-source g c =
    rw (c.account.ensures.looks.same, c.see_source.ensures.looks.same) (source_there c.requires.some)

pub naming_amounts-requires : goal.naming_amounts-requires
naming_amounts-requires g c = record {
  short = source_short c.args.ticket c.args.piece c.in_ok-seen.seen c.requires.some c.in_ok-seen.ensures.seen;
}

pub charge-requires-clause-queue : goal.charge-requires-clause-queue
charge-requires-clause-queue g c =
    let t = rw c.see_source.ensures.looks.same at c.in_ok-acct.ensures.told in
    rw (c.see_count.ensures.looks.same, c.account.ensures.looks.same, c.see_source.ensures.looks.same)
    (some_queue (queue_there c.requires.some) t)

pub returns-in_err-charge-clause-refused : goal.returns-in_err-charge-clause-refused
returns-in_err-charge-clause-refused g c =
    let p = err_from_is_err_and c.from_residual-in_err-charge.result c.from_residual-in_err-charge.ensures.1 in
    let t = rw c.see_source.ensures.looks.same at c.in_ok-acct.ensures.told in
    let n = rw (c.account.ensures.looks.same, c.see_source.ensures.looks.same) at c.in_ok-count.ensures.seen in
    rw (p.1, p.2)
    (charge_stopped c.args.ticket c.args.piece c.in_ok-seen.seen c.requires.some c.in_ok-seen.ensures.seen c.if-seen.false
    c.in_ok-check_range.ensures.within t n c.naming_amounts.result c.naming_amounts.ensures (g.O.HasHeap.heap c.charge.new.o) _
    (rw (c.see_count.ensures.looks.same, c.account.ensures.looks.same, c.see_source.ensures.looks.same) at c.in_err-charge.ensures.refused))

pub name_source-requires-clause-spare : goal.name_source-requires-clause-spare
name_source-requires-clause-spare g c =
    let t = rw c.see_source.ensures.looks.same at c.in_ok-acct.ensures.told in
    let n = rw (c.account.ensures.looks.same, c.see_source.ensures.looks.same) at c.in_ok-count.ensures.seen in
    let d = rw (c.see_count.ensures.looks.same, c.account.ensures.looks.same, c.see_source.ensures.looks.same) at c.in_ok-charge.ensures.charged in
    let e =
    spare_same c.args.ticket c.args.piece c.in_ok-seen.seen c.requires.some c.in_ok-seen.ensures.seen c.if-seen.false
    c.in_ok-check_range.ensures.within t n c.naming_amounts.result c.naming_amounts.ensures d in
    let s = c.requires.spare in omega (arith, e, s)

pub name_source-requires-clause-some : goal.name_source-requires-clause-some
name_source-requires-clause-some g c =
    let t = rw c.see_source.ensures.looks.same at c.in_ok-acct.ensures.told in
    let n = rw (c.account.ensures.looks.same, c.see_source.ensures.looks.same) at c.in_ok-count.ensures.seen in
    let d = rw (c.see_count.ensures.looks.same, c.account.ensures.looks.same, c.see_source.ensures.looks.same) at c.in_ok-charge.ensures.charged in
    pair_there c.args.ticket c.args.piece c.in_ok-seen.seen c.requires.some c.in_ok-seen.ensures.seen c.if-seen.false
    c.in_ok-check_range.ensures.within t n c.naming_amounts.result c.naming_amounts.ensures d

pub name_source-requires-clause-short : goal.name_source-requires-clause-short
name_source-requires-clause-short g c =
    piece_short c.args.ticket c.args.piece c.in_ok-seen.seen c.requires.some c.in_ok-seen.ensures.seen c.in_ok-check_range.ensures.within

pub returns-clause-appended : goal.returns-clause-appended
returns-clause-appended g c =
    let t = rw c.see_source.ensures.looks.same at c.in_ok-acct.ensures.told in
    let n = rw (c.account.ensures.looks.same, c.see_source.ensures.looks.same) at c.in_ok-count.ensures.seen in
    let d = rw (c.see_count.ensures.looks.same, c.account.ensures.looks.same, c.see_source.ensures.looks.same) at c.in_ok-charge.ensures.charged in
    on_ok_weaker _
    (λ m. appends_source c.args.ticket c.args.piece c.in_ok-seen.seen c.requires.some c.in_ok-seen.ensures.seen c.if-seen.false
    c.in_ok-check_range.ensures.within t n c.naming_amounts.result c.naming_amounts.ensures d m)
    c.name_source.ensures.named

pub returns-clause-refused : goal.returns-clause-refused
returns-clause-refused g c =
    let t = rw c.see_source.ensures.looks.same at c.in_ok-acct.ensures.told in
    let n = rw (c.account.ensures.looks.same, c.see_source.ensures.looks.same) at c.in_ok-count.ensures.seen in
    let d = rw (c.see_count.ensures.looks.same, c.account.ensures.looks.same, c.see_source.ensures.looks.same) at c.in_ok-charge.ensures.charged in
    let old = g.O.HasHeap.heap c.args.o.now in
    let new = g.O.HasHeap.heap c.name_source.new.o in
    IfErr-weaker _ _ (SourceStops c.args.object c.args.ticket c.args.piece old new)
    (λ stop s. room_stops c.args.ticket c.args.piece c.in_ok-seen.seen c.requires.some c.in_ok-seen.ensures.seen c.if-seen.false
    c.in_ok-check_range.ensures.within t n c.naming_amounts.result c.naming_amounts.ensures d new stop s)
    c.name_source.ensures.refused
