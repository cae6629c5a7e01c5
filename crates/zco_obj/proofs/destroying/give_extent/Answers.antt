-- The extent, its source and the account's count are read, the source counts one less, and the extent goes.
use Rattle.std.proofs.Common.{refl, arith}
use Rattle.std.specs.Prelude.{◌==◌}
use Rattle.std.proofs.lemmas.Result.{err_from_is_err_and}
use Rattle.sdr_base.proofs.WorksLemmas.{looks_looks, looks_then, works_more, works_ok, works_stopped, works_then}
use Rattle.zco_obj.proofs.UseLemmas.{charge_most, detach_stops, give_stops, gives_extent, same_going, some_attached, some_use_extent, some_use_source, source_short, spare_still, used_still}
use Rattle.zco_obj.proofs.destroying.give_extent.Goals as goal

pub see_extent-requires-clause-extent : goal.see_extent-requires-clause-extent
see_extent-requires-clause-extent g c = some_use_extent c.requires.extent

pub see_source-requires-clause-source : goal.see_source-requires-clause-source
see_source-requires-clause-source g c =
    rw c.see_extent.ensures.looks.same (some_use_source c.requires.extent c.in_ok-seen.ensures.seen)

pub see_count-requires-clause-source : goal.see_count-requires-clause-source
see_count-requires-clause-source g c =
    rw (c.see_source.ensures.looks.same, c.see_extent.ensures.looks.same) (some_use_source c.requires.extent c.in_ok-seen.ensures.seen)

pub detach-requires-clause-spare : goal.detach-requires-clause-spare
detach-requires-clause-spare g c =
    let e = same_going c.requires.extent c.in_ok-seen.ensures.seen in
    let s = c.requires.spare in
    rw (c.see_count.ensures.looks.same, c.see_source.ensures.looks.same, c.see_extent.ensures.looks.same) (omega (arith, e, s))

pub detach-requires-clause-source : goal.detach-requires-clause-source
detach-requires-clause-source g c =
    rw (c.see_count.ensures.looks.same, c.see_source.ensures.looks.same, c.see_extent.ensures.looks.same) (some_attached c.requires.extent c.in_ok-seen.ensures.seen)

pub returns-in_err-detach-clause-refused : goal.returns-in_err-detach-clause-refused
returns-in_err-detach-clause-refused g c =
    let p = err_from_is_err_and c.from_residual-in_err-detach.result c.from_residual-in_err-detach.ensures.1 in
    rw (p.1, p.2)
    (detach_stops c.args.acct c.args.extent c.in_ok-seen.seen (g.O.HasHeap.heap c.args.o.now) (g.O.HasHeap.heap c.detach.new.o) _
    c.in_ok-seen.ensures.seen
    (rw (c.see_count.ensures.looks.same, c.see_source.ensures.looks.same, c.see_extent.ensures.looks.same) at c.in_err-detach.ensures.refused))

pub give-requires-clause-spare : goal.give-requires-clause-spare
give-requires-clause-spare g c =
    let d = rw (c.see_count.ensures.looks.same, c.see_source.ensures.looks.same, c.see_extent.ensures.looks.same) at c.in_ok-detach.ensures.detached in
    spare_still c.args.extent c.in_ok-seen.seen c.in_ok-seen.ensures.seen d c.requires.extent c.requires.spare

pub give-requires-clause-used : goal.give-requires-clause-used
give-requires-clause-used g c =
    let d = rw (c.see_count.ensures.looks.same, c.see_source.ensures.looks.same, c.see_extent.ensures.looks.same) at c.in_ok-detach.ensures.detached in
    used_still c.args.extent c.in_ok-seen.seen c.in_ok-seen.ensures.seen d c.requires.extent

pub returns-in_err-give-clause-refused : goal.returns-in_err-give-clause-refused
returns-in_err-give-clause-refused g c =
    let p = err_from_is_err_and c.from_residual-in_err-give.result c.from_residual-in_err-give.ensures.1 in
    let d = rw (c.see_count.ensures.looks.same, c.see_source.ensures.looks.same, c.see_extent.ensures.looks.same) at c.in_ok-detach.ensures.detached in
    rw (p.1, p.2)
    (give_stops c.args.extent c.in_ok-seen.seen c.in_ok-seen.ensures.seen d (g.O.HasHeap.heap c.give.new.self) _
    c.in_err-give.ensures.refused)

pub returns-clause-given : goal.returns-clause-given
returns-clause-given g c =
    let d = rw (c.see_count.ensures.looks.same, c.see_source.ensures.looks.same, c.see_extent.ensures.looks.same) at c.in_ok-detach.ensures.detached in
    gives_extent c.args.extent c.in_ok-seen.seen c.in_ok-seen.ensures.seen d _ c.in_ok-source.source c.in_ok-count.count
    (rw c.see_extent.ensures.looks.same at c.in_ok-source.ensures.seen)
    (rw (c.see_source.ensures.looks.same, c.see_extent.ensures.looks.same) at c.in_ok-count.ensures.seen) c.naming_amounts.ensures refl
    c.in_ok-give.ensures.given

pub naming_amounts-requires : goal.naming_amounts-requires
naming_amounts-requires g c = record {
  short =
      source_short c.requires.extent c.in_ok-seen.ensures.seen c.in_ok-source.source
      (rw c.see_extent.ensures.looks.same at c.in_ok-source.ensures.seen);
}

pub returns-clause-most : goal.returns-clause-most
returns-clause-most g c =
    let short =
    source_short c.requires.extent c.in_ok-seen.ensures.seen c.in_ok-source.source
    (rw c.see_extent.ensures.looks.same at c.in_ok-source.ensures.seen) in
    rw c.naming_amounts.ensures (charge_most (c.in_ok-count.count == 1) c.in_ok-source.source.space c.in_ok-source.source.bytes short)

pub returns-in_err-detach-clause-works : goal.returns-in_err-detach-clause-works
returns-in_err-detach-clause-works g c =
    let p = err_from_is_err_and c.from_residual-in_err-detach.result c.from_residual-in_err-detach.ensures.1 in
    let e = same_going c.requires.extent c.in_ok-seen.ensures.seen in
    let w = rw (c.see_count.ensures.looks.same, c.see_source.ensures.looks.same, c.see_extent.ensures.looks.same) at c.in_err-detach.ensures.works in
    rw (p.1, p.2)
    (works_stopped _ (works_more (looks_then (looks_looks (looks_looks c.in_ok-seen.ensures.looks c.in_ok-source.ensures.looks) c.in_ok-count.ensures.looks) w) (omega (arith, e))))

pub returns-in_err-give-clause-works : goal.returns-in_err-give-clause-works
returns-in_err-give-clause-works g c =
    let p = err_from_is_err_and c.from_residual-in_err-give.result c.from_residual-in_err-give.ensures.1 in
    let e = same_going c.requires.extent c.in_ok-seen.ensures.seen in
    let w = rw (c.see_count.ensures.looks.same, c.see_source.ensures.looks.same, c.see_extent.ensures.looks.same) at c.in_ok-detach.ensures.works in
    rw (p.1, p.2)
    (works_stopped _
    (works_more (looks_then (looks_looks (looks_looks c.in_ok-seen.ensures.looks c.in_ok-source.ensures.looks) c.in_ok-count.ensures.looks)
    (works_then w c.in_err-give.ensures.works)) (omega (arith, e))))

pub returns-clause-works : goal.returns-clause-works
returns-clause-works g c =
    let e = same_going c.requires.extent c.in_ok-seen.ensures.seen in
    let w = rw (c.see_count.ensures.looks.same, c.see_source.ensures.looks.same, c.see_extent.ensures.looks.same) at c.in_ok-detach.ensures.works in
    works_ok
    (works_more (looks_then (looks_looks (looks_looks c.in_ok-seen.ensures.looks c.in_ok-source.ensures.looks) c.in_ok-count.ensures.looks)
    (works_then w c.in_ok-give.ensures.works)) (omega (arith, e)))
