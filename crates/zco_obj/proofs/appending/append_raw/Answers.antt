-- The raw object is tested, the account is charged, a source takes the raw object over, and the extent comes.
use Rattle.std.proofs.Common.{arith}
use Rattle.std.proofs.lemmas.Result.{IfErr-weaker, err_from_is_err_and, on_ok_weaker}
use Rattle.sdr_base.proofs.LeavingLemmas.{wanting_leaves}
use Rattle.zco_obj.specs.AppendStops.{RawPieceStops}
use Rattle.zco_obj.proofs.RawStopLemmas.{appends_raw, extent_stops, queue_with_raw, raw_piece_short, raw_range_stops, raw_short, raw_uncharged, some_raw, source_stops, source_wants, taken_pair, taken_spare}
use Rattle.zco_obj.proofs.RawLemmas.{address_stops, is_raw}
use Rattle.zco_obj.proofs.SourceStopLemmas.{object_spare}
use Rattle.zco_obj.proofs.appending.append_raw.Goals as goal

pub expect_unnamed-requires-clause-raw : goal.expect_unnamed-requires-clause-raw
expect_unnamed-requires-clause-raw g c = is_raw c.requires.object c.requires.raw

pub returns-in_err-have-clause-refused : goal.returns-in_err-have-clause-refused
returns-in_err-have-clause-refused g c =
    let p = err_from_is_err_and c.from_residual.result c.from_residual.ensures.1 in
    rw (p.1, p.2)
    (address_stops c.args.object c.args.ticket c.args.piece (g.O.HasHeap.heap c.args.o.now) (g.O.HasHeap.heap c.expect_unnamed.new.o) _
    c.requires.object c.requires.other c.in_err-have.ensures.refused c.expect_unnamed.ensures.looks.same)

pub returns-in_err-check_range-clause-refused : goal.returns-in_err-check_range-clause-refused
returns-in_err-check_range-clause-refused g c =
    let p = err_from_is_err_and c.from_residual-in_err-check_range.result c.from_residual-in_err-check_range.ensures.1 in
    rw (p.1, p.2)
    (raw_range_stops c.args.ticket c.args.piece c.in_ok-have.have c.requires.object c.requires.raw c.in_ok-have.ensures.found
    (g.O.HasHeap.heap c.expect_unnamed.new.o) _ c.in_err-check_range.ensures.refused c.expect_unnamed.ensures.looks.same)

pub extent_amounts-requires : goal.extent_amounts-requires
extent_amounts-requires g c = record {
  short = raw_short c.args.ticket c.args.piece c.in_ok-have.have c.requires.object c.requires.raw c.in_ok-have.ensures.found;
}

pub charge_object-requires-clause-object : goal.charge_object-requires-clause-object
charge_object-requires-clause-object g c =
    rw c.expect_unnamed.ensures.looks.same (queue_with_raw c.requires.object c.requires.raw c.in_ok-have.ensures.found.unnamed)

pub returns-in_err-charge_object-clause-refused : goal.returns-in_err-charge_object-clause-refused
returns-in_err-charge_object-clause-refused g c =
    let p = err_from_is_err_and c.from_residual-in_err-charge_object.result c.from_residual-in_err-charge_object.ensures.1 in
    rw (p.1, p.2)
    (raw_uncharged c.args.ticket c.args.piece c.in_ok-have.have c.requires.object c.requires.raw c.in_ok-have.ensures.found
    c.in_ok-check_range.ensures.within (g.O.HasHeap.heap c.charge_object.new.o) _
    (rw (c.extent_amounts.ensures, c.expect_unnamed.ensures.looks.same) at c.in_err-charge_object.ensures.refused))

pub heap_source-requires-clause-spare : goal.heap_source-requires-clause-spare
heap_source-requires-clause-spare g c =
    let d = rw (c.extent_amounts.ensures, c.expect_unnamed.ensures.looks.same) at c.in_ok-charge_object.ensures.charged in
    let e = object_spare (queue_with_raw c.requires.object c.requires.raw c.in_ok-have.ensures.found.unnamed) d in
    let s = c.requires.spare in omega (arith, e, s)

pub heap_source-requires-clause-raw : goal.heap_source-requires-clause-raw
heap_source-requires-clause-raw g c =
    let d = rw (c.extent_amounts.ensures, c.expect_unnamed.ensures.looks.same) at c.in_ok-charge_object.ensures.charged in
    λ kind. some_raw c.args.ticket c.args.piece c.in_ok-have.have c.requires.object c.requires.raw c.in_ok-have.ensures.found
    c.in_ok-check_range.ensures.within d

pub returns-in_err-source-clause-refused : goal.returns-in_err-source-clause-refused
returns-in_err-source-clause-refused g c =
    let p = err_from_is_err_and c.from_residual-in_err-source.result c.from_residual-in_err-source.ensures.1 in
    let d = rw (c.extent_amounts.ensures, c.expect_unnamed.ensures.looks.same) at c.in_ok-charge_object.ensures.charged in
    rw (p.1, p.2)
    (source_stops c.args.ticket c.args.piece c.in_ok-have.have c.requires.object c.requires.raw c.in_ok-have.ensures.found
    c.in_ok-check_range.ensures.within d (g.O.HasHeap.heap c.heap_source.new.o) _ c.in_err-source.ensures.refused)

pub returns-in_err-source-clause-untouched : goal.returns-in_err-source-clause-untouched
returns-in_err-source-clause-untouched g c =
    let p = err_from_is_err_and c.from_residual-in_err-source.result c.from_residual-in_err-source.ensures.1 in
    let d = rw (c.extent_amounts.ensures, c.expect_unnamed.ensures.looks.same) at c.in_ok-charge_object.ensures.charged in
    rw (p.1, p.2)
    (wanting_leaves (g.O.HasHeap.transaction c.args.o.now) (g.O.HasHeap.transaction c.heap_source.new.o) _
    (source_wants c.args.ticket c.args.piece c.in_ok-have.have c.requires.object c.requires.raw c.in_ok-have.ensures.found
    c.in_ok-check_range.ensures.within d (g.O.HasHeap.heap c.heap_source.new.o) _ c.in_err-source.ensures.refused))

pub name_source-requires-clause-spare : goal.name_source-requires-clause-spare
name_source-requires-clause-spare g c =
    let d = rw (c.extent_amounts.ensures, c.expect_unnamed.ensures.looks.same) at c.in_ok-charge_object.ensures.charged in
    taken_spare c.args.ticket c.args.piece c.in_ok-have.have c.requires.object c.requires.raw c.in_ok-have.ensures.found
    c.in_ok-check_range.ensures.within d c.in_ok-source.ensures.made (omega arith) c.requires.spare

pub name_source-requires-clause-some : goal.name_source-requires-clause-some
name_source-requires-clause-some g c =
    let d = rw (c.extent_amounts.ensures, c.expect_unnamed.ensures.looks.same) at c.in_ok-charge_object.ensures.charged in
    taken_pair c.args.ticket c.args.piece c.in_ok-have.have c.requires.object c.requires.raw c.in_ok-have.ensures.found
    c.in_ok-check_range.ensures.within d c.in_ok-source.ensures.made (omega arith)

pub name_source-requires-clause-short : goal.name_source-requires-clause-short
name_source-requires-clause-short g c =
    raw_piece_short c.args.ticket c.args.piece c.in_ok-have.have c.requires.object c.requires.raw c.in_ok-have.ensures.found
    c.in_ok-check_range.ensures.within

pub returns-clause-appended : goal.returns-clause-appended
returns-clause-appended g c =
    let d = rw (c.extent_amounts.ensures, c.expect_unnamed.ensures.looks.same) at c.in_ok-charge_object.ensures.charged in
    on_ok_weaker _
    (λ n. appends_raw c.args.ticket c.args.piece c.in_ok-have.have c.requires.object c.requires.raw c.in_ok-have.ensures.found
    c.in_ok-check_range.ensures.within d c.in_ok-source.ensures.made (omega arith) n)
    c.name_source.ensures.named

pub returns-clause-refused : goal.returns-clause-refused
returns-clause-refused g c =
    let d = rw (c.extent_amounts.ensures, c.expect_unnamed.ensures.looks.same) at c.in_ok-charge_object.ensures.charged in
    let old = g.O.HasHeap.heap c.args.o.now in
    let new = g.O.HasHeap.heap c.name_source.new.o in
    IfErr-weaker _ _ (RawPieceStops c.args.object c.args.ticket c.args.piece old new)
    (λ stop s. extent_stops c.args.ticket c.args.piece c.in_ok-have.have c.requires.object c.requires.raw c.in_ok-have.ensures.found
    c.in_ok-check_range.ensures.within d c.in_ok-source.ensures.made (omega arith) new stop s)
    c.name_source.ensures.refused
