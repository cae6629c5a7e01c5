-- The object is read, and the reader moved.
use Rattle.std.proofs.Common.{length, refl, arith}
use Rattle.std.proofs.lemmas.Result.{err_from_is_err_and}
use Rattle.sdr_base.proofs.WorksLemmas.{looks_looks}
use Rattle.zco_wire.specs.Reading.{asked_wire}
use Rattle.zco_wire.proofs.AnswerLemmas.{missed, object_stops, paged}
use Rattle.zco_wire.proofs.StoppingLemmas.{looks_past}
use Rattle.zco_wire.proofs.WireLemmas.{object_unasked}
use Rattle.zco_wire.proofs.sending.transmit.Goals as goal

pub returns-in_err-expect_kind-clause-stops : goal.returns-in_err-expect_kind-clause-stops
returns-in_err-expect_kind-clause-stops g c =
    let p = err_from_is_err_and c.from_residual.result c.from_residual.ensures.1 in
    rw (p.1, p.2) (missed (g.O.HasHeap.heap c.args.o.now).blocks c.args.reader.now.object (length c.args.into.now) g.M.Media
    (asked_wire c.args.reader.now.place (length c.args.into.now)) c.args.media.now c.args.media.now _ refl c.in_err-expect_kind.ensures.refused)

pub returns-in_err-expect_kind-clause-looks : goal.returns-in_err-expect_kind-clause-looks
returns-in_err-expect_kind-clause-looks g c =
    let p = err_from_is_err_and c.from_residual.result c.from_residual.ensures.1 in
    rw (p.1, p.2) (looks_past _ c.in_err-expect_kind.ensures.looks)

pub returns-in_err-check_page-clause-stops : goal.returns-in_err-check_page-clause-stops
returns-in_err-check_page-clause-stops g c =
    let p = err_from_is_err_and c.from_residual-in_err-check_page.result c.from_residual-in_err-check_page.ensures.1 in
    rw (p.1, p.2)
    (paged (g.O.HasHeap.heap c.args.o.now).blocks c.args.reader.now.object (length c.args.into.now) g.M.Media
    (asked_wire c.args.reader.now.place (length c.args.into.now)) c.args.media.now c.args.media.now _ refl c.in_ok-expect_kind.ensures.found
    c.in_err-check_page.ensures.refused)

pub read_wire-requires-clause-object : goal.read_wire-requires-clause-object
read_wire-requires-clause-object g c = rw c.expect_kind.ensures.looks.same (c.requires.object c.in_ok-expect_kind.ensures.found)

pub returns-in_err-given-clause-stops : goal.returns-in_err-given-clause-stops
returns-in_err-given-clause-stops g c =
    let p = err_from_is_err_and c.from_residual-in_err-given.result c.from_residual-in_err-given.ensures.1 in
    let s = rw c.expect_kind.ensures.looks.same at c.in_err-given.ensures.stops in
    rw (p.1, p.2)
    (object_stops (g.O.HasHeap.heap c.args.o.now).blocks c.args.reader.now.object (length c.args.into.now) g.M.Media
    (asked_wire c.args.reader.now.place (length c.args.into.now)) c.args.media.now c.read_wire.new.media _ c.in_ok-expect_kind.ensures.found
    c.requires.object c.in_ok-check_page.ensures.fits s)

pub returns-in_err-given-clause-looks : goal.returns-in_err-given-clause-looks
returns-in_err-given-clause-looks g c =
    let p = err_from_is_err_and c.from_residual-in_err-given.result c.from_residual-in_err-given.ensures.1 in
    rw (p.1, p.2) (looks_looks c.in_ok-expect_kind.ensures.looks c.in_err-given.ensures.looks)

pub returns-clause-given : goal.returns-clause-given
returns-clause-given g c =
    let f = rw c.expect_kind.ensures.looks.same at c.in_ok-given.ensures.fills in
    record {
      kind = c.in_ok-expect_kind.ensures.found;
      page = let l = c.read_wire.ensures.same in let p = c.in_ok-check_page.ensures.fits in omega (arith, l, p);
      few = f.few;
      gives = f.gives;
      moved = λ row named k. c.moved_by.ensures;
    }

pub returns-clause-looks : goal.returns-clause-looks
returns-clause-looks g c = looks_looks c.in_ok-expect_kind.ensures.looks c.in_ok-given.ensures.looks

pub returns-in_err-expect_kind-clause-asks : goal.returns-in_err-expect_kind-clause-asks
returns-in_err-expect_kind-clause-asks g c = record {
  once = object_unasked g.M.Media (asked_wire c.args.reader.now.place (length c.args.into.now)) c.args.media.now;
  none = λ no. refl;
}

pub returns-in_err-check_page-clause-asks : goal.returns-in_err-check_page-clause-asks
returns-in_err-check_page-clause-asks g c = record {
  once = object_unasked g.M.Media (asked_wire c.args.reader.now.place (length c.args.into.now)) c.args.media.now;
  none = λ no. refl;
}

pub returns-in_err-given-clause-asks : goal.returns-in_err-given-clause-asks
returns-in_err-given-clause-asks g c = record {
  once = rw c.expect_kind.ensures.looks.same at c.read_wire.ensures.asks;
  none = λ no. absurd (no c.in_ok-expect_kind.ensures.found);
}

pub returns-clause-asks : goal.returns-clause-asks
returns-clause-asks g c = record {
  once = rw c.expect_kind.ensures.looks.same at c.read_wire.ensures.asks;
  none = λ no. absurd (no c.in_ok-expect_kind.ensures.found);
}
