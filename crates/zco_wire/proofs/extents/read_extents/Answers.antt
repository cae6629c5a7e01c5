-- The chain is walked, and what each extent names gone over.
use Rattle.std.proofs.Common.{◌∙◌, refl, arith}
use Rattle.std.proofs.lemmas.Result.{err_from_is_err_and}
use Rattle.sdr_base.proofs.WorksLemmas.{looks_looks, looks_ok, looks_on}
use Rattle.zco_wire.proofs.StoppingLemmas.{looks_past, told_same, told_then}
use Rattle.zco_wire.proofs.WalkLemmas.{named_asks, named_asks_on, named_at_full, named_at_most, named_at_zero, named_failed, named_on, named_start, named_stops, named_unasked, some_extent, some_named}
use Rattle.zco_wire.proofs.extents.read_extents.Goals as goal

pub returns-in_err-check_failed-clause-stops : goal.returns-in_err-check_failed-clause-stops
returns-in_err-check_failed-clause-stops g c =
    let p = err_from_is_err_and c.from_residual.result c.from_residual.ensures.1 in
    rw (p.1, p.2) (named_failed g.M.Media c.args.first c.args.at c.args.media.now c.args.media.now _ c.in_err-check_failed.ensures.refused)

pub returns-in_err-check_failed-clause-looks : goal.returns-in_err-check_failed-clause-looks
returns-in_err-check_failed-clause-looks g c =
    let p = err_from_is_err_and c.from_residual.result c.from_residual.ensures.1 in
    rw (p.1, p.2) (looks_past _ c.in_err-check_failed.ensures.looks)

pub loop-i-init : goal.loop-i-init
loop-i-init g c = record {
  walks = named_start c.args.at c.args.into.now c.requires.room;
  room = c.requires.room;
  same = refl;
  media = told_same g.M.Media c.args.media.now;
  looks = looks_ok c.in_ok-check_failed.ensures.looks;
}

pub see_link-requires-clause-extent : goal.see_link-requires-clause-extent
see_link-requires-clause-extent g c =
    rw c.loop-i.invariant.looks.same (some_extent c.loop-i.invariant.walks c.requires.chain.is c.if-extent-eq0.false)

pub returns-in_err-link-clause-stops : goal.returns-in_err-link-clause-stops
returns-in_err-link-clause-stops g c =
    let p = err_from_is_err_and c.from_residual-in_err-link.result c.from_residual-in_err-link.ensures.1 in
    rw (p.1, p.2) (named_failed g.M.Media c.args.first c.args.at c.args.media.now c.loop-i.media _ c.in_err-link.ensures.refused)

pub returns-in_err-link-clause-looks : goal.returns-in_err-link-clause-looks
returns-in_err-link-clause-looks g c =
    let p = err_from_is_err_and c.from_residual-in_err-link.result c.from_residual-in_err-link.ensures.1 in
    rw (p.1, p.2) (looks_past _ (looks_looks c.loop-i.invariant.looks c.in_err-link.ensures.looks))

pub read_asked-requires-clause-named : goal.read_asked-requires-clause-named
read_asked-requires-clause-named g c =
    rw (c.see_link.ensures.looks.same, c.loop-i.invariant.looks.same)
    (some_named c.loop-i.invariant.walks c.requires.chain.is c.if-extent-eq0.false c.in_ok-link.link
    (rw c.loop-i.invariant.looks.same at c.in_ok-link.ensures.seen))

pub read_asked-requires-clause-page : goal.read_asked-requires-clause-page
read_asked-requires-clause-page g c = let s = c.loop-i.invariant.same in let p = c.requires.page in omega (arith, s, p)

pub returns-in_err-cursor-clause-stops : goal.returns-in_err-cursor-clause-stops
returns-in_err-cursor-clause-stops g c =
    let p = err_from_is_err_and c.from_residual-in_err-cursor.result c.from_residual-in_err-cursor.ensures.1 in
    let l = c.loop-i.invariant in
    let seen = rw l.looks.same at c.in_ok-link.ensures.seen in
    let stops = rw (c.see_link.ensures.looks.same, l.looks.same) at c.in_err-cursor.ensures.stops in
    rw (p.1, p.2)
    (named_stops l.walks c.in_ok-link.link c.read_asked.new.media _ c.if-extent-eq0.false seen l.media l.same stops)

pub returns-in_err-cursor-clause-asks : goal.returns-in_err-cursor-clause-asks
returns-in_err-cursor-clause-asks g c =
    let l = c.loop-i.invariant in
    let seen = rw l.looks.same at c.in_ok-link.ensures.seen in
    named_asks_on l.walks c.in_ok-link.link c.if-extent-eq0.false seen l.same
    (rw (c.see_link.ensures.looks.same, l.looks.same) at c.read_asked.ensures.asks)

pub returns-in_err-link-clause-asks : goal.returns-in_err-link-clause-asks
returns-in_err-link-clause-asks g c = named_asks c.loop-i.invariant.walks

pub returns-in_err-check_failed-clause-asks : goal.returns-in_err-check_failed-clause-asks
returns-in_err-check_failed-clause-asks g c = named_unasked g.M.Media c.args.first c.args.at c.args.media.now

pub returns-after-loop-i-clause-asks : goal.returns-after-loop-i-clause-asks
returns-after-loop-i-clause-asks g c = named_asks c.loop-i.invariant.walks

pub returns-then-extent-eq0-clause-asks : goal.returns-then-extent-eq0-clause-asks
returns-then-extent-eq0-clause-asks g c = named_asks c.loop-i.invariant.walks

pub returns-then-full-clause-asks : goal.returns-then-full-clause-asks
returns-then-full-clause-asks g c = named_asks c.loop-i.invariant.walks

pub returns-in_err-cursor-clause-same : goal.returns-in_err-cursor-clause-same
returns-in_err-cursor-clause-same g c = c.read_asked.ensures.same ∙ c.loop-i.invariant.same

pub returns-in_err-cursor-clause-media : goal.returns-in_err-cursor-clause-media
returns-in_err-cursor-clause-media g c = told_then c.loop-i.invariant.media c.read_asked.ensures.media

pub returns-in_err-cursor-clause-looks : goal.returns-in_err-cursor-clause-looks
returns-in_err-cursor-clause-looks g c =
    let p = err_from_is_err_and c.from_residual-in_err-cursor.result c.from_residual-in_err-cursor.ensures.1 in
    rw (p.1, p.2)
    (looks_looks (looks_looks c.loop-i.invariant.looks c.in_ok-link.ensures.looks) c.in_err-cursor.ensures.looks)

pub loop-i-preserved : goal.loop-i-preserved
loop-i-preserved g c =
    let l = c.loop-i.invariant in
    let seen = rw l.looks.same at c.in_ok-link.ensures.seen in
    let read = rw (c.see_link.ensures.looks.same, l.looks.same) at c.in_ok-cursor.ensures.read in
    record {
      walks = named_on l.walks c.in_ok-link.link c.if-extent-eq0.false seen (rw l.media.told at read) l.same
          (rw (c.see_link.ensures.looks.same, l.looks.same) at c.read_asked.ensures.asks);
      room = let r = c.in_ok-cursor.ensures.room in let s = c.read_asked.ensures.same in omega (arith, r, s);
      same = c.read_asked.ensures.same ∙ l.same;
      media = told_then l.media c.read_asked.ensures.media;
      looks = looks_on l.looks (looks_looks c.in_ok-link.ensures.looks c.in_ok-cursor.ensures.looks);
    }

pub returns-after-loop-i-clause-read : goal.returns-after-loop-i-clause-read
returns-after-loop-i-clause-read g c = named_at_most c.loop-i.invariant.walks (omega arith)

pub returns-then-extent-eq0-clause-read : goal.returns-then-extent-eq0-clause-read
returns-then-extent-eq0-clause-read g c = named_at_zero c.loop-i.invariant.walks c.if-extent-eq0.true

pub returns-then-full-clause-read : goal.returns-then-full-clause-read
returns-then-full-clause-read g c =
    named_at_full c.loop-i.invariant.walks c.if-full.true c.loop-i.invariant.same
