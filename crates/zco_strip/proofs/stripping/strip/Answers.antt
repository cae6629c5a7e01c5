-- The object is cut to its part, the extents outside go, and its account is given back what is charged less.
use Rattle.std.proofs.Common.{arith}
use Rattle.std.proofs.lemmas.Result.{IfErr-weaker, err_from_is_err_and, on_ok_weaker}
use Rattle.sdr_base.proofs.WorksLemmas.{looks_looks, looks_then, works_more, works_stopped, works_then}
use Rattle.zco_strip.proofs.SpanLemmas.{some_kept}
use Rattle.zco_strip.proofs.StripLemmas.{cut_stop, outside_stop, release_stop, some_uses, strips, uses_out}
use Rattle.zco_strip.specs.Stripping.{StripStops}
use Rattle.zco_strip.proofs.stripping.strip.Goals as goal

pub account-requires-clause-object : goal.account-requires-clause-object
account-requires-clause-object g c =
    rw c.expect_kind.ensures.looks.same (some_kept (c.requires.object c.in_ok-expect_kind.ensures.found))

pub cut_object-requires-clause-object : goal.cut_object-requires-clause-object
cut_object-requires-clause-object g c =
    rw (c.account.ensures.looks.same, c.expect_kind.ensures.looks.same) (c.requires.object c.in_ok-expect_kind.ensures.found)

pub returns-in_err-parted-clause-refused : goal.returns-in_err-parted-clause-refused
returns-in_err-parted-clause-refused g c =
    let e = err_from_is_err_and c.from_residual-in_err-parted.result c.from_residual-in_err-parted.ensures.1 in
    rw (e.1, e.2)
    (cut_stop c.args.object (g.O.HasHeap.heap c.args.o.now) (g.O.HasHeap.heap c.cut_object.new.o) _ c.in_ok-expect_kind.ensures.found
    (rw (c.account.ensures.looks.same, c.expect_kind.ensures.looks.same) at c.in_err-parted.ensures.refused))

pub give_extents-requires-clause-chain : goal.give_extents-requires-clause-chain
give_extents-requires-clause-chain g c =
    let p = rw (c.account.ensures.looks.same, c.expect_kind.ensures.looks.same) at c.in_ok-parted.ensures.cut in
    let t = rw c.expect_kind.ensures.looks.same at c.in_ok-acct.ensures.told in
    some_uses p t (c.requires.object c.in_ok-expect_kind.ensures.found)

pub returns-in_err-charged-clause-refused : goal.returns-in_err-charged-clause-refused
returns-in_err-charged-clause-refused g c =
    let e = err_from_is_err_and c.from_residual-in_err-charged.result c.from_residual-in_err-charged.ensures.1 in
    let p = rw (c.account.ensures.looks.same, c.expect_kind.ensures.looks.same) at c.in_ok-parted.ensures.cut in
    let t = rw c.expect_kind.ensures.looks.same at c.in_ok-acct.ensures.told in
    rw (e.1, e.2)
    (outside_stop p t (g.O.HasHeap.heap c.give_extents.new.o) _ c.in_ok-expect_kind.ensures.found c.in_err-charged.ensures.refused)

pub returns-in_err-charged-clause-works : goal.returns-in_err-charged-clause-works
returns-in_err-charged-clause-works g c =
    let e = err_from_is_err_and c.from_residual-in_err-charged.result c.from_residual-in_err-charged.ensures.1 in
    let p = rw (c.account.ensures.looks.same, c.expect_kind.ensures.looks.same) at c.in_ok-parted.ensures.cut in
    let t = rw c.expect_kind.ensures.looks.same at c.in_ok-acct.ensures.told in
    λ row ss k.
    rw (e.1, e.2)
    (works_stopped _
    (works_more (looks_then (looks_looks c.in_ok-expect_kind.ensures.looks c.in_ok-acct.ensures.looks)
    (works_then c.in_ok-parted.ensures.works (c.in_err-charged.ensures.works _ ss (uses_out p t k)))) (omega arith)))

pub release-requires : goal.release-requires
release-requires g c =
    let p = rw (c.account.ensures.looks.same, c.expect_kind.ensures.looks.same) at c.in_ok-parted.ensures.cut in
    let t = rw c.expect_kind.ensures.looks.same at c.in_ok-acct.ensures.told in
    let q = c.requires.object c.in_ok-expect_kind.ensures.found in
    record { kept = (c.in_ok-charged.ensures.works _ q.sources (uses_out p t q.keeps)).kept }

pub returns-clause-stripped : goal.returns-clause-stripped
returns-clause-stripped g c =
    let p = rw (c.account.ensures.looks.same, c.expect_kind.ensures.looks.same) at c.in_ok-parted.ensures.cut in
    let t = rw c.expect_kind.ensures.looks.same at c.in_ok-acct.ensures.told in
    on_ok_weaker _
    (λ r. strips p t c.in_ok-charged.ensures.given c.in_ok-expect_kind.ensures.found r)
    c.release.ensures.released

pub returns-clause-refused : goal.returns-clause-refused
returns-clause-refused g c =
    let p = rw (c.account.ensures.looks.same, c.expect_kind.ensures.looks.same) at c.in_ok-parted.ensures.cut in
    let t = rw c.expect_kind.ensures.looks.same at c.in_ok-acct.ensures.told in
    let old = g.O.HasHeap.heap c.args.o.now in
    let new = g.O.HasHeap.heap c.release.new.o in
    IfErr-weaker _ _ (StripStops c.args.object old new)
    (λ stop u. release_stop p t c.in_ok-charged.ensures.given new stop c.in_ok-expect_kind.ensures.found u)
    c.release.ensures.refused

pub returns-clause-works : goal.returns-clause-works
returns-clause-works g c =
    let p = rw (c.account.ensures.looks.same, c.expect_kind.ensures.looks.same) at c.in_ok-parted.ensures.cut in
    let t = rw c.expect_kind.ensures.looks.same at c.in_ok-acct.ensures.told in
    λ row ss k.
    works_more (looks_then (looks_looks c.in_ok-expect_kind.ensures.looks c.in_ok-acct.ensures.looks)
    (works_then (works_then c.in_ok-parted.ensures.works (c.in_ok-charged.ensures.works _ ss (uses_out p t k)))
    c.release.ensures.works)) (omega arith)
