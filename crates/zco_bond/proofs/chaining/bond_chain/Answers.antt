-- The chain is walked, and its headers or trailers become extents one by one.
use Rattle.std.proofs.Common.{arith}
use Rattle.std.proofs.lemmas.Result.{err_from_is_err_and}
use Rattle.sdr_base.proofs.WorksLemmas.{looks_then, looks_works, works_more, works_ok, works_stopped, works_then}
use Rattle.zco_bond.proofs.ChainLemmas.{capsule_there, chain_all, chain_begun, chain_faults, chain_many, chain_on, chain_room, chain_stops, lines_all, lines_many, lines_most, lines_with, some_place, touched}
use Rattle.zco_bond.proofs.chaining.bond_chain.Goals as goal

pub returns-in_err-check_failed-clause-refused : goal.returns-in_err-check_failed-clause-refused
returns-in_err-check_failed-clause-refused g c =
    let p = err_from_is_err_and c.from_residual.result c.from_residual.ensures.1 in
    rw (p.1, p.2)
    (chain_faults c.args.first c.args.gap (g.O.HasHeap.heap c.args.o.now) (g.O.HasHeap.heap c.check_failed.new.o) _
    c.in_err-check_failed.ensures.refused)

pub returns-in_err-check_failed-clause-works : goal.returns-in_err-check_failed-clause-works
returns-in_err-check_failed-clause-works g c =
    let p = err_from_is_err_and c.from_residual.result c.from_residual.ensures.1 in
    λ front rows k. rw (p.1, p.2) (works_stopped _ (works_more (looks_works c.in_err-check_failed.ensures.looks) (omega arith)))

pub loop-i-init : goal.loop-i-init
loop-i-init g c =
    rw c.check_failed.ensures.looks.same
    (chain_begun c.args.acct c.args.first c.args.gap _ _ (works_ok (looks_works c.in_ok-check_failed.ensures.looks)))

pub see_capsule-requires-clause-capsule : goal.see_capsule-requires-clause-capsule
see_capsule-requires-clause-capsule g c = capsule_there c.loop-i.invariant c.if-capsule-eq0.false c.requires.chains

pub returns-in_err-seen-clause-refused : goal.returns-in_err-seen-clause-refused
returns-in_err-seen-clause-refused g c =
    let p = err_from_is_err_and c.from_residual-in_err-seen.result c.from_residual-in_err-seen.ensures.1 in
    rw (p.1, p.2)
    (chain_faults c.args.first c.args.gap (g.O.HasHeap.heap c.args.o.now) (g.O.HasHeap.heap c.see_capsule.new.o) _
    c.in_err-seen.ensures.refused)

pub returns-in_err-seen-clause-works : goal.returns-in_err-seen-clause-works
returns-in_err-seen-clause-works g c =
    let p = err_from_is_err_and c.from_residual-in_err-seen.result c.from_residual-in_err-seen.ensures.1 in
    λ front rows k. let n = lines_most c.loop-i.invariant k in
    rw (p.1, p.2)
    (works_stopped _
    (works_more (works_then (touched c.loop-i.invariant k) (looks_works c.in_err-seen.ensures.looks)) (omega (arith, n))))

pub bond_text-requires-clause-spare : goal.bond_text-requires-clause-spare
bond_text-requires-clause-spare g c =
    rw c.see_capsule.ensures.looks.same (chain_room c.loop-i.invariant c.if-capsule-eq0.false c.requires.chains)

pub bond_text-requires-clause-place : goal.bond_text-requires-clause-place
bond_text-requires-clause-place g c =
    rw c.see_capsule.ensures.looks.same
    (some_place c.loop-i.invariant c.in_ok-seen.seen c.if-capsule-eq0.false c.in_ok-seen.ensures.seen c.requires.chains)

pub returns-in_err-extent-clause-refused : goal.returns-in_err-extent-clause-refused
returns-in_err-extent-clause-refused g c =
    let p = err_from_is_err_and c.from_residual-in_err-extent.result c.from_residual-in_err-extent.ensures.1 in
    rw (p.1, p.2)
    (chain_stops c.loop-i.invariant c.in_ok-seen.seen c.if-capsule-eq0.false c.in_ok-seen.ensures.seen
    (g.O.HasHeap.heap c.bond_text.new.o) _ (rw c.see_capsule.ensures.looks.same at c.in_err-extent.ensures.refused))

pub returns-in_err-extent-clause-works : goal.returns-in_err-extent-clause-works
returns-in_err-extent-clause-works g c =
    let p = err_from_is_err_and c.from_residual-in_err-extent.result c.from_residual-in_err-extent.ensures.1 in
    λ front rows k.
    let n = lines_with c.loop-i.invariant k c.in_ok-seen.seen c.if-capsule-eq0.false c.in_ok-seen.ensures.seen in
    rw (p.1, p.2)
    (works_stopped _
    (works_more (works_then (touched c.loop-i.invariant k) (looks_then c.in_ok-seen.ensures.looks c.in_err-extent.ensures.works)) n))

pub loop-i-preserved : goal.loop-i-preserved
loop-i-preserved g c =
    chain_on c.loop-i.invariant c.in_ok-seen.seen c.if-capsule-eq0.false c.in_ok-seen.ensures.seen
    (rw c.see_capsule.ensures.looks.same at c.in_ok-extent.ensures.bonded) _ c.lengthened-chain.result c.lengthened-chain.ensures.last
    c.lengthened-chain.ensures.begun c.lengthened-chain.ensures.kept
    (λ n w. works_ok (works_then w (looks_then c.in_ok-seen.ensures.looks c.in_ok-extent.ensures.works)))

pub returns-after-loop-i-clause-bonded : goal.returns-after-loop-i-clause-bonded
returns-after-loop-i-clause-bonded g c = chain_many c.loop-i.invariant (omega arith)

pub returns-after-loop-i-clause-works : goal.returns-after-loop-i-clause-works
returns-after-loop-i-clause-works g c = λ front rows k. works_ok (lines_many c.loop-i.invariant k (omega arith))

pub returns-then-capsule-eq0-clause-bonded : goal.returns-then-capsule-eq0-clause-bonded
returns-then-capsule-eq0-clause-bonded g c = chain_all c.loop-i.invariant c.if-capsule-eq0.true

pub returns-then-capsule-eq0-clause-works : goal.returns-then-capsule-eq0-clause-works
returns-then-capsule-eq0-clause-works g c = λ front rows k. works_ok (lines_all c.loop-i.invariant k c.if-capsule-eq0.true)

pub see_capsule-requires-clause-kept : goal.see_capsule-requires-clause-kept
see_capsule-requires-clause-kept g c = (touched c.loop-i.invariant c.requires.chains.is).kept
