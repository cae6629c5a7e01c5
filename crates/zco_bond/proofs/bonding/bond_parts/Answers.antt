-- The headers become extents before the object's own, and the trailers behind them.
use Rattle.std.proofs.Common.{[], arith}
use Rattle.std.proofs.lemmas.Result.{err_from_is_err_and}
use Rattle.sdr_base.proofs.WorksLemmas.{looks_looks, looks_then, looks_works, works_more, works_ok, works_stopped, works_then}
use Rattle.zco_obj.proofs.KeptLemmas.{object_reaches}
use Rattle.zco_bond.proofs.PartsLemmas.{bonds_parts, headers_at, headers_stop, headers_there, lines_of, parts_fault, trailers_at, trailers_stop, trailers_there}
use Rattle.zco_bond.proofs.bonding.bond_parts.Goals as goal

pub account-requires-clause-object : goal.account-requires-clause-object
account-requires-clause-object g c = record { row = c.requires.object.row; keeps = c.requires.object.keeps }

pub returns-in_err-acct-clause-refused : goal.returns-in_err-acct-clause-refused
returns-in_err-acct-clause-refused g c =
    let p = err_from_is_err_and c.from_residual.result c.from_residual.ensures.1 in
    rw (p.1, p.2)
    (parts_fault c.args.object (g.O.HasHeap.heap c.args.o.now) (g.O.HasHeap.heap c.account.new.o) _ c.in_err-acct.ensures.refused)

pub first_parts-requires-clause-object : goal.first_parts-requires-clause-object
first_parts-requires-clause-object g c =
    rw c.account.ensures.looks.same (record { row = c.requires.object.row; keeps = c.requires.object.keeps })

pub returns-in_err-first-clause-refused : goal.returns-in_err-first-clause-refused
returns-in_err-first-clause-refused g c =
    let p = err_from_is_err_and c.from_residual-in_err-first.result c.from_residual-in_err-first.ensures.1 in
    rw (p.1, p.2)
    (parts_fault c.args.object (g.O.HasHeap.heap c.args.o.now) (g.O.HasHeap.heap c.first_parts.new.o) _ c.in_err-first.ensures.refused)

pub word-requires-clause-inside : goal.word-requires-clause-inside
word-requires-clause-inside g c =
    rw (c.first_parts.ensures.looks.same, c.account.ensures.looks.same) (object_reaches c.requires.object.keeps 24 (omega arith))

pub returns-in_err-last-clause-refused : goal.returns-in_err-last-clause-refused
returns-in_err-last-clause-refused g c =
    let p = err_from_is_err_and c.from_residual-in_err-last.result c.from_residual-in_err-last.ensures.1 in
    rw (p.1, p.2)
    (parts_fault c.args.object (g.O.HasHeap.heap c.args.o.now) (g.O.HasHeap.heap c.word.new.o) _ c.in_err-last.ensures.refused)

pub bond_chain-requires-clause-chains : goal.bond_chain-requires-clause-chains
bond_chain-requires-clause-chains g c =
    let f = rw c.account.ensures.looks.same at c.in_ok-first.ensures.told in
    rw (c.word.ensures.looks.same, c.first_parts.ensures.looks.same, c.account.ensures.looks.same) (headers_there f c.requires.object)

pub returns-in_err-headers-clause-refused : goal.returns-in_err-headers-clause-refused
returns-in_err-headers-clause-refused g c =
    let p = err_from_is_err_and c.from_residual-in_err-headers.result c.from_residual-in_err-headers.ensures.1 in
    let f = rw c.account.ensures.looks.same at c.in_ok-first.ensures.told in
    let s = rw (c.word.ensures.looks.same, c.first_parts.ensures.looks.same, c.account.ensures.looks.same)
    at c.in_err-headers.ensures.refused in
    rw (p.1, p.2) (headers_stop f (g.O.HasHeap.heap c.bond_chain.new.o) _ s)

pub bond_chain-requires-2-clause-chains : goal.bond_chain-requires-2-clause-chains
bond_chain-requires-2-clause-chains g c =
    let f = rw c.account.ensures.looks.same at c.in_ok-first.ensures.told in
    let w = rw (c.first_parts.ensures.looks.same, c.account.ensures.looks.same) at c.in_ok-last.ensures.given in
    let h = rw (c.word.ensures.looks.same, c.first_parts.ensures.looks.same, c.account.ensures.looks.same)
    at c.in_ok-headers.ensures.bonded in
    rw c.either.ensures (trailers_there c.in_ok-last.last c.in_ok-acct.ensures.told f w h c.requires.object)

pub returns-in_err-trailers-clause-refused : goal.returns-in_err-trailers-clause-refused
returns-in_err-trailers-clause-refused g c =
    let p = err_from_is_err_and c.from_residual-in_err-trailers.result c.from_residual-in_err-trailers.ensures.1 in
    let f = rw c.account.ensures.looks.same at c.in_ok-first.ensures.told in
    let w = rw (c.first_parts.ensures.looks.same, c.account.ensures.looks.same) at c.in_ok-last.ensures.given in
    let h = rw (c.word.ensures.looks.same, c.first_parts.ensures.looks.same, c.account.ensures.looks.same)
    at c.in_ok-headers.ensures.bonded in
    rw (p.1, p.2)
    (trailers_stop c.in_ok-last.last c.in_ok-acct.ensures.told f w h (g.O.HasHeap.heap c.bond_chain-2.new.o) _
    (rw c.either.ensures at c.in_err-trailers.ensures.refused))

pub returns-clause-bonded : goal.returns-clause-bonded
returns-clause-bonded g c =
    let f = rw c.account.ensures.looks.same at c.in_ok-first.ensures.told in
    let w = rw (c.first_parts.ensures.looks.same, c.account.ensures.looks.same) at c.in_ok-last.ensures.given in
    let h = rw (c.word.ensures.looks.same, c.first_parts.ensures.looks.same, c.account.ensures.looks.same)
    at c.in_ok-headers.ensures.bonded in
    rw c.either-2.ensures
    (bonds_parts c.in_ok-last.last c.in_ok-acct.ensures.told f w h (rw c.either.ensures at c.in_ok-trailers.ensures.bonded))

pub returns-in_err-acct-clause-works : goal.returns-in_err-acct-clause-works
returns-in_err-acct-clause-works g c =
    let p = err_from_is_err_and c.from_residual.result c.from_residual.ensures.1 in
    λ row k. rw (p.1, p.2) (works_stopped _ (works_more (looks_works c.in_err-acct.ensures.looks) (omega arith)))

pub returns-in_err-first-clause-works : goal.returns-in_err-first-clause-works
returns-in_err-first-clause-works g c =
    let p = err_from_is_err_and c.from_residual-in_err-first.result c.from_residual-in_err-first.ensures.1 in
    λ row k. rw (p.1, p.2)
    (works_stopped _ (works_more (looks_works (looks_looks c.in_ok-acct.ensures.looks c.in_err-first.ensures.looks)) (omega arith)))

pub returns-in_err-last-clause-works : goal.returns-in_err-last-clause-works
returns-in_err-last-clause-works g c =
    let p = err_from_is_err_and c.from_residual-in_err-last.result c.from_residual-in_err-last.ensures.1 in
    λ row k. rw (p.1, p.2)
    (works_stopped _
    (works_more (looks_works (looks_looks (looks_looks c.in_ok-acct.ensures.looks c.in_ok-first.ensures.looks) c.in_err-last.ensures.looks))
    (omega arith)))

pub returns-in_err-headers-clause-works : goal.returns-in_err-headers-clause-works
returns-in_err-headers-clause-works g c =
    let p = err_from_is_err_and c.from_residual-in_err-headers.result c.from_residual-in_err-headers.ensures.1 in
    let f = rw c.account.ensures.looks.same at c.in_ok-first.ensures.told in
    let v = rw (c.word.ensures.looks.same, c.first_parts.ensures.looks.same, c.account.ensures.looks.same)
    at c.in_err-headers.ensures.works in
    let l = looks_looks (looks_looks c.in_ok-acct.ensures.looks c.in_ok-first.ensures.looks) c.in_ok-last.ensures.looks in
    λ row k. let n = lines_of row in
    rw (p.1, p.2) (works_stopped _ (works_more (looks_then l (v [] row.headers (headers_at f k))) (omega (arith, n))))

pub returns-in_err-trailers-clause-works : goal.returns-in_err-trailers-clause-works
returns-in_err-trailers-clause-works g c =
    let p = err_from_is_err_and c.from_residual-in_err-trailers.result c.from_residual-in_err-trailers.ensures.1 in
    let f = rw c.account.ensures.looks.same at c.in_ok-first.ensures.told in
    let w = rw (c.first_parts.ensures.looks.same, c.account.ensures.looks.same) at c.in_ok-last.ensures.given in
    let h = rw (c.word.ensures.looks.same, c.first_parts.ensures.looks.same, c.account.ensures.looks.same)
    at c.in_ok-headers.ensures.bonded in
    let v = rw (c.word.ensures.looks.same, c.first_parts.ensures.looks.same, c.account.ensures.looks.same)
    at c.in_ok-headers.ensures.works in
    let u = rw c.either.ensures at c.in_err-trailers.ensures.works in
    let l = looks_looks (looks_looks c.in_ok-acct.ensures.looks c.in_ok-first.ensures.looks) c.in_ok-last.ensures.looks in
    λ row k. let n = lines_of row in
    rw (p.1, p.2)
    (works_stopped _
    (works_more
    (works_then (looks_then l (v [] row.headers (headers_at f k))) (u _ row.trailers (trailers_at c.in_ok-last.last c.in_ok-acct.ensures.told f w h k)))
    (omega (arith, n))))

pub returns-clause-works : goal.returns-clause-works
returns-clause-works g c =
    let f = rw c.account.ensures.looks.same at c.in_ok-first.ensures.told in
    let w = rw (c.first_parts.ensures.looks.same, c.account.ensures.looks.same) at c.in_ok-last.ensures.given in
    let h = rw (c.word.ensures.looks.same, c.first_parts.ensures.looks.same, c.account.ensures.looks.same)
    at c.in_ok-headers.ensures.bonded in
    let v = rw (c.word.ensures.looks.same, c.first_parts.ensures.looks.same, c.account.ensures.looks.same)
    at c.in_ok-headers.ensures.works in
    let u = rw c.either.ensures at c.in_ok-trailers.ensures.works in
    let l = looks_looks (looks_looks c.in_ok-acct.ensures.looks c.in_ok-first.ensures.looks) c.in_ok-last.ensures.looks in
    λ row k. let n = lines_of row in
    works_ok
    (works_more
    (works_then (looks_then l (v [] row.headers (headers_at f k))) (u _ row.trailers (trailers_at c.in_ok-last.last c.in_ok-acct.ensures.told f w h k)))
    (omega (arith, n)))

pub bond_chain-requires-2-clause-kept : goal.bond_chain-requires-2-clause-kept
bond_chain-requires-2-clause-kept g c =
    let f = rw c.account.ensures.looks.same at c.in_ok-first.ensures.told in
    let v = rw (c.word.ensures.looks.same, c.first_parts.ensures.looks.same, c.account.ensures.looks.same)
    at c.in_ok-headers.ensures.works in
    let q = c.requires.object in (v [] q.row.headers (headers_at f q.keeps)).kept
