-- The account is charged, the object is made, and its extents name what is asked for.
use Rattle.std.proofs.Common.{arith, ap}
use Rattle.std.proofs.Common.{length}
use Rattle.std.proofs.lemmas.Result.{err_from_is_err_and}
use Rattle.sdr_base.proofs.WorksLemmas.{looks_then, looks_works, works_more, works_ok, works_stopped, works_then}
use Rattle.zco_obj.specs.declared.extent.ExtentPiece.{ExtentPiece}
use Rattle.zco_obj.proofs.ChargeLemmas.{some_queue}
use Rattle.zco_part.proofs.AskedLemmas.{some_extents, some_kept, with_queue}
use Rattle.zco_part.proofs.CloneLemmas.{clones, copy_then, not_copied, not_made, some_copy, spare_enough, these, uncharged}
use Rattle.zco_part.proofs.cloning.make_clone.Goals as goal

pub account-requires-clause-object : goal.account-requires-clause-object
account-requires-clause-object g c = some_kept c.requires.object

pub returns-in_err-acct-clause-works : goal.returns-in_err-acct-clause-works
returns-in_err-acct-clause-works g c =
    let p = err_from_is_err_and c.from_residual.result c.from_residual.ensures.1 in
    λ row tickets sources k. rw (p.1, p.2) (works_stopped _ (works_more (looks_works c.in_err-acct.ensures.looks) (omega arith)))

pub see_asked-requires-clause-object : goal.see_asked-requires-clause-object
see_asked-requires-clause-object g c = rw c.account.ensures.looks.same c.requires.object

pub see_asked-requires-clause-has : goal.see_asked-requires-clause-has
see_asked-requires-clause-has g c = rw c.account.ensures.looks.same c.requires.has

pub returns-in_err-seen-clause-works : goal.returns-in_err-seen-clause-works
returns-in_err-seen-clause-works g c =
    let p = err_from_is_err_and c.from_residual-in_err-seen.result c.from_residual-in_err-seen.ensures.1 in
    λ row tickets sources k.
    rw (p.1, p.2)
    (works_stopped _ (works_more (looks_then c.in_ok-acct.ensures.looks (looks_works c.in_err-seen.ensures.looks)) (omega arith)))

pub charge_clone-requires-clause-queue : goal.charge_clone-requires-clause-queue
charge_clone-requires-clause-queue g c =
    rw (c.see_asked.ensures.looks.same, c.account.ensures.looks.same) (some_queue (with_queue c.requires.object) c.in_ok-acct.ensures.told)

pub charge_clone-requires-clause-chain : goal.charge_clone-requires-clause-chain
charge_clone-requires-clause-chain g c =
    let v = rw c.account.ensures.looks.same at c.in_ok-seen.ensures.seen in
    rw (c.see_asked.ensures.looks.same, c.account.ensures.looks.same) (some_extents c.in_ok-seen.seen c.requires.object v)

pub returns-in_err-charge_clone-clause-refused : goal.returns-in_err-charge_clone-clause-refused
returns-in_err-charge_clone-clause-refused g c =
    let p = err_from_is_err_and c.from_residual-in_err-charge_clone.result c.from_residual-in_err-charge_clone.ensures.1 in
    let v = rw c.account.ensures.looks.same at c.in_ok-seen.ensures.seen in
    rw (p.1, p.2)
    (uncharged c.args.ticket c.in_ok-seen.seen c.in_ok-acct.ensures.told v c.requires.has c.requires.object (g.O.HasHeap.heap c.charge_clone.new.o) _
    (rw (c.see_asked.ensures.looks.same, c.account.ensures.looks.same) at c.in_err-charge_clone.ensures.refused))

pub returns-in_err-charge_clone-clause-works : goal.returns-in_err-charge_clone-clause-works
returns-in_err-charge_clone-clause-works g c =
    let p = err_from_is_err_and c.from_residual-in_err-charge_clone.result c.from_residual-in_err-charge_clone.ensures.1 in
    λ row tickets sources k.
    rw (p.1, p.2)
    (works_stopped _
    (works_more (looks_then c.in_ok-acct.ensures.looks (looks_then c.in_ok-seen.ensures.looks c.in_err-charge_clone.ensures.works)) (omega arith)))

pub make_object-requires-clause-spare : goal.make_object-requires-clause-spare
make_object-requires-clause-spare g c =
    let v = rw c.account.ensures.looks.same at c.in_ok-seen.ensures.seen in
    let d = rw (c.see_asked.ensures.looks.same, c.account.ensures.looks.same) at c.in_ok-charge_clone.ensures.charged in
    spare_enough c.args.ticket c.in_ok-seen.seen c.in_ok-acct.ensures.told v c.requires.has d c.requires.object

pub returns-in_err-clone-clause-refused : goal.returns-in_err-clone-clause-refused
returns-in_err-clone-clause-refused g c =
    let p = err_from_is_err_and c.from_residual-in_err-clone.result c.from_residual-in_err-clone.ensures.1 in
    let v = rw c.account.ensures.looks.same at c.in_ok-seen.ensures.seen in
    let d = rw (c.see_asked.ensures.looks.same, c.account.ensures.looks.same) at c.in_ok-charge_clone.ensures.charged in
    rw (p.1, p.2)
    (not_made c.args.ticket c.in_ok-seen.seen c.in_ok-acct.ensures.told v c.requires.has d c.requires.object (g.O.HasHeap.heap c.make_object.new.o) _
    c.in_err-clone.ensures.refused)

pub returns-in_err-clone-clause-works : goal.returns-in_err-clone-clause-works
returns-in_err-clone-clause-works g c =
    let p = err_from_is_err_and c.from_residual-in_err-clone.result c.from_residual-in_err-clone.ensures.1 in
    λ row tickets sources k.
    rw (p.1, p.2)
    (works_stopped _
    (works_more (looks_then c.in_ok-acct.ensures.looks (looks_then c.in_ok-seen.ensures.looks
    (works_then c.in_ok-charge_clone.ensures.works c.in_err-clone.ensures.works))) (omega arith)))

pub copy_chain-requires-clause-chain : goal.copy_chain-requires-clause-chain
copy_chain-requires-clause-chain g c =
    let v = rw c.account.ensures.looks.same at c.in_ok-seen.ensures.seen in
    let d = rw (c.see_asked.ensures.looks.same, c.account.ensures.looks.same) at c.in_ok-charge_clone.ensures.charged in
    some_copy c.args.ticket c.in_ok-seen.seen c.in_ok-acct.ensures.told v c.requires.has d c.in_ok-clone.ensures.made c.requires.object

pub returns-in_err-copy_chain-clause-refused : goal.returns-in_err-copy_chain-clause-refused
returns-in_err-copy_chain-clause-refused g c =
    let p = err_from_is_err_and c.from_residual-in_err-copy_chain.result c.from_residual-in_err-copy_chain.ensures.1 in
    let v = rw c.account.ensures.looks.same at c.in_ok-seen.ensures.seen in
    let d = rw (c.see_asked.ensures.looks.same, c.account.ensures.looks.same) at c.in_ok-charge_clone.ensures.charged in
    rw (p.1, p.2)
    (not_copied c.args.ticket c.in_ok-seen.seen c.in_ok-acct.ensures.told v c.requires.has d c.in_ok-clone.ensures.made c.requires.object
    (g.O.HasHeap.heap c.copy_chain.new.o) _ c.in_err-copy_chain.ensures.refused)

pub returns-in_err-copy_chain-clause-works : goal.returns-in_err-copy_chain-clause-works
returns-in_err-copy_chain-clause-works g c =
    let p = err_from_is_err_and c.from_residual-in_err-copy_chain.result c.from_residual-in_err-copy_chain.ensures.1 in
    let t = c.in_ok-acct.ensures.told in
    let v = rw c.account.ensures.looks.same at c.in_ok-seen.ensures.seen in
    let d = rw (c.see_asked.ensures.looks.same, c.account.ensures.looks.same) at c.in_ok-charge_clone.ensures.charged in
    λ row tickets sources k.
    let n = ap (length {A = ExtentPiece}) (these c.args.ticket c.in_ok-seen.seen t v c.requires.has k) in
    rw (p.1, p.2)
    (works_stopped _
    (works_more (looks_then c.in_ok-acct.ensures.looks (looks_then c.in_ok-seen.ensures.looks
    (works_then (works_then c.in_ok-charge_clone.ensures.works c.in_ok-clone.ensures.works)
    (c.in_err-copy_chain.ensures.works row.account row.extents sources
    (copy_then c.args.ticket c.in_ok-seen.seen t v c.requires.has d c.in_ok-clone.ensures.made k))))) (omega (arith, n))))

pub returns-clause-cloned : goal.returns-clause-cloned
returns-clause-cloned g c =
    let v = rw c.account.ensures.looks.same at c.in_ok-seen.ensures.seen in
    let d = rw (c.see_asked.ensures.looks.same, c.account.ensures.looks.same) at c.in_ok-charge_clone.ensures.charged in
    clones c.args.ticket c.in_ok-seen.seen c.in_ok-acct.ensures.told v c.requires.has d c.in_ok-clone.ensures.made c.in_ok-copy_chain.ensures.copied
    c.requires.object

pub returns-clause-works : goal.returns-clause-works
returns-clause-works g c =
    let t = c.in_ok-acct.ensures.told in
    let v = rw c.account.ensures.looks.same at c.in_ok-seen.ensures.seen in
    let d = rw (c.see_asked.ensures.looks.same, c.account.ensures.looks.same) at c.in_ok-charge_clone.ensures.charged in
    λ row tickets sources k.
    let n = ap (length {A = ExtentPiece}) (these c.args.ticket c.in_ok-seen.seen t v c.requires.has k) in
    works_ok
    (works_more (looks_then c.in_ok-acct.ensures.looks (looks_then c.in_ok-seen.ensures.looks
    (works_then (works_then c.in_ok-charge_clone.ensures.works c.in_ok-clone.ensures.works)
    (c.in_ok-copy_chain.ensures.works row.account row.extents sources
    (copy_then c.args.ticket c.in_ok-seen.seen t v c.requires.has d c.in_ok-clone.ensures.made k))))) (omega (arith, n)))
