-- The clones don't become one object.
use Rattle.std.proofs.Common.{List, ap, ◌∙◌, sym, subst}
use Rattle.std.proofs.lemmas.Result.{err_from_is_err_and}
use Rattle.sdr_base.specs.Objects.{Heap}
use Rattle.sdr_base.proofs.WorksLemmas.{looks_then, works_stopped}
use Rattle.zco_join.specs.Joining.{KeepsToJoin}
use Rattle.zco_join.specs.declared.filled.Filled.{Filled}
use Rattle.zco_pieces.specs.Places.{Rebuilt}
use Rattle.zco_pieces.proofs.rebuild.Rebuild.finish.Goals as goal

pub returns-in_err-object-clause-works : goal.returns-in_err-object-clause-works
returns-in_err-object-clause-works g c =
    let p = err_from_is_err_and c.from_residual-in_err-object.result c.from_residual-in_err-object.ensures.1 in
    λ t k.
    let kept = subst (λ (h : Heap). KeepsToJoin h c.args.acct c.as_slice-2.result.now t) (sym c.in_ok-check_failed.ensures.looks.same)
    (subst (λ (ps : List Filled). KeepsToJoin (g.O.HasHeap.heap c.args.o.now) c.args.acct ps t)
    (sym (c.as_slice-2.ensures ∙ ap (λ (r : Rebuilt). r.parts) c.self.view_is)) k) in
    rw (p.1, p.2) (works_stopped _ (looks_then c.in_ok-check_failed.ensures.looks (c.in_err-object.ensures.works t kept)))
