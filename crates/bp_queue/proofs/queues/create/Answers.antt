-- Four lists are made, one after another.
use Rattle.std.proofs.Common.{[], ◌∷◌}
use Rattle.std.proofs.lemmas.Result.{err_from_is_err_and}
use Rattle.bp_queue.proofs.LackLemmas.{first_lacks, then_lacks}
use Rattle.bp_queue.proofs.MadeLemmas.{creates}
use Rattle.bp_queue.proofs.queues.create.Goals as goal

pub returns-in_err-bulk-clause-refused : goal.returns-in_err-bulk-clause-refused
returns-in_err-bulk-clause-refused g c =
    let p = err_from_is_err_and c.from_residual.result c.from_residual.ensures.1 in
    rw (p.1, p.2) (first_lacks 32 (32 ∷ 32 ∷ 32 ∷ []) _ _ _ c.in_err-bulk.ensures.refused)

pub returns-in_err-normal-clause-refused : goal.returns-in_err-normal-clause-refused
returns-in_err-normal-clause-refused g c =
    let p = err_from_is_err_and c.from_residual-in_err-normal.result c.from_residual-in_err-normal.ensures.1 in
    rw (p.1, p.2)
    (then_lacks (32 ∷ 32 ∷ 32 ∷ []) _ _ c.in_ok-bulk.ensures.made.made (first_lacks 32 (32 ∷ 32 ∷ []) _ _ _ c.in_err-normal.ensures.refused))

pub returns-in_err-urgent-clause-refused : goal.returns-in_err-urgent-clause-refused
returns-in_err-urgent-clause-refused g c =
    let p = err_from_is_err_and c.from_residual-in_err-urgent.result c.from_residual-in_err-urgent.ensures.1 in
    rw (p.1, p.2)
    (then_lacks (32 ∷ 32 ∷ 32 ∷ []) _ _ c.in_ok-bulk.ensures.made.made
    (then_lacks (32 ∷ 32 ∷ []) _ _ c.in_ok-normal.ensures.made.made (first_lacks 32 (32 ∷ []) _ _ _ c.in_err-urgent.ensures.refused)))

pub returns-in_err-line-clause-refused : goal.returns-in_err-line-clause-refused
returns-in_err-line-clause-refused g c =
    let p = err_from_is_err_and c.from_residual-in_err-line.result c.from_residual-in_err-line.ensures.1 in
    rw (p.1, p.2)
    (then_lacks (32 ∷ 32 ∷ 32 ∷ []) _ _ c.in_ok-bulk.ensures.made.made
    (then_lacks (32 ∷ 32 ∷ []) _ _ c.in_ok-normal.ensures.made.made
    (then_lacks (32 ∷ []) _ _ c.in_ok-urgent.ensures.made.made (first_lacks 32 [] _ _ _ c.in_err-line.ensures.refused))))

pub returns-clause-created : goal.returns-clause-created
returns-clause-created g c =
    creates _ _ _ _ _ _ (rw (c.from.ensures, c.number.ensures) at c.in_ok-bulk.ensures.made)
    (rw (c.from-2.ensures, c.number-2.ensures) at c.in_ok-normal.ensures.made)
    (rw (c.from-3.ensures, c.number-3.ensures) at c.in_ok-urgent.ensures.made) c.in_ok-line.ensures.made
