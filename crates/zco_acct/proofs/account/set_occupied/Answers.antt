-- Each word's line is one of the three.
use Rattle.std.proofs.lemmas.Result.{err_from_is_err_and}
use Rattle.sdr_base.proofs.WithinLemmas.{within_front, within_then}
use Rattle.zco_acct.proofs.account.set_occupied.Goals as goal

pub returns-in_err-set_root-clause-lines : goal.returns-in_err-set_root-clause-lines
returns-in_err-set_root-clause-lines g c =
    let p = err_from_is_err_and c.from_residual.result c.from_residual.ensures.1 in
    rw (p.1, p.2) (within_front _ (within_front _ (rw c.occupancy_word.ensures.word at c.in_err-set_root.ensures.lines)))

pub returns-in_err-set_root-2-clause-lines : goal.returns-in_err-set_root-2-clause-lines
returns-in_err-set_root-2-clause-lines g c =
    let p = err_from_is_err_and c.from_residual-in_err-set_root-2.result c.from_residual-in_err-set_root-2.ensures.1 in
    rw (p.1, p.2)
    (within_front _
    (within_then (rw c.occupancy_word.ensures.word at c.in_ok-set_root.ensures.lines)
    (rw c.occupancy_word-2.ensures.word at c.in_err-set_root-2.ensures.lines)))

pub returns-clause-lines : goal.returns-clause-lines
returns-clause-lines g c =
    within_then
    (within_then (rw c.occupancy_word.ensures.word at c.in_ok-set_root.ensures.lines)
    (rw c.occupancy_word-2.ensures.word at c.in_ok-set_root-2.ensures.lines))
    (rw c.occupancy_word-3.ensures.word at c.set_root-3.ensures.lines)
