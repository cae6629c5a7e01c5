use Rattle.sdr_log.proofs.EndingLemmas.{through_each, through_keeps, through_put}
use Rattle.sdr_log.proofs.spilling.put_through.Goals as goal

pub returns-in_err-put_lines-clause-any_moment : goal.returns-in_err-put_lines-clause-any_moment
returns-in_err-put_lines-clause-any_moment g c told begun place records k named =
    through_each _ _ _ _ _ _ k _ _ _ _ (c.put_lines.ensures.any_moment told (through_put _ _ _ _ _ _ k _ named))

pub returns-clause-through : goal.returns-clause-through
returns-clause-through g c told begun place records k named =
    through_keeps _ _ _ _ _ _ k _ _ _ (c.in_ok-put_lines.ensures.puts told (through_put _ _ _ _ _ _ k _ named))

pub returns-clause-any_moment : goal.returns-clause-any_moment
returns-clause-any_moment g c told begun place records k named =
    through_each _ _ _ _ _ _ k _ _ _ _ (c.put_lines.ensures.any_moment told (through_put _ _ _ _ _ _ k _ named))
