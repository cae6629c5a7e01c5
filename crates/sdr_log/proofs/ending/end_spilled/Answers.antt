use Rattle.sdr_log.proofs.EndingLemmas.{closes_ends, closing_each, keeps_open}
use Rattle.sdr_log.proofs.ending.end_spilled.Goals as goal

pub returns-in_err-close-clause-any_moment : goal.returns-in_err-close-clause-any_moment
returns-in_err-close-clause-any_moment g c told begun place records k some =
    closing_each _ _ _ _ _ _ k _ _ _ _ (c.close.ensures.any_moment told (keeps_open _ _ _ _ _ _ k some))

pub returns-clause-ends : goal.returns-clause-ends
returns-clause-ends g c told begun place records k some =
    closes_ends _ _ _ _ _ _ k _ _ (c.in_ok-close.ensures.closes told (keeps_open _ _ _ _ _ _ k some))

pub returns-clause-any_moment : goal.returns-clause-any_moment
returns-clause-any_moment g c told begun place records k some =
    closing_each _ _ _ _ _ _ k _ _ _ _ (c.close.ensures.any_moment told (keeps_open _ _ _ _ _ _ k some))
