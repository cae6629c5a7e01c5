use Rattle.sdr_machine.proofs.GroundLemmas.{brings_also, brings_same, brings_then}
use Rattle.sdr_machine.proofs.LockLemmas.{if_ok}
use Rattle.sdr_machine.proofs.SeeingLemmas.{finds_first, finds_none, finds_others, first_of, none_of}
use Rattle.sdr_machine.proofs.seeing.+are_stuck.Goals as goal

pub returns-in-empty-clause-found : goal.returns-in-empty-clause-found
returns-in-empty-clause-found g t c = brings_same (finds_none c.args.daemons.now (none_of _ c.in-empty.len_below))

pub returns-in-Ok-true-clause-found : goal.returns-in-Ok-true-clause-found
returns-in-Ok-true-clause-found g t c =
    if_ok c.are_stuck.result _ _
    (λ stuck found. brings_then (finds_others c.args.daemons.now _ _ _ stuck c.in-Ok-true.field-0-test (first_of _ _ c.in-len1-up.len_at_least)) c.in-Ok-true.ensures.found found)
    c.are_stuck.ensures.found

pub returns-in-Ok-false-clause-found : goal.returns-in-Ok-false-clause-found
returns-in-Ok-false-clause-found g t c =
    brings_also (finds_first c.args.daemons.now _ _ _ c.in-Ok-false.field-0-test (first_of _ _ c.in-len1-up.len_at_least)) c.in-Ok-false.ensures.found
