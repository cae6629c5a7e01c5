use Rattle.law_steps.proofs.ZcoExamples.{small_barred, small_fits, small_fresh, small_grows, small_queues, small_valid}
use Rattle.law_steps.proofs.zco_example.small_world_meets_the_laws.Goals as goal

pub returns-clause-valid : goal.returns-clause-valid
returns-clause-valid c = small_valid

pub returns-clause-fits : goal.returns-clause-fits
returns-clause-fits c = small_fits

pub returns-clause-queues : goal.returns-clause-queues
returns-clause-queues c = small_queues

pub returns-clause-barred : goal.returns-clause-barred
returns-clause-barred c = small_barred

pub returns-clause-fresh : goal.returns-clause-fresh
returns-clause-fresh c = small_fresh

pub returns-clause-grows : goal.returns-clause-grows
returns-clause-grows c = small_grows
