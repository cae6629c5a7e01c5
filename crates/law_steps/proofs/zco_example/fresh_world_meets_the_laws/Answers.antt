use Rattle.law_steps.proofs.FreshWorlds.{fresh_barred, fresh_fits, fresh_queues}
use Rattle.law_steps.proofs.zco_example.fresh_world_meets_the_laws.Goals as goal

pub returns-clause-fits : goal.returns-clause-fits
returns-clause-fits c = fresh_fits

pub returns-clause-queues : goal.returns-clause-queues
returns-clause-queues c = fresh_queues

pub returns-clause-barred : goal.returns-clause-barred
returns-clause-barred c = fresh_barred
