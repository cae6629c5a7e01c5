-- What waits is what stays.
use Rattle.std.proofs.Common.{[]}
use Rattle.bp_queue.proofs.RunLemmas.{run_leaves}
use Rattle.bp_queue.proofs.laws.queues_keep.Goals as goal

pub returns-clause-new : goal.returns-clause-new
returns-clause-new c = λ calls s run. run_leaves calls [] s run

pub returns-clause-all : goal.returns-clause-all
returns-clause-all c = λ calls before s run. run_leaves calls before s run
