use Rattle.law_steps.proofs.QueueLaws.{queues_kept}
use Rattle.law_steps.proofs.queues.queues_kept.Goals as goal

pub returns : goal.returns
returns c = queues_kept
