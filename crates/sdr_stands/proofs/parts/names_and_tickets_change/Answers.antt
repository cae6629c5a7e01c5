use Rattle.sdr_stands.proofs.PartLemmas.{names_part, queue_part}
use Rattle.sdr_stands.proofs.parts.names_and_tickets_change.Goals as goal

pub returns-clause-names : goal.returns-clause-names
returns-clause-names c = names_part

pub returns-clause-tickets : goal.returns-clause-tickets
returns-clause-tickets c = queue_part
