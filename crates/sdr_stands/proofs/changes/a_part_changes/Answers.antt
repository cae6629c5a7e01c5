use Rattle.sdr_stands.proofs.ChangeLemmas.{part_becomes}
use Rattle.sdr_stands.proofs.changes.a_part_changes.Goals as goal

pub returns : goal.returns
returns c = part_becomes
