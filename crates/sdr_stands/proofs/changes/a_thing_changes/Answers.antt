use Rattle.sdr_stands.proofs.ChangeLemmas.{changes}
use Rattle.sdr_stands.proofs.changes.a_thing_changes.Goals as goal

pub returns : goal.returns
returns c = changes
