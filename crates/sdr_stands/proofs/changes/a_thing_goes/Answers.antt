use Rattle.sdr_stands.proofs.ChangeLemmas.{goes}
use Rattle.sdr_stands.proofs.changes.a_thing_goes.Goals as goal

pub returns : goal.returns
returns c = goes
