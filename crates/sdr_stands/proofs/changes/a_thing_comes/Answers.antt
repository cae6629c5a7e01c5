use Rattle.sdr_stands.proofs.ChangeLemmas.{comes}
use Rattle.sdr_stands.proofs.changes.a_thing_comes.Goals as goal

pub returns : goal.returns
returns c = comes
