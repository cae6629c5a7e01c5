use Rattle.sdr_stands.proofs.TiesLemmas.{same_ties}
use Rattle.sdr_stands.proofs.parts.alike_things_tie_alike.Goals as goal

pub returns : goal.returns
returns c = same_ties
