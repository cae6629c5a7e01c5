use Rattle.sdr_model.specs.World.{thing_at}
use Rattle.sdr_stands.proofs.RootsLemmas.{same_roots}
use Rattle.sdr_stands.proofs.TiesLemmas.{same_ties, untied_alike}
use Rattle.sdr_stands.proofs.parts.untied_things_stay_apart.Goals as goal

pub returns-clause-ties : goal.returns-clause-ties
returns-clause-ties c = λ w addr now was is. same_ties w addr now (untied_alike (thing_at w addr) now was is)

pub returns-clause-roots : goal.returns-clause-roots
returns-clause-roots c = same_roots
