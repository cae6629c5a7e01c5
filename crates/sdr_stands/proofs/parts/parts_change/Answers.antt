use Rattle.sdr_base.proofs.StandingLemmas.{stands_swapped, stands_swapped_two}
use Rattle.sdr_stands.proofs.parts.parts_change.Goals as goal

pub returns-clause-one : goal.returns-clause-one
returns-clause-one c = λ old new es es' part part' s w changes. stands_swapped s w changes

pub returns-clause-two : goal.returns-clause-two
returns-clause-two c = λ old new xs xs' ys ys' p p' q q' s u v changes. stands_swapped_two s u v changes
