use Rattle.std.proofs.Common.{refl}
use Rattle.sdr_stands.proofs.example.control_words_stand_so.Goals as goal

pub returns-clause-pools : goal.returns-clause-pools
returns-clause-pools c = refl

pub returns-clause-lists : goal.returns-clause-lists
returns-clause-lists c = refl

pub returns-clause-world : goal.returns-clause-world
returns-clause-world c = refl
