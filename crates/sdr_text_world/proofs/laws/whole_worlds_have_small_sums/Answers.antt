use Rattle.sdr_text_world.proofs.SmallLemmas.{small_sums}
use Rattle.sdr_text_world.proofs.laws.whole_worlds_have_small_sums.Goals as goal

pub returns : goal.returns
returns c = small_sums
