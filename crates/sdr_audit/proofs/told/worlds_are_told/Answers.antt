use Rattle.sdr_audit.proofs.ToldLemmas.{world_is}
use Rattle.sdr_audit.proofs.told.worlds_are_told.Goals as goal

pub returns : goal.returns
returns c bytes w P stands are = world_is bytes w P stands are
