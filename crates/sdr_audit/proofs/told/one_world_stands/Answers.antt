use Rattle.std.proofs.Common.{sym, ◌∙◌}
use Rattle.sdr_audit.proofs.ToldLemmas.{world_is}
use Rattle.sdr_audit.proofs.told.one_world_stands.Goals as goal

pub returns : goal.returns
returns c bytes w other P Q are stands also = sym (world_is bytes w P stands are) ∙ world_is bytes other Q also are
