use Rattle.sdr_audit.proofs.LawLemmas.{right_not_wrong}
use Rattle.sdr_audit.proofs.laws.right_regions_are_not_wrong.Goals as goal

pub returns : goal.returns
returns c bytes why place right wrong = right_not_wrong bytes why place right wrong
