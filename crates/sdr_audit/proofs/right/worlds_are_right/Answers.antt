use Rattle.audit_counts.proofs.LawLemmas.{right_not_wrong}
use Rattle.sdr_audit.proofs.RightLemmas.{world_right}
use Rattle.sdr_audit.proofs.right.worlds_are_right.Goals as goal

pub returns-clause-right : goal.returns-clause-right
returns-clause-right c bytes w P stands are = world_right bytes w P stands are

pub returns-clause-not_wrong : goal.returns-clause-not_wrong
returns-clause-not_wrong c bytes w P why place stands are wrong = right_not_wrong bytes why place (world_right bytes w P stands are) wrong
