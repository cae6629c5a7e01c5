use Rattle.audit_world.proofs.WorldLemmas.{stands_whole}
use Rattle.audit_world.proofs.telling.passing_regions_stand_for_worlds.Goals as goal

pub returns : goal.returns
returns c bytes region are sound right = stands_whole bytes region are sound right
