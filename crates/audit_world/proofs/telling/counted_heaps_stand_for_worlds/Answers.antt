use Rattle.audit_world.proofs.WorldLemmas.{stands_so}
use Rattle.audit_world.proofs.telling.counted_heaps_stand_for_worlds.Goals as goal

pub returns : goal.returns
returns c bytes counted = stands_so bytes counted
