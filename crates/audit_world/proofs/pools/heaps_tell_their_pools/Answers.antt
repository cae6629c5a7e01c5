-- The pools are told.
use Rattle.audit_world.proofs.ToldPoolsLemmas.{pools_are}
use Rattle.audit_world.proofs.pools.heaps_tell_their_pools.Goals as goal

pub returns : goal.returns
returns c bytes P keeps = pools_are bytes P keeps
