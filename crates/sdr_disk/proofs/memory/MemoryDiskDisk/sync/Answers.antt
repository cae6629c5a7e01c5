-- The disk's history has one sync more.
use Rattle.std.proofs.Common.{arith}
use Rattle.sdr_disk.proofs.MemoryDiskLemmas.{sync_durable, sync_moments}
use Rattle.sdr_disk.proofs.memory.MemoryDiskDisk.sync.Goals as goal

pub returns-in-Done-clause-durable : goal.returns-in-Done-clause-durable
returns-in-Done-clause-durable c told = sync_durable _ _ _ c.in-Ok.ensures.ok (grind arith)

pub returns-in-Done-clause-moments : goal.returns-in-Done-clause-moments
returns-in-Done-clause-moments c = sync_moments _ _ _ c.in-Ok.ensures.ok _ _ (grind arith) (grind arith)

pub returns-in-Failed-clause-moments : goal.returns-in-Failed-clause-moments
returns-in-Failed-clause-moments c = sync_moments _ _ _ c.in-Ok.ensures.ok _ _ (grind arith) (grind arith)
