-- The disk's history has one write more.
use Rattle.std.proofs.Common.{arith, refl}
use Rattle.sdr_disk.proofs.MemoryDiskLemmas.{write_moments, write_others}
use Rattle.sdr_disk.proofs.memory.MemoryDiskDisk.write_at.Goals as goal

pub returns-in-Done-clause-others : goal.returns-in-Done-clause-others
returns-in-Done-clause-others c =
    write_others _ _ _ _ _ c.in-Ok.ensures.ok (grind arith) c.args.self.now
    (record c.args.self.now { history = c.write.new.self }) (grind arith) refl

pub returns-in-Done-clause-moments : goal.returns-in-Done-clause-moments
returns-in-Done-clause-moments c =
    write_moments _ _ _ _ _ c.in-Ok.ensures.ok (grind arith) _ _ (grind arith) (grind arith)

pub returns-in-Failed-clause-others : goal.returns-in-Failed-clause-others
returns-in-Failed-clause-others c =
    write_others _ _ _ _ _ c.in-Ok.ensures.ok (grind arith) c.args.self.now c.fault-in-Failed.new.self
    (grind arith) (grind arith)

pub returns-in-Failed-clause-moments : goal.returns-in-Failed-clause-moments
returns-in-Failed-clause-moments c =
    write_moments _ _ _ _ _ c.in-Ok.ensures.ok (grind arith) _ _ (grind arith) (grind arith)
