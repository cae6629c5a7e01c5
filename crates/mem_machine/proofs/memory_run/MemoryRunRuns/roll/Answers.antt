use Rattle.std.proofs.Common.{[], refl}
use Rattle.mem_machine.specs.MemoryRun.{machine_of}
use Rattle.mem_machine.proofs.memory_run.MemoryRunRuns.roll.Goals as goal

-- it has come to the core at its machine of which nothing is kept
pub returns-clause-come : goal.returns-clause-come
returns-clause-come g c = record { core = record { machine = machine_of c.args.self.now; log = record { works = []; journal = [] } }; here = refl }
