use Rattle.std.proofs.Common.{subst, sym}
use Rattle.sdr_machine.specs.Serving.{Locked}
use Rattle.mem_machine.proofs.RunLemmas.{kept_first}
use Rattle.mem_machine.specs.Memory.{InMemory}
use Rattle.mem_machine.specs.MemoryRun.{IsKept}
use Rattle.mem_machine.proofs.memory_run.MemoryRun.new.Goals as goal

pub invariant_of-result : goal.invariant_of-result
invariant_of-result g c =
    subst (λ (l : Locked (InMemory g.row.M.Denot)). IsKept l.roll) (sym c.in-Ok.ensures.made) (kept_first c.args.daemons.now c.requires.few)
