use Rattle.std.proofs.Common.{◌≡◌, None, subst}
use Rattle.mem_machine.specs.MemoryRun.{MemoryRun}
use Rattle.mem_machine.proofs.memory_run.MemoryRun.never_fails.Goals as goal

pub returns : goal.returns
returns g c = subst (λ (k : MemoryRun g.row.M.Denot). k.roll.failed ≡ None) c.self.view_is c.self.invariant.sound
