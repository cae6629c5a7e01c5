use Rattle.std.proofs.Common.{subst, sym}
use Rattle.mem_store.specs.Draft.{Draft}
use Rattle.mem_machine.proofs.MemoryLemmas.{reached_empty}
use Rattle.mem_machine.specs.Memory.{IsReached}
use Rattle.mem_machine.proofs.memory_ground.MemoryGround.new.Goals as goal

pub invariant_of-result : goal.invariant_of-result
invariant_of-result g c =
    subst (λ (d : Draft). IsReached 0 (record { begun = d.begun; now = d.now })) (sym c.new.ensures) reached_empty
