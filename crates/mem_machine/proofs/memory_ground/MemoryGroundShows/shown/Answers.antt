use Rattle.std.proofs.Common.{◌∙◌, ap, sym}
use Rattle.sdr_machine.specs.Ground.{State}
use Rattle.mem_machine.proofs.memory_ground.MemoryGroundShows.shown.Goals as goal

pub returns : goal.returns
returns g c v at = c.shown.ensures ∙ sym (ap (λ (s : State). s.world.shown) at.now)
