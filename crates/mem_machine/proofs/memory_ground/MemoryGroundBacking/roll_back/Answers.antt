use Rattle.std.proofs.Common.{◌∙◌, ap, subst, sym}
use Rattle.mem_store.specs.Draft.{Draft}
use Rattle.mem_machine.proofs.MemoryLemmas.{brings_both, brings_put_back, keeps_unasked, reached_back}
use Rattle.mem_machine.specs.Memory.{IsReached, worlds_back}
use Rattle.mem_machine.proofs.memory_ground.MemoryGroundBacking.roll_back.Goals as goal

pub returns-clause-put_back : goal.returns-clause-put_back
returns-clause-put_back g c =
    brings_both g.M.Media _ _
    (brings_put_back _ _ ((λ i. record { begun = (c.roll_back.ensures i).begun; now = (c.roll_back.ensures i).now }) ∙ ap (λ m. worlds_back m.worlds) c.self.view_is))

pub returns-clause-keeps : goal.returns-clause-keeps
returns-clause-keeps g c = keeps_unasked g.M.Media _ _ (ap (λ m. m.media) c.self.view_is)

pub invariant_of-self : goal.invariant_of-self
invariant_of-self g c =
    subst (λ (d : Draft). IsReached c.self.inside.calls (record { begun = d.begun; now = d.now })) (sym c.roll_back.ensures)
    (reached_back c.self.inside.calls (record { begun = c.self.inside.world.begun; now = c.self.inside.world.now }) c.self.invariant)
