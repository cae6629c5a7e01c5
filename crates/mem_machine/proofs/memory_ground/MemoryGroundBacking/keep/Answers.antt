use Rattle.std.proofs.Common.{◌∙◌, ap, subst, sym}
use Rattle.mem_store.specs.Draft.{Draft}
use Rattle.mem_machine.proofs.MemoryLemmas.{brings_both, brings_kept, keeps_unasked, reached_kept}
use Rattle.mem_machine.specs.Memory.{IsReached, worlds_kept}
use Rattle.mem_machine.proofs.memory_ground.MemoryGroundBacking.keep.Goals as goal

pub returns-clause-kept : goal.returns-clause-kept
returns-clause-kept g c =
    brings_both g.M.Media _ _
    (brings_kept _ _ ((λ i. record { begun = (c.keep.ensures i).begun; now = (c.keep.ensures i).now }) ∙ ap (λ m. worlds_kept m.worlds) c.self.view_is))

pub returns-clause-keeps : goal.returns-clause-keeps
returns-clause-keeps g c = keeps_unasked g.M.Media _ _ (ap (λ m. m.media) c.self.view_is)

pub invariant_of-self : goal.invariant_of-self
invariant_of-self g c =
    subst (λ (d : Draft). IsReached c.self.inside.calls (record { begun = d.begun; now = d.now })) (sym c.keep.ensures)
    (reached_kept c.self.inside.calls (record { begun = c.self.inside.world.begun; now = c.self.inside.world.now }) c.self.invariant)
