use Rattle.std.proofs.Common.{ap, sym, subst₂}
use Rattle.mem_store.specs.Owners.{AllOwnInside}
use Rattle.mem_store.proofs.OwnersLemmas.{OwnInside-empty}
use Rattle.mem_world.proofs.draft_world.DraftWorld.new.Goals as goal

pub invariant_of-result : goal.invariant_of-result
invariant_of-result c =
    subst₂ (AllOwnInside _ _) (sym (ap (λ s. s.begun) c.new.ensures)) (sym (ap (λ s. s.now) c.new.ensures))
    (record { begun = OwnInside-empty _ _; now = OwnInside-empty _ _ })
