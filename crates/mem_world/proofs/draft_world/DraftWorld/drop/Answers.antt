use Rattle.std.proofs.Common.{sym, subst₂}
use Rattle.mem_store.specs.Owners.{AllOwnInside}
use Rattle.mem_store.proofs.OwnersLemmas.{OwnInside-remove}
use Rattle.mem_world.proofs.draft_world.DraftWorld.drop.Goals as goal

pub invariant_of-self : goal.invariant_of-self
invariant_of-self c =
    subst₂ (AllOwnInside c.self.inside.owners _) (sym c.put.ensures.begun) (sym c.put.ensures.now)
    (record { begun = c.self.invariant.begun; now = OwnInside-remove _ _ _ c.args.addr c.self.invariant.now })
