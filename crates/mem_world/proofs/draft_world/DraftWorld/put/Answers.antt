use Rattle.std.proofs.Common.{sym, subst, subst₂}
use Rattle.mem_store.specs.Owners.{AllOwnInside, MayPut}
use Rattle.mem_store.proofs.OwnersLemmas.{OwnInside-insert}
use Rattle.mem_world.proofs.draft_world.DraftWorld.put.Goals as goal

pub invariant_of-self : goal.invariant_of-self
invariant_of-self c =
    subst₂ (AllOwnInside c.self.inside.owners _) (sym c.put.ensures.begun) (sym c.put.ensures.now)
    (record {
      begun = c.self.invariant.begun;
      now = OwnInside-insert _ _ _ c.args.addr c.self.invariant.now c.args.thing
          (subst (λ d. MayPut d c.args.addr c.args.thing) (sym c.self.view_is) c.requires.may_put);
    })
