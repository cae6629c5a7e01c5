use Rattle.std.proofs.Common.{Some, arith, ap, cond, ◌∙◌}
use Rattle.std.specs.Cmp.{nat_cmp_total}
use Rattle.std.specs.FinMap.{get, get-insert}
use Rattle.sdr_model.specs.Dry.{next_addr}
use Rattle.mem_store.proofs.OwnersLemmas.{AllOwnInside-noted}
use Rattle.sdr_model.proofs.ThingsLemmas.{at_itself}
use Rattle.mem_world.proofs.draft_world.DraftWorld.mark_inside.Goals as goal

pub invariant_of-self-in_err-push : goal.invariant_of-self-in_err-push
invariant_of-self-in_err-push c =
    AllOwnInside-noted _ _ _ _ (omega arith) _ _ _ c.in_ok-insert.ensures.ok c.self.invariant

pub invariant_of-self-2 : goal.invariant_of-self-2
invariant_of-self-2 c =
    AllOwnInside-noted _ _ _ _ (omega arith) _ _ _ c.in_ok-insert.ensures.ok c.self.invariant

pub returns-clause-noted : goal.returns-clause-noted
returns-clause-noted c =
    let addr = next_addr c.self.inside.taken in
    ap (λ m. get m addr) c.in_ok-insert.ensures.ok
    ∙ get-insert nat_cmp_total c.self.inside.owners addr c.args.owner addr
    ∙ ap (λ b. cond b (Some c.args.owner) (get c.self.inside.owners addr)) (at_itself addr)
