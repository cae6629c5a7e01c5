use Rattle.std.proofs.Common.{◌≡◌, ap, arith, subst}
use Rattle.std.specs.Prelude.{IfSome}
use Rattle.sdr_base.specs.declared.account.Acct.TheVariants as accts
use Rattle.sdr_model.specs.Zco.{count_of}
use Rattle.mem_store.specs.Charged.{world_of}
use Rattle.mem_world.proofs.SumBounds.{uses-small}
use Rattle.mem_world.proofs.draft_world.DraftWorld.uses.Goals as goal

pub overflow_add-result : goal.overflow_add-result
overflow_add-result c =
    let source = c.args.source in
    let w = c.args.self.now.now in
    let kept = world_of c.self.inside.things.now in
    let inbound : c.in-Some-Some.inbound ≡ count_of kept source accts.Inbound =
    subst (λ o. IfSome o (λ n. n ≡ count_of kept source accts.Inbound)) c.in-Some-Some.is-0 c.uses-inbound.ensures in
    let outbound : c.in-Some-Some.outbound ≡ count_of kept source accts.Outbound =
    subst (λ o. IfSome o (λ n. n ≡ count_of kept source accts.Outbound)) c.in-Some-Some.is-1 c.uses-outbound.ensures in
    let in_world : count_of kept source accts.Inbound ≡ count_of w source accts.Inbound =
    ap (λ d. count_of d.now source accts.Inbound) c.self.view_is in
    let out_world : count_of kept source accts.Outbound ≡ count_of w source accts.Outbound =
    ap (λ d. count_of d.now source accts.Outbound) c.self.view_is in
    omega (arith, inbound, outbound, in_world, out_world, uses-small w c.requires.bound source)
