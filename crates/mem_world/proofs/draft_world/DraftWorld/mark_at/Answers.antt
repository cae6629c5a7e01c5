use Rattle.std.proofs.Common.{Some, arith, ap, cond, ◌∙◌}
use Rattle.std.specs.Cmp.{nat_cmp_total}
use Rattle.std.specs.FinMap.{get, get-insert}
use Rattle.mem_store.specs.Draft.{Draft}
use Rattle.mem_store.proofs.BlocksLemmas.{noted_other}
use Rattle.mem_store.proofs.OwnersLemmas.{AllOwnInside-noted}
use Rattle.sdr_model.proofs.ThingsLemmas.{at_itself}
use Rattle.mem_world.proofs.draft_world.DraftWorld.mark_at.Goals as goal

pub invariant_of-self-in_err-push : goal.invariant_of-self-in_err-push
invariant_of-self-in_err-push c =
    AllOwnInside-noted _ _ _ _ (omega (arith, c.requires.new, ap (λ (d : Draft). d.now.taken) c.self.view_is)) _ _ _
    c.in_ok-insert.ensures.ok c.self.invariant

pub invariant_of-self-2 : goal.invariant_of-self-2
invariant_of-self-2 c =
    AllOwnInside-noted _ _ _ _ (omega (arith, c.requires.new, ap (λ (d : Draft). d.now.taken) c.self.view_is)) _ _ _
    c.in_ok-insert.ensures.ok c.self.invariant

pub returns-clause-owner : goal.returns-clause-owner
returns-clause-owner c =
    ap (λ m. get m c.args.addr) c.in_ok-insert.ensures.ok
    ∙ get-insert nat_cmp_total c.self.inside.owners c.args.addr c.args.owner c.args.addr
    ∙ ap (λ b. cond b (Some c.args.owner) (get c.self.inside.owners c.args.addr)) (at_itself c.args.addr)

pub returns-in_err-push-clause-others : goal.returns-in_err-push-clause-others
returns-in_err-push-clause-others c = λ other of lower is.
    ap (λ m. get m other) c.in_ok-insert.ensures.ok
    ∙ noted_other c.self.inside.owners c.args.addr c.args.owner other of lower
    (ap (λ (d : Draft). get d.owners other) c.self.view_is ∙ is)

pub returns-clause-others : goal.returns-clause-others
returns-clause-others c = λ other of lower is.
    ap (λ m. get m other) c.in_ok-insert.ensures.ok
    ∙ noted_other c.self.inside.owners c.args.addr c.args.owner other of lower
    (ap (λ (d : Draft). get d.owners other) c.self.view_is ∙ is)
