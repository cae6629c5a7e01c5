use Rattle.std.proofs.Common.{ap, sym, ◌∙◌}
use Rattle.std.specs.FinMap.{entries, get}
use Rattle.std.specs.Option.{option_and_then, option_copied}
use Rattle.sdr_model.specs.Things.{inner_among}
use Rattle.mem_store.proofs.SpotLemmas.{inner_among-owner, inner_at}
use Rattle.mem_world.proofs.draft_world.DraftWorld.inner_block.Goals as goal

pub returns-in_err-owner : goal.returns-in_err-owner
returns-in_err-owner c =
    c.from_residual.ensures
    ∙ ap (option_and_then (λ owner. inner_at c.args.addr (get c.self.inside.things.now owner)))
    (sym c.in_err-owner.was ∙ c.get.ensures)
    ∙ sym (inner_among-owner _ _ c.args.addr _ c.self.invariant.now)
    ∙ ap (λ d. inner_among c.args.addr (entries d.now.things)) c.self.view_is

pub returns-in_err-thing : goal.returns-in_err-thing
returns-in_err-thing c =
    c.from_residual-in_err-thing.ensures
    ∙ ap (inner_at c.args.addr) (sym (ap option_copied c.in_err-thing.was) ∙ c.get-2.ensures)
    ∙ ap (option_and_then (λ owner. inner_at c.args.addr (get c.self.inside.things.now owner)))
    (sym c.in_ok-owner.was ∙ c.get.ensures)
    ∙ sym (inner_among-owner _ _ c.args.addr _ c.self.invariant.now)
    ∙ ap (λ d. inner_among c.args.addr (entries d.now.things)) c.self.view_is

pub returns : goal.returns
returns c =
    c.inner_block.ensures
    ∙ ap (inner_at c.args.addr) (sym (ap option_copied c.in_ok-thing.was) ∙ c.get-2.ensures)
    ∙ ap (option_and_then (λ owner. inner_at c.args.addr (get c.self.inside.things.now owner)))
    (sym c.in_ok-owner.was ∙ c.get.ensures)
    ∙ sym (inner_among-owner _ _ c.args.addr _ c.self.invariant.now)
    ∙ ap (λ d. inner_among c.args.addr (entries d.now.things)) c.self.view_is
