use Rattle.std.proofs.Common.{ap, sym, ◌∙◌, refl, subst, subst₂}
use Rattle.std.specs.FinMap.{entries, get}
use Rattle.std.specs.Option.{option_and_then, option_copied}
use Rattle.std.specs.Prelude.{IfSome}
use Rattle.mem_store.specs.Owners.{MayHave}
use Rattle.sdr_model.specs.Things.{SpotIs, spot_among}
use Rattle.mem_store.proofs.SpotLemmas.{spot_among-owner, spot_found, spot_in}
use Rattle.mem_world.proofs.draft_world.DraftWorld.spot.Goals as goal

pub returns-in_err-owner-clause-is : goal.returns-in_err-owner-clause-is
returns-in_err-owner-clause-is c =
    subst₂ SpotIs (sym c.from_residual.ensures)
    (ap (option_and_then (λ owner. spot_in c.args.element owner (get c.self.inside.things.now owner)))
    (sym c.in_err-owner.was ∙ c.get.ensures)
    ∙ sym (spot_among-owner _ _ c.args.element _ c.self.invariant.now)
    ∙ ap (λ d. spot_among c.args.element (entries d.now.things)) c.self.view_is)
    refl

pub returns-in_err-thing-clause-is : goal.returns-in_err-thing-clause-is
returns-in_err-thing-clause-is c =
    subst₂ SpotIs (sym c.from_residual-in_err-thing.ensures)
    (ap (spot_in c.args.element c.in_ok-owner.owner) (sym (ap option_copied c.in_err-thing.was) ∙ c.get-2.ensures)
    ∙ ap (option_and_then (λ owner. spot_in c.args.element owner (get c.self.inside.things.now owner)))
    (sym c.in_ok-owner.was ∙ c.get.ensures)
    ∙ sym (spot_among-owner _ _ c.args.element _ c.self.invariant.now)
    ∙ ap (λ d. spot_among c.args.element (entries d.now.things)) c.self.view_is)
    refl

pub returns-clause-is : goal.returns-clause-is
returns-clause-is c =
    subst (SpotIs c.spot.result)
    (ap (spot_in c.args.element c.in_ok-owner.owner) (sym (ap option_copied c.in_ok-thing.was) ∙ c.get-2.ensures)
    ∙ ap (option_and_then (λ owner. spot_in c.args.element owner (get c.self.inside.things.now owner)))
    (sym c.in_ok-owner.was ∙ c.get.ensures)
    ∙ sym (spot_among-owner _ _ c.args.element _ c.self.invariant.now)
    ∙ ap (λ d. spot_among c.args.element (entries d.now.things)) c.self.view_is)
    c.spot.ensures.is

pub returns-clause-may_have : goal.returns-clause-may_have
returns-clause-may_have c =
    let there = sym c.get-2.ensures ∙ ap option_copied c.in_ok-thing.was in
    subst (λ d. IfSome c.spot.result (λ s. MayHave d s.list c.args.element)) c.self.view_is
    (spot_found _ _ c.in_ok-owner.owner c.args.element c.in_ok-thing.thing.now c.spot.result
    (c.self.invariant.now.each c.in_ok-owner.owner c.in_ok-thing.thing.now there) c.spot.ensures.is)
