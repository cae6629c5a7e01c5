use Rattle.std.proofs.Common.{Some, ap, ◌∙◌}
use Rattle.std.proofs.lemmas.Result.{on_ok_weaker}
use Rattle.std.specs.FinMap.{insert}
use Rattle.sdr_model.specs.Steps.{with_thing}
use Rattle.sdr_model.specs.Things.{Things}
use Rattle.sdr_model.specs.World.{World}
use Rattle.mem_world.specs.contracts.draft_world.DraftWorld.{the_view}
use Rattle.sdr_model.proofs.Cases.{in_ok}
use Rattle.mem_store.proofs.OwnersLemmas.{AllOwnInside-taken}
use Rattle.sdr_model.proofs.ThingsLemmas.{insert-removed, with_at-again}
use Rattle.mem_world.proofs.draft_world.DraftWorld.take.Goals as goal

abbrev with_things : World → Things → World
with_things w things = record w { things = things }

pub returns-clause-again : goal.returns-clause-again
returns-clause-again c =
    on_ok_weaker c.take.result
    (λ without thing.
    ap (λ m. with_things (the_view c.self.inside).now (insert m c.args.addr thing)) without
    ∙ ap (with_things (the_view c.self.inside).now) (insert-removed c.self.inside.things.now c.args.addr thing)
    ∙ ap (λ d. with_thing d.now c.args.addr thing) c.self.view_is)
    c.take.ensures.without

pub returns-clause-back : goal.returns-clause-back
returns-clause-back c =
    in_ok c.take.result c.take.ensures.taken c.take.ensures.without
    (λ thing is without.
    ap (λ m. with_things (the_view c.self.inside).now (insert m c.args.addr thing)) without
    ∙ ap (with_things (the_view c.self.inside).now)
    (insert-removed c.self.inside.things.now c.args.addr thing
    ∙ with_at-again c.self.inside.things.now c.args.addr (Some thing) is)
    ∙ ap (λ d. d.now) c.self.view_is)

pub invariant_of-self : goal.invariant_of-self
invariant_of-self c =
    AllOwnInside-taken _ _ c.args.addr _ _ _ _ c.take.result
    c.take.ensures.begun c.take.ensures.without c.take.ensures.same c.self.invariant
