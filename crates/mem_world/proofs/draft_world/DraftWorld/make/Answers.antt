use Rattle.std.proofs.Common.{◌+◌, ◌≤◌, ◌∙◌, ap, arith, sym, subst₂}
use Rattle.sdr_model.specs.Dry.{next_addr}
use Rattle.mem_store.specs.Owners.{AllOwnInside}
use Rattle.sdr_model.specs.Things.{with_at}
use Rattle.std.specs.Prelude.{Some}
use Rattle.mem_store.proofs.OwnersLemmas.{OwnInside-insert, OwnInside-raised, owns_nothing}
use Rattle.mem_world.proofs.draft_world.DraftWorld.make.Goals as goal

pub invariant_of-self-2 : goal.invariant_of-self-2
invariant_of-self-2 c =
    let inside = c.self.inside in
    let addr = next_addr inside.taken in
    let more = next_addr (inside.taken + 1) in
    let higher : next_addr inside.taken ≤ more = omega arith in
    let raised = OwnInside-raised inside.owners _ more higher in
    subst₂ (AllOwnInside inside.owners more)
    (sym (c.put.ensures.begun ∙ c.touch.ensures.begun))
    (sym (c.put.ensures.now ∙ ap (λ m. with_at m addr (Some c.args.thing)) c.touch.ensures.now))
    (record {
      begun = raised inside.things.begun c.self.invariant.begun;
      now = OwnInside-insert inside.owners more _ addr (raised inside.things.now c.self.invariant.now) c.args.thing
          (owns_nothing inside.owners more addr c.args.thing (omega arith) c.requires.bare);
    })
