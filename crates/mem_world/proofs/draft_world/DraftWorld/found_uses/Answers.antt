use Rattle.std.proofs.Common.{arith, ap, ◌∙◌}
use Rattle.std.specs.Prelude.{sum_by}
use Rattle.sdr_model.specs.Zco.{naming, uses_of}
use Rattle.mem_store.specs.Store.{things_in}
use Rattle.mem_world.specs.contracts.draft_world.DraftWorld.{the_view}
use Rattle.mem_world.specs.Uses.{extents_in, naming_in}
use Rattle.mem_world.proofs.PassLemmas.{naming-pass, naming-world}
use Rattle.mem_world.proofs.SumBounds.{uses-small}
use Rattle.mem_world.proofs.draft_world.DraftWorld.found_uses.Goals as goal

pub loop-place-init : goal.loop-place-init
loop-place-init c =
    let source = c.args.source in
    let inside = c.self.inside in
    let all = ap (λ l. sum_by (naming_in source) (things_in l)) c.into_iter-place-iterator.ensures.into_iter_gives
    ∙ ap (sum_by (naming_in source)) c.places-place-items.ensures
    ∙ naming-world (the_view inside).now source ∙ ap (λ d. uses_of d.now source) c.self.view_is in
    record { sum = omega (arith, all) }

pub overflow_add-uses : goal.overflow_add-uses
overflow_add-uses c =
    let source = c.args.source in
    omega (
      arith,
      uses-small c.args.self.now.now c.requires.bound source,
      c.naming-uses.ensures.value ∙ ap (naming source) (c.extents_of.ensures ∙ ap extents_in c.current.ensures),
      naming-pass (c.in-Some.field-0-0.now, c.in-Some.place.now) c.next.new.self c.loop-place.place-iterator
          c.in-Some.ensures.steps source,
      c.loop-place.invariant.sum,
    )

pub loop-place-preserved : goal.loop-place-preserved
loop-place-preserved c =
    let source = c.args.source in
    record {
      sum = omega (
        arith,
        c.naming-uses.ensures.value ∙ ap (naming source) (c.extents_of.ensures ∙ ap extents_in c.current.ensures),
        naming-pass (c.in-Some.field-0-0.now, c.in-Some.place.now) c.next.new.self c.loop-place.place-iterator
            c.in-Some.ensures.steps source,
        c.loop-place.invariant.sum,
      );
    }
