use Rattle.std.proofs.Common.{◌≤◌, ◌+◌, ℕ, List, [], ap, arith, sym, subst}
use Rattle.std.specs.Prelude.{IfSome, IsSome}
use Rattle.sdr_model.specs.Dry.{next_addr}
use Rattle.sdr_model.specs.Zco.{object_at}
use Rattle.mem_parts.specs.Bounds.{IsBounded}
use Rattle.mem_parts.specs.Components.{Grows, block_of}
use Rattle.mem_store.specs.Owners.{AllOwnInside, IsOwned}
use Rattle.mem_world.specs.contracts.draft_world.DraftWorld.{the_view}
use Rattle.mem_world.proofs.ComponentLemmas.{AllOwnInside-grown, Grows-inserted}
use Rattle.mem_world.proofs.draft_world.DraftWorld.grow.Goals as goal

pub grow-requires-clause-there : goal.grow-requires-clause-there
grow-requires-clause-there c = subst (λ d. IsSome (object_at d.now c.args.addr)) (sym c.self.view_is) c.requires.there

pub grow-requires-clause-bounded : goal.grow-requires-clause-bounded
grow-requires-clause-bounded c = subst (λ d. IfSome (object_at d.now c.args.addr) IsBounded) (sym c.self.view_is) c.requires.bounded

pub invariant_of-self-2 : goal.invariant_of-self-2
invariant_of-self-2 c =
    let inside = c.self.inside in
    let more = next_addr (inside.taken + c.args.count) in
    let higher : next_addr inside.taken ≤ more = omega arith in
    subst (λ begun. AllOwnInside inside.owners more begun c.grow.new.self.now) (sym c.grow.ensures.begun)
    (AllOwnInside-grown inside.owners _ more c.args.addr inside.things.begun inside.things.now _ c.args.component higher
    (subst (λ d. IsOwned d.owners (next_addr (d.now.taken + c.args.count)) c.args.addr (block_of c.args.component)) (sym c.self.view_is) c.requires.owned)
    (subst (λ d. IsSome (object_at d.now c.args.addr)) (sym c.self.view_is) c.requires.there)
    c.in_ok-grow.ensures.grown c.self.invariant)

pub returns-clause-added : goal.returns-clause-added
returns-clause-added c =
    let w = (the_view c.self.inside).now in
    subst (λ d. Grows (object_at d.now c.args.addr) c.args.addr c.args.component
    (record d.now { shown = []; taken = d.now.taken + c.args.count }) (record w { things = c.grow.new.self.now; shown = c.new.result; taken = w.taken + c.args.count })) c.self.view_is
    (Grows-inserted (object_at w c.args.addr) c.args.addr c.args.component (record w { shown = []; taken = w.taken + c.args.count }) _ c.grow.new.self.now
    (subst (λ d. IsSome (object_at d.now c.args.addr)) (sym c.self.view_is) c.requires.there)
    c.in_ok-grow.ensures.grown
    (ap (λ (shown : List ℕ). record w { things = c.grow.new.self.now; shown = shown; taken = w.taken + c.args.count }) c.new.ensures))
