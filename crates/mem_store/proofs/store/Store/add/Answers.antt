use Rattle.std.proofs.Common.{◌≡◌, true, Err, Ok, Option, Result, Some, ap, arith, refl, subst, sym, ◌∙◌}
use Rattle.std.specs.FinMap.{get, insert}
use Rattle.std.specs.List.{Contains}
use Rattle.std.specs.Option.{option_and_then, option_map}
use Rattle.std.specs.Prelude.{IfSome, OnErr}
use Rattle.sdr_model.specs.Zco.{as_object}
use Rattle.sdr_model.specs.declared.things.Thing.TheVariants as things
use Rattle.mem_parts.specs.Components.{with_component}
use Rattle.mem_parts.specs.declared.component.Component.{Component}
use Rattle.mem_store.specs.Store.{begun_at, growing, is_saved, now_at, place_at, things_at}
use Rattle.mem_store.specs.declared.place.Place.{Place}
use Rattle.mem_store.proofs.GrowthLemmas.{grown_here, object_there}
use Rattle.mem_store.proofs.StoreLemmas.{thing_at, things_at-kept, things_at-put}
use Rattle.mem_store.proofs.store.Store.add.Goals as goal

same_begun : (component : Component) (o : Option Place) → is_saved o ≡ true
    → option_and_then begun_at (option_map (growing component) o) ≡ option_and_then begun_at o
same_begun component o saved = grind arith

on_err : {X E : Type 0} {P : Type 0} (r : Result X E) → P → OnErr r P
on_err (Ok x) holds = tt
on_err (Err e) holds = holds

pub returns-clause-grown : goal.returns-clause-grown
returns-clause-grown c =
    let places = c.self.inside.places.entries in
    let new = c.grow.new.places.entries in
    let addr = c.args.addr in
    let there = object_there (get c.args.self.now.now addr) c.requires.there in
    let grown = things.Object (with_component there.0 c.args.component) in
    let here = things_at-put places new addr (option_map (growing c.args.component)) c.in_ok-grow.ensures.grown now_at (Some grown)
    (grown_here c.args.component there.0 (place_at places addr)
    (sym (thing_at now_at places addr) ∙ ap (λ s. get s.now addr) c.self.view_is ∙ there.1))
    ∙ ap (λ s. insert s.now addr grown) c.self.view_is in
    subst (λ o. IfSome (as_object o) (λ z. things_at now_at new ≡ insert c.args.self.now.now addr (things.Object (with_component z c.args.component))))
    (sym there.1) here

pub returns-clause-begun : goal.returns-clause-begun
returns-clause-begun c =
    things_at-kept _ _ c.args.addr (option_map (growing c.args.component)) c.in_ok-grow.ensures.grown begun_at
    (same_begun c.args.component (place_at c.self.inside.places.entries c.args.addr) ((c.self.invariant.touched c.args.addr).1 (subst (λ s. Contains s.touched c.args.addr) (sym c.self.view_is) c.requires.touched)))
    ∙ ap (λ s. s.begun) c.self.view_is

pub returns-in_err-grow-clause-begun : goal.returns-in_err-grow-clause-begun
returns-in_err-grow-clause-begun c =
    things_at-kept _ _ c.args.addr (λ o. o) c.in_err-grow.ensures.same begun_at refl ∙ ap (λ s. s.begun) c.self.view_is

pub returns-in_err-grow-clause-same : goal.returns-in_err-grow-clause-same
returns-in_err-grow-clause-same c =
    on_err _ (things_at-kept _ _ c.args.addr (λ o. o) c.in_err-grow.ensures.same now_at refl ∙ ap (λ s. s.now) c.self.view_is)
