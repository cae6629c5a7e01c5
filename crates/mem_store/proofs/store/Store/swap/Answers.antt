use Rattle.std.proofs.Common.{◌≡◌, true, Option, ap, arith, sym, ◌∙◌, subst}
use Rattle.std.specs.List.{Contains}
use Rattle.std.specs.Option.{option_and_then, option_map}
use Rattle.sdr_model.specs.Things.{with_at}
use Rattle.sdr_model.specs.declared.things.Thing.{Thing}
use Rattle.mem_store.specs.Store.{begun_at, is_saved, now_at, place_at, with_thing}
use Rattle.mem_store.specs.declared.place.Place.{Place}
use Rattle.mem_store.proofs.StoreLemmas.{things_at-kept, things_at-put, touched-kept}
use Rattle.mem_store.proofs.store.Store.swap.Goals as goal

module _ (thing : Option Thing) (o : Option Place) where
  same_saved : is_saved (option_map (with_thing thing) o) ≡ is_saved o
  same_saved = grind arith

  thing_there : is_saved o ≡ true → option_and_then now_at (option_map (with_thing thing) o) ≡ thing
  thing_there saved = grind arith

  same_begun : is_saved o ≡ true → option_and_then begun_at (option_map (with_thing thing) o) ≡ option_and_then begun_at o
  same_begun saved = grind arith

pub invariant_of-self : goal.invariant_of-self
invariant_of-self c = record {
  touched =
      touched-kept _ _ c.args.addr (option_map (with_thing c.args.thing)) c.swap.ensures.now c.self.inside.touched.items
      (same_saved c.args.thing (place_at c.self.inside.places.entries c.args.addr)) c.self.invariant.touched;
  tallied = c.swap.ensures.tallied c.self.invariant.tallied;
}

pub returns-clause-now : goal.returns-clause-now
returns-clause-now c =
    things_at-put _ _ c.args.addr (option_map (with_thing c.args.thing)) c.swap.ensures.now now_at c.args.thing
    (thing_there c.args.thing (place_at c.self.inside.places.entries c.args.addr) ((c.self.invariant.touched c.args.addr).1 (subst (λ s. Contains s.touched c.args.addr) (sym c.self.view_is) c.requires.touched)))
    ∙ ap (λ s. with_at s.now c.args.addr c.args.thing) c.self.view_is

pub returns-clause-begun : goal.returns-clause-begun
returns-clause-begun c =
    things_at-kept _ _ c.args.addr (option_map (with_thing c.args.thing)) c.swap.ensures.now begun_at
    (same_begun c.args.thing (place_at c.self.inside.places.entries c.args.addr) ((c.self.invariant.touched c.args.addr).1 (subst (λ s. Contains s.touched c.args.addr) (sym c.self.view_is) c.requires.touched)))
    ∙ ap (λ s. s.begun) c.self.view_is
