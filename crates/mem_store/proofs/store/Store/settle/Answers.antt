use Rattle.std.proofs.Common.{◌≡◌, [], ◌-◌, Option, false, append-nil, ap, arith, sym, subst, ◌∙◌}
use Rattle.std.specs.List.{Contains}
use Rattle.std.specs.Option.{option_and_then}
use Rattle.std.specs.Prelude.{take}
use Rattle.mem_store.specs.Store.{is_saved, place_at, settled, staying}
use Rattle.mem_store.specs.declared.place.Place.{Place}
use Rattle.mem_store.specs.declared.place.Stays.{Stays}
use Rattle.mem_store.specs.declared.place.Stays.TheVariants as stays
use Rattle.mem_store.proofs.StoreLemmas.{nothing_touched, same_staying, things_at-kept, touched-pop}
use Rattle.mem_store.proofs.store.Store.settle.Goals as goal

none_saved : (s : Stays) (o : Option Place) → is_saved (option_and_then (settled s) o) ≡ false
none_saved s o = grind arith

pub loop-addr-preserved : goal.loop-addr-preserved
loop-addr-preserved c =
    let there = place_at c.loop-addr.self-inside.places.entries c.in-Some.addr in
    record {
      things = things_at-kept _ _ c.in-Some.addr (option_and_then (settled c.args.stays)) c.settle.ensures.settled (staying c.args.stays) (same_staying c.args.stays there)
          ∙ c.loop-addr.invariant.things;
      among = touched-pop _ _ c.in-Some.addr (option_and_then (settled c.args.stays)) c.settle.ensures.settled c.pop.new.self.items (none_saved c.args.stays there)
          (λ q was. subst (λ xs. Contains xs q) c.in-Some.ensures.items (c.loop-addr.invariant.among q was));
      tallied = c.settle.ensures.tallied c.loop-addr.invariant.tallied;
    }

pub returns : goal.returns
returns c =
    let places = c.loop-addr.self-inside.places.entries in
    let left : c.pop.new.self.items ≡ [] =
    c.in_default.ensures.rest ∙ ap (λ n. take (n - 1) c.loop-addr.self-inside.touched.items) c.in_default.ensures.cases.0 in
    let none : c.loop-addr.self-inside.touched.items ≡ [] =
    c.in_default.ensures.items ∙ append-nil c.pop.new.self.items ∙ left in
    let same = λ (s : Stays). nothing_touched s places (λ q was. subst (λ xs. Contains xs q) none (c.loop-addr.invariant.among q was)) in
    let now = sym (same c.args.stays) ∙ c.loop-addr.invariant.things in
    λ i. record {
      begun = (same stays.Begun ∙ now) i;
      now = now i;
      touched = left i;
    }
