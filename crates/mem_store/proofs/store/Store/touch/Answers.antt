use Rattle.std.proofs.Common.{◌∷◌, [], ◌++◌, ap, sym, ◌∙◌, refl, subst}
use Rattle.mem_store.specs.Store.{AreTouched, begun_at, now_at, place_at, saving}
use Rattle.mem_store.specs.Tallies.{AreTallied}
use Rattle.mem_store.specs.declared.place.Stays.TheVariants as stays
use Rattle.mem_store.proofs.StoreLemmas.{things_at-kept, touched-kept, touched-push, unsaved}
use Rattle.mem_store.proofs.store.Store.touch.Goals as goal

pub invariant_of-self-2 : goal.invariant_of-self-2
invariant_of-self-2 c = record {
  touched =
      subst (AreTouched c.save.new.places.entries)
      (ap (λ xs. xs ++ c.args.addr ∷ []) (sym c.in_ok-reserve.ensures.items) ∙ sym c.push_reserved.ensures.items)
      (touched-push _ _ c.args.addr saving c.in_ok-save.ensures.saved c.self.inside.touched.items refl c.self.invariant.touched);
  tallied =
      subst (λ all. AreTallied all c.self.inside.tallies)
      (sym (things_at-kept _ _ c.args.addr saving c.in_ok-save.ensures.saved now_at refl)) c.self.invariant.tallied;
}

pub returns-clause-begun : goal.returns-clause-begun
returns-clause-begun c =
    things_at-kept _ _ c.args.addr saving c.in_ok-save.ensures.saved begun_at
    (sym (unsaved stays.Begun (place_at c.self.inside.places.entries c.args.addr) (sym c.is_saved.ensures ∙ c.if-is_saved.false)))
    ∙ ap (λ s. s.begun) c.self.view_is

pub returns-clause-now : goal.returns-clause-now
returns-clause-now c =
    things_at-kept _ _ c.args.addr saving c.in_ok-save.ensures.saved now_at refl
    ∙ ap (λ s. s.now) c.self.view_is

pub returns-in_err-save-clause-now : goal.returns-in_err-save-clause-now
returns-in_err-save-clause-now c =
    things_at-kept _ _ c.args.addr (λ o. o) c.in_err-save.ensures.same now_at refl
    ∙ ap (λ s. s.now) c.self.view_is

pub returns-in_err-save-clause-begun : goal.returns-in_err-save-clause-begun
returns-in_err-save-clause-begun c =
    things_at-kept _ _ c.args.addr (λ o. o) c.in_err-save.ensures.same begun_at refl
    ∙ ap (λ s. s.begun) c.self.view_is

pub invariant_of-self-in_err-save : goal.invariant_of-self-in_err-save
invariant_of-self-in_err-save c = record {
  touched =
      subst (AreTouched c.save.new.places.entries) (sym c.in_ok-reserve.ensures.items)
      (touched-kept _ _ c.args.addr (λ o. o) c.in_err-save.ensures.same c.self.inside.touched.items refl c.self.invariant.touched);
  tallied =
      subst (λ all. AreTallied all c.self.inside.tallies)
      (sym (things_at-kept _ _ c.args.addr (λ o. o) c.in_err-save.ensures.same now_at refl)) c.self.invariant.tallied;
}
