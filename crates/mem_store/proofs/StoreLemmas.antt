-- The things at the places, now and at the begin.
use Rattle.sdr_model.proofs.ThingsLemmas.{at_itself, get-with_at, same_address, same_things}
use Rattle.sdr_model.specs.Things.{with_at}
use Rattle.sdr_model.specs.declared.things.Thing.{Thing}
use Rattle.mem_store.specs.Store.{AreTouched, ChangesAt, is_saved, now_at, place_at, saved_at, settled, staying, things_at}
use Rattle.mem_store.specs.declared.place.Place.{Place}
use Rattle.mem_store.specs.declared.place.Stays.{Stays}
use Rattle.std.proofs.Common.{◌≡◌, ◌↔◌, ℕ, zero, suc, arith, Bool, true, false, List, [], ◌∷◌, ◌++◌, cond, Option, sym, ◌∙◌, refl, subst, ⊎_elim}
use Rattle.std.proofs.lemmas.List.Elements.{Contains-append_cases, Contains-append_left, Contains-append_right}
use Rattle.std.specs.BTreeMap.{is_at}
use Rattle.std.specs.Cmp.{eq_by_cmp_equiv, nat_cmp_total}
use Rattle.std.specs.FinMap.{get, get-empty, get-remove, remove}
use Rattle.std.specs.List.{Contains}
use Rattle.std.specs.Option.{option_and_then}
use Rattle.std.specs.Ordering.{nat_cmp}

-- the thing at an address is what the place there has
pub thing_at : (of : Place → Option Thing) (places : List (ℕ × Place)) (q : ℕ)
    → get (things_at of places) q ≡ option_and_then of (place_at places q)
thing_at of [] q = get-empty nat_cmp q
thing_at of ((addr, place) ∷ places) q = grind (arith, get-with_at (things_at of places) addr (of place) q, thing_at of places q)

-- the one element of a list
only : {k : ℕ} (q : ℕ) → Contains (k ∷ []) q → q ≡ k
only q (zero, lt, is) = sym is
only q (suc i, lt, is) = absurd (omega (arith, lt))

-- places that differ at one address
module _ (old new : List (ℕ × Place)) (k : ℕ) (f : Option Place → Option Place) (changes : ChangesAt old new k f) where
  -- what is made of the place at each address
  part : {X : Type 0} (g : Option Place → X) (q : ℕ)
      → g (place_at new q) ≡ cond (is_at (nat_cmp q) k) (g (f (place_at old k))) (g (place_at old q))
  part g q = grind (arith, same_address, changes q, changes k, at_itself k, (eq_by_cmp_equiv nat_cmp_total).symm k q)

  part-kept : {X : Type 0} (g : Option Place → X) → g (f (place_at old k)) ≡ g (place_at old k)
      → (q : ℕ) → g (place_at new q) ≡ g (place_at old q)
  part-kept g same q = grind (arith, same_address, part g q)

  -- the things have another there
  pub things_at-put : (of : Place → Option Thing) (o : Option Thing) → option_and_then of (f (place_at old k)) ≡ o
      → things_at of new ≡ with_at (things_at of old) k o
  things_at-put of o is = same_things _ _ (λ q. grind (arith, part (option_and_then of) q, thing_at of new q, thing_at of old q, get-with_at (things_at of old) k o q))

  -- the things are the same
  pub things_at-kept : (of : Place → Option Thing) → option_and_then of (f (place_at old k)) ≡ option_and_then of (place_at old k)
      → things_at of new ≡ things_at of old
  things_at-kept of same = same_things _ _ (λ q. thing_at of new q ∙ part-kept (option_and_then of) same q ∙ sym (thing_at of old q))

  -- what is there is what the place there has
  pub thing_at-here : (of : Place → Option Thing) → get (things_at of new) k ≡ option_and_then of (f (place_at old k))
  thing_at-here of = thing_at of new k ∙ grind (arith, part (option_and_then of) k, at_itself k)

  -- the other things are the same
  pub things_at-others : (of : Place → Option Thing) → remove (things_at of new) k ≡ remove (things_at of old) k
  things_at-others of = same_things _ _ (λ q. grind (arith, part (option_and_then of) q, thing_at of new q, thing_at of old q, get-remove nat_cmp_total (things_at of new) k q, get-remove nat_cmp_total (things_at of old) k q))

  module _ (touched : List ℕ) where
    -- the same addresses were touched
    pub touched-kept : is_saved (f (place_at old k)) ≡ is_saved (place_at old k) → AreTouched old touched → AreTouched new touched
    touched-kept same are q = subst (λ b. (b ≡ true) ↔ Contains touched q) (sym (part-kept is_saved same q)) (are q)

    -- this one was touched too
    pub touched-push : is_saved (f (place_at old k)) ≡ true → AreTouched old touched → AreTouched new (touched ++ k ∷ [])
    touched-push is are q = (
      λ was. by (is_at (nat_cmp q) k) refl (sym (part is_saved q) ∙ was),
      λ has. ⊎_elim
          (λ left. let was = (are q).1 left in grind (arith, part is_saved q))
          (λ last. grind (arith, only q last, part is_saved q, at_itself k))
          (Contains-append_cases touched (k ∷ []) q has),
    )
      where
        by : (b : Bool) → is_at (nat_cmp q) k ≡ b → cond b (is_saved (f (place_at old k))) (is_saved (place_at old q)) ≡ true
            → Contains (touched ++ k ∷ []) q
        by true at was = Contains-append_right touched (k ∷ []) q (0, omega arith, sym (same_address q k at))
        by false at was = Contains-append_left touched (k ∷ []) q ((are q).0 was)

    -- this one is touched no more
    pub touched-pop : is_saved (f (place_at old k)) ≡ false
        → ((q : ℕ) → saved_at old q ≡ true → Contains (touched ++ k ∷ []) q) → (q : ℕ) → saved_at new q ≡ true → Contains touched q
    touched-pop isn't among q was =
        ⊎_elim
        (λ left. left)
        (λ last. absurd (grind (arith, only q last, part is_saved q, at_itself k)))
        (Contains-append_cases touched (k ∷ []) q (among q (grind (arith, part is_saved q))))

-- at a place that keeps nothing, the same stays either way
pub unsaved : (s : Stays) (o : Option Place) → is_saved o ≡ false → option_and_then (staying s) o ≡ option_and_then now_at o
unsaved s o isn't = grind arith

-- with nothing touched, the same things stay either way
pub nothing_touched : (s : Stays) (places : List (ℕ × Place)) → ((q : ℕ) → saved_at places q ≡ true → Contains [] q)
    → things_at (staying s) places ≡ things_at now_at places
nothing_touched s places among = same_things _ _ (λ q.
    thing_at (staying s) places q ∙ unsaved s (place_at places q) (none (saved_at places q) (among q)) ∙ sym (thing_at now_at places q))
  where
    none : {q : ℕ} (b : Bool) → (b ≡ true → Contains [] q) → b ≡ false
    none false has = refl
    none true has = absurd (omega (arith, (has refl).1))

-- what stays at a place is there
pub same_staying : (s : Stays) (o : Option Place) → option_and_then (staying s) (option_and_then (settled s) o) ≡ option_and_then (staying s) o
same_staying s o = grind arith
