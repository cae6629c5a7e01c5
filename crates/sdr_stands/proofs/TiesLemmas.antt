-- Things that tie alike: what a change of one leaves of what other things' blocks keep.
use Rattle.std.proofs.Common.{◌≡◌, ℕ, List, [], ◌∷◌, Bool, false, cond, Option, Some, None, refl, sym, ap, ◌∙◌, arith, find, subst, true}
use Rattle.std.specs.Cmp.{nat_cmp_total}
use Rattle.std.specs.FinMap as finite
use Rattle.std.specs.FinMap.Entries.{by_order}
use Rattle.std.specs.List.{sum_by}
use Rattle.std.specs.Option.{option_map}
use Rattle.std.specs.Ordering.{nat_cmp, is_eq}
use Rattle.std.specs.declared.cmp.Ordering.TheVariants.{Less, Equal, Greater}
use Rattle.sdr_base.specs.declared.account.Acct.{Acct}
use Rattle.sdr_model.proofs.SumLemmas.{counted_at, sum_by-inserted, sum_by-removed}
use Rattle.sdr_model.proofs.ThingsLemmas.{get-removed, insert-removed, with_at-again}
use Rattle.sdr_model.specs.Things.{Things, with_at}
use Rattle.sdr_model.specs.World.{World, thing_at}
use Rattle.sdr_model.specs.Zco.{names_raw, uses_in}
use Rattle.sdr_model.specs.declared.things.Thing.{Thing}
use Rattle.sdr_model.specs.declared.things.Thing.TheVariants as things
use Rattle.sdr_stands.specs.Ties.{IsUntied, NoneIsTied, TieAlike, names_raw_at, or_null, ties_of, uses_at}

module _ {X : Type 0} (p : X → Bool) where
  -- nothing, or what doesn't pass
  abbrev Fails : Option X → Type 0
  Fails None = Unit {0}
  Fails (Some x) = p x ≡ false

  -- the first that passes is the same where one that fails comes, or takes the place of one that failed
  find-put : (k : ℕ) (v : X) (es : List (ℕ × X)) → p v ≡ false → Fails (finite.find nat_cmp k es) →
      find (λ e. p e.1) (finite.put nat_cmp k v es) ≡ find (λ e. p e.1) es
  find-put k v [] fails_here was = ap (λ b. cond b (Some (k, v)) None) fails_here
  find-put k v (e ∷ es) fails_here was =
      elim (nat_cmp k e.0) as
      (λ o. Fails (cond (is_eq o) (Some e.1) (finite.find nat_cmp k es)) →
      find (λ e. p e.1) (by_order o ((k, v) ∷ e ∷ es) ((e.0, v) ∷ es) (e ∷ finite.put nat_cmp k v es))
      ≡ find (λ e. p e.1) (e ∷ es)) [
        | Less ↦ λ w. ap (λ b. cond b (Some (k, v)) (find (λ e. p e.1) (e ∷ es))) fails_here
        | Equal ↦ λ w.
            ap (λ b. cond b (Some (e.0, v)) (find (λ e. p e.1) es)) fails_here
            ∙ sym (ap (λ b. cond b (Some e) (find (λ e. p e.1) es)) w)
        | Greater ↦ λ w. ap (λ o. cond (p e.1) (Some e) o) (find-put k v es fails_here w)
      ] was

  find-inserted : (m : finite.FinMap nat_cmp X) (k : ℕ) (v : X) → p v ≡ false → Fails (finite.get m k) →
      find (λ e. p e.1) (finite.entries (finite.insert m k v)) ≡ find (λ e. p e.1) (finite.entries m)
  find-inserted m k v fails_here was =
      ap (find (λ e. p e.1)) (finite.entries-insert nat_cmp_total m k v)
      ∙ find-put k v (finite.entries m) fails_here (rw (← finite.get-entries m k) was)

  -- the key of the first that passes
  abbrev pub first : List (ℕ × X) → Option ℕ
  first es = option_map (λ e. e.0) (find (λ e. p e.1) es)

  past : (b : Bool) (e : ℕ × X) (r r' : Option (ℕ × X)) → option_map (λ e. e.0) r ≡ option_map (λ e. e.0) r' →
      option_map (λ e. e.0) (cond b (Some e) r) ≡ option_map (λ e. e.0) (cond b (Some e) r')
  past true e r r' same = refl
  past false e r r' same = same

  here : (b : Bool) (k : ℕ) (v v' : X) (r : Option (ℕ × X)) →
      option_map (λ e. e.0) (cond b (Some (k, v)) r) ≡ option_map (λ e. e.0) (cond b (Some (k, v')) r)
  here true k v v' r = refl
  here false k v v' r = refl

  instead : (k : ℕ) (v v' : X) (r : Option (ℕ × X)) → p v ≡ p v' →
      option_map (λ e. e.0) (cond (p v) (Some (k, v)) r) ≡ option_map (λ e. e.0) (cond (p v') (Some (k, v')) r)
  instead k v v' r same =
      here (p v) k v v' r ∙ ap (λ b. option_map (λ (e : ℕ × X). e.0) (cond b (Some (k, v')) r)) same

  -- it is the same where one that passes just as well is put in the place of another
  first-put : (k : ℕ) (v v' : X) (es : List (ℕ × X)) → p v ≡ p v' →
      first (finite.put nat_cmp k v es) ≡ first (finite.put nat_cmp k v' es)
  first-put k v v' [] same = instead k v v' None same
  first-put k v v' (e ∷ es) same =
      elim (nat_cmp k e.0) as
      (λ o. first (by_order o ((k, v) ∷ e ∷ es) ((e.0, v) ∷ es) (e ∷ finite.put nat_cmp k v es))
      ≡ first (by_order o ((k, v') ∷ e ∷ es) ((e.0, v') ∷ es) (e ∷ finite.put nat_cmp k v' es))) [
        | Less ↦ instead k v v' (find (λ e. p e.1) (e ∷ es)) same
        | Equal ↦ instead e.0 v v' (find (λ e. p e.1) es) same
        | Greater ↦
            past (p e.1) e (find (λ e. p e.1) (finite.put nat_cmp k v es))
            (find (λ e. p e.1) (finite.put nat_cmp k v' es)) (first-put k v v' es same)
      ]

  first-insert : (m : finite.FinMap nat_cmp X) (k : ℕ) (v v' : X) → p v ≡ p v' →
      first (finite.entries (finite.insert m k v)) ≡ first (finite.entries (finite.insert m k v'))
  first-insert m k v v' same =
      ap first (finite.entries-insert nat_cmp_total m k v)
      ∙ first-put k v v' (finite.entries m) same
      ∙ sym (ap first (finite.entries-insert nat_cmp_total m k v'))

-- the key of the first source of a raw object is the same
pub same_first : (raw : ℕ) (m : Things) (addr : ℕ) (o : Option Thing) →
    names_raw_at raw (finite.get m addr) ≡ names_raw_at raw o →
    first (names_raw raw) (finite.entries (with_at m addr o)) ≡ first (names_raw raw) (finite.entries m)
same_first raw m addr o same = by (finite.get m addr) o refl same
  where
    key : Option (ℕ × Thing) → Option ℕ
    key found = option_map (λ e. e.0) found

    by : (was now : Option Thing) → finite.get m addr ≡ was → names_raw_at raw was ≡ names_raw_at raw now →
        first (names_raw raw) (finite.entries (with_at m addr now)) ≡ first (names_raw raw) (finite.entries m)
    by None None is same = ap (λ n. first (names_raw raw) (finite.entries n)) (with_at-again m addr None is)
    by None (Some thing) is same =
        ap key
        (find-inserted (names_raw raw) m addr thing (sym same) (subst (Fails (names_raw raw)) (sym is) tt))
    by (Some thing) None is same =
        ap key
        (sym (find-inserted (names_raw raw) (finite.remove m addr) addr thing same
        (subst (Fails (names_raw raw)) (sym (get-removed m addr)) tt)))
        ∙ ap (λ n. first (names_raw raw) (finite.entries n))
        (insert-removed m addr thing ∙ with_at-again m addr (Some thing) is)
    by (Some thing) (Some other) is same =
        first-insert (names_raw raw) m addr other thing (sym same)
        ∙ ap (λ n. first (names_raw raw) (finite.entries n)) (with_at-again m addr (Some thing) is)

-- a sum over things is the same where what comes counts what went
sum_alike : (f : ℕ × Thing → ℕ) (m : Things) (addr : ℕ) (o : Option Thing) →
    counted_at f addr (finite.get m addr) ≡ counted_at f addr o →
    sum_by f (finite.entries (with_at m addr o)) ≡ sum_by f (finite.entries m)
sum_alike f m addr None same =
    let sums = sum_by-removed f m addr in
    let was : counted_at f addr (finite.get m addr) ≡ 0 = same in
    omega (arith, sums, was)
sum_alike f m addr (Some thing) same =
    let sums = sum_by-inserted f m addr thing in
    let was : counted_at f addr (finite.get m addr) ≡ f (addr, thing) = same in
    omega (arith, sums, was)

counted_uses : (source : ℕ) (acct : Acct) (k : ℕ) (o : Option Thing) →
    counted_at (λ e. uses_in source acct e.1) k o ≡ uses_at source acct o
counted_uses source acct k None = refl
counted_uses source acct k (Some thing) = refl

-- the world with this at an address, or without the thing there
abbrev pub with_thing_at : World → ℕ → Option Thing → World
with_thing_at w addr o = record w { things = with_at w.things addr o }

-- the things of the world are tied as they were, where what is at an address now ties alike what was there
pub same_ties : (w : World) (addr : ℕ) (o : Option Thing) → TieAlike (thing_at w addr) o →
    ties_of (with_thing_at w addr o) ≡ ties_of w
same_ties w addr o alike =
    let counts = λ (source : ℕ) (acct : Acct).
    sum_alike (λ e. uses_in source acct e.1) w.things addr o
    (counted_uses source acct addr (thing_at w addr) ∙ alike.sources source acct
    ∙ sym (counted_uses source acct addr o)) in
    λ i. record {
      named_by = λ raw. or_null (same_first raw w.things addr o (alike.raws raw) i);
      counts = λ source acct. counts source acct i;
    }

-- nothing of a raw object, and no source, is named where nothing is tied
unnamed : (raw : ℕ) (o : Option Thing) → NoneIsTied o → names_raw_at raw o ≡ false
unnamed raw None u = refl
unnamed raw (Some (things.Source source)) u = absurd u
unnamed raw (Some (things.Object object)) u = absurd u
unnamed raw (Some thing) u = refl

unused : (source : ℕ) (acct : Acct) (o : Option Thing) → NoneIsTied o → uses_at source acct o ≡ 0
unused source acct None u = refl
unused source acct (Some (things.Source s)) u = absurd u
unused source acct (Some (things.Object object)) u = absurd u
unused source acct (Some thing) u = refl

-- so what isn't tied ties alike
pub untied_alike : (was now : Option Thing) → NoneIsTied was → NoneIsTied now → TieAlike was now
untied_alike was now u v = record {
  raws = λ raw. unnamed raw was u ∙ sym (unnamed raw now v);
  sources = λ source acct. unused source acct was u ∙ sym (unused source acct now v);
}

-- what counts nothing of things that aren't tied counts nothing where one may be
none_counted : (f : ℕ × Thing → ℕ) (k : ℕ) (o : Option Thing) → ((addr : ℕ) (thing : Thing) → IsUntied thing → f (addr, thing) ≡ 0) →
    NoneIsTied o → counted_at f k o ≡ 0
none_counted f k None zero u = refl
none_counted f k (Some thing) zero u = zero k thing u

-- a sum over things that counts nothing of those
pub same_sum : (f : ℕ × Thing → ℕ) (m : Things) (addr : ℕ) (o : Option Thing) →
    ((addr : ℕ) (thing : Thing) → IsUntied thing → f (addr, thing) ≡ 0) → NoneIsTied (finite.get m addr) → NoneIsTied o →
    sum_by f (finite.entries (with_at m addr o)) ≡ sum_by f (finite.entries m)
same_sum f m addr o zero was is =
    sum_alike f m addr o (none_counted f addr (finite.get m addr) zero was ∙ sym (none_counted f addr o zero is))
