-- Sources and extents that fit each other, and what is seen of them where what is at one address changes.
use Rattle.std.proofs.Common.{◌≡◌, ◌≢◌, ◌⊎◌, inl, inr, ⊎_elim, ℕ, ◌+◌, ◌≤◌, ◌==◌, List, [], ◌∷◌, true, false, true≢false, cond, Option, Some, None, nat_eq, refl, sym, ap, ◌∙◌, subst, arith, eqb-true}
use Rattle.std.specs.BTreeMap.{is_at}
use Rattle.std.specs.Cmp.{nat_eq_equiv}
use Rattle.std.specs.FinMap.{entries, get}
use Rattle.std.specs.List.{AllByRecursion, sum_by}
use Rattle.std.specs.Ordering.{nat_cmp}
use Rattle.std.specs.Prelude.{IfSome, if◌then◌else◌}
use Rattle.std.proofs.lemmas.List.Elements.{All-from_recursion, recursion_from_All}
use Rattle.std.proofs.lemmas.List.Sums.{sum_by-cons}
use Rattle.sdr_base.specs.declared.account.Acct.{Acct}
use Rattle.sdr_base.specs.declared.account.Acct.TheVariants as accts
use Rattle.law_steps.proofs.DistinctLemmas.{on_test, weight}
use Rattle.sdr_model.proofs.SumLemmas.{counted_at, sum_by-inserted, sum_by-removed}
use Rattle.law_steps.proofs.ThingLemmas.{object_is, source_is}
use Rattle.sdr_model.proofs.ThingsLemmas.{at_itself, get-with_at, same_address}
use Rattle.sdr_model.specs.Accounts.{fresh_accounts, is_same_account}
use Rattle.sdr_model.specs.Gone.{is_passing}
use Rattle.sdr_model.specs.Things.{with_at, Things}
use Rattle.sdr_model.specs.Valid.{AreInside, FitTogether, HasBytes, HasSubject, HasExtentIfPassing, LiesInside}
use Rattle.sdr_model.specs.World.{World, as_raw, thing_at}
use Rattle.sdr_model.specs.Zco.{as_object, as_source, is_of_raw, names_raw, naming, object_at, source_at, uses_in, uses_of}
use Rattle.sdr_model.specs.declared.things.Thing.{Thing}
use Rattle.sdr_model.specs.declared.things.Thing.TheVariants as things
use Rattle.sdr_model.specs.declared.zco.Extent.{Extent}
use Rattle.sdr_model.specs.declared.zco.Subject.{Subject}
use Rattle.sdr_model.specs.declared.zco.Subject.TheVariants as subjects
use Rattle.sdr_model.specs.declared.zco.ZcoObject.{ZcoObject}
use Rattle.sdr_model.specs.declared.zco.ZcoSource.{ZcoSource}

-- a world of these things
abbrev pub of : Things → World
of m = record { things = m; names = []; accounts = fresh_accounts 0; marks = []; shown = []; taken = 0 }

-- the extents lie inside their sources
abbrev pub AllLie : Things → List Extent → Type 0
AllLie m = AllByRecursion (λ e. LiesInside e (source_at (of m) e.source))

-- Sources and extents of things fit each other, but for spare sources, which no extent need name.
pub record Fits (m : Things) (Spare : ℕ → Type 0) : Type 0 where
  pub inside : (q : ℕ) (z : ZcoObject) → object_at (of m) q ≡ Some z → AllLie m z.extents
  pub subjects : (q : ℕ) (s : ZcoSource) → source_at (of m) q ≡ Some s → HasSubject (of m) s.length s.subject
  pub alone : (raw a b : ℕ) (s t : ZcoSource) → source_at (of m) a ≡ Some s → source_at (of m) b ≡ Some t
      → is_of_raw raw s.subject ≡ true → is_of_raw raw t.subject ≡ true → a ≡ b
  pub used : (q : ℕ) (s : ZcoSource) → source_at (of m) q ≡ Some s → is_passing s ≡ true
      → (1 ≤ uses_of (of m) q) ⊎ Spare q

-- no source is spare
abbrev pub NoSpare : ℕ → Type 0
NoSpare q = ⊥

-- a fact of what is there
if_some : {X : Type 0} (P : X → Type 0) (o : Option X) → ((x : X) → o ≡ Some x → P x) → IfSome o P
if_some P None f = tt
if_some P (Some x) f = f x refl

pub fits_from : (w : World) → FitTogether w → Fits w.things NoSpare
fits_from w fit = record {
  inside = λ q z is. recursion_from_All _ z.extents
      (subst (λ t. IfSome t (AreInside w)) (object_is (thing_at w q) z is) (fit.inside q));
  subjects = λ q s is. subst (λ o. IfSome o (λ s. HasSubject w s.length s.subject)) is (fit.subjects q);
  alone = λ raw a b s t here there named named'.
      subst (λ u. IfSome u (λ u. names_raw raw (things.Source s) ≡ true → names_raw raw u ≡ true → a ≡ b))
      (source_is (thing_at w b) t there)
      (subst (λ u. IfSome u (λ u. IfSome (thing_at w b)
      (λ t. names_raw raw u ≡ true → names_raw raw t ≡ true → a ≡ b))) (source_is (thing_at w a) s here)
      (fit.alone raw a b)) named named';
  used = λ q s is passing. inl (subst (λ o. IfSome o (HasExtentIfPassing w q)) is (fit.used q) passing);
}

-- the thing that names a raw object is a source of it
naming_source : (raw : ℕ) (t : Thing) → names_raw raw t ≡ true → (s : ZcoSource) × (t ≡ things.Source s) ×
    (is_of_raw raw s.subject ≡ true)
naming_source raw (things.Source s) h = (s, refl, h)
naming_source raw t h = absurd (true≢false (sym h))

pub fits_to : (w : World) → Fits w.things NoSpare → FitTogether w
fits_to w f = record {
  inside = λ q. if_some (AreInside w) (thing_at w q) (λ t is. inside q t is);
  subjects = λ q. if_some (λ s. HasSubject w s.length s.subject) (source_at w q) (λ s is. f.subjects q s is);
  alone = λ raw a b. if_some _ (thing_at w a) (λ s here. if_some _ (thing_at w b) (λ t there named named'.
      let one = naming_source raw s named in
      let two = naming_source raw t named' in
      f.alone raw a b one.0 two.0 (ap as_source (here ∙ ap (λ s. Some s) one.1))
      (ap as_source (there ∙ ap (λ s. Some s) two.1)) one.2 two.2));
  used = λ q. if_some (HasExtentIfPassing w q) (source_at w q)
      (λ s is passing. ⊎_elim (λ u. u) (λ spare. absurd spare) (f.used q s is passing));
}
  where
    inside : (q : ℕ) (t : Thing) → thing_at w q ≡ Some t → AreInside w t
    inside q (things.Object z) is = All-from_recursion _ z.extents (f.inside q z (ap as_object is))
    inside q t is = tt

-- a world of the same things
pub fit_same : (w v : World) → v.things ≡ w.things → FitTogether w → FitTogether v
fit_same w v same fit = fits_to v (subst (λ m. Fits m NoSpare) (sym same) (fits_from w fit))

-- more sources may be spare
pub fits_more : {m : Things} (P Q : ℕ → Type 0) → ((q : ℕ) → P q → Q q) → Fits m P → Fits m Q
fits_more P Q f fits = record {
  inside = fits.inside;
  subjects = fits.subjects;
  alone = fits.alone;
  used = λ q s is passing. ⊎_elim (λ u. inl u) (λ spare. inr (f q spare)) (fits.used q s is passing);
}

-- what follows at an address and elsewhere
pub by_addr : {R : Type 0} (q addr : ℕ) → (q ≡ addr → R) → (q ≢ addr → R) → R
by_addr q addr here apart =
    on_test (nat_eq q addr) (λ e. here (eqb-true q addr e)) (λ e. apart (λ same.
    absurd (true≢false (sym (ap (nat_eq q) (sym same) ∙ nat_eq_equiv.refl q) ∙ e))))

pub here_at : (m : Things) (addr : ℕ) (o : Option Thing) → get (with_at m addr o) addr ≡ o
here_at m addr o = get-with_at m addr o addr ∙ ap (λ b. cond b o (get m addr)) (at_itself addr)

pub apart_at : (m : Things) (addr : ℕ) (o : Option Thing) (q : ℕ) → q ≢ addr → get (with_at m addr o) q ≡ get m q
apart_at m addr o q apart =
    get-with_at m addr o q
    ∙ on_test (is_at (nat_cmp q) addr) (λ e. absurd (apart (same_address q addr e)))
    (λ e. ap (λ b. cond b o (get m q)) e)

-- a view of what is there is the same everywhere, where it is at one address
pub same_view : {X : Type 0} (f : Option Thing → X) (m : Things) (addr : ℕ) (o : Option Thing) → f o ≡ f (get m addr)
    → (q : ℕ) → f (get (with_at m addr o) q) ≡ f (get m q)
same_view f m addr o same q =
    by_addr q addr
    (λ here. ap (λ i. f (get (with_at m addr o) i)) here ∙ ap f (here_at m addr o) ∙ same
    ∙ ap (λ i. f (get m i)) (sym here))
    (λ apart. ap f (apart_at m addr o q apart))

-- how many extents of what is there name a source
abbrev pub uses_at : ℕ → Option Thing → ℕ
uses_at source (Some (things.Object z)) = naming source z.extents
uses_at source thing = 0

-- any sum over the things, with another one, or none, at an address
pub sum_by-with_at : (f : ℕ × Thing → ℕ) (m : Things) (addr : ℕ) (o : Option Thing)
    → sum_by f (entries (with_at m addr o)) + counted_at f addr (get m addr)
    ≡ sum_by f (entries m) + counted_at f addr o
sum_by-with_at f m addr None = omega (arith, sum_by-removed f m addr)
sum_by-with_at f m addr (Some thing) = sum_by-inserted f m addr thing

-- one account or the other
pub one_account : (a : Acct) (n : ℕ)
    → (if is_same_account accts.Inbound a then n else 0) + (if is_same_account accts.Outbound a then n else 0) ≡ n
one_account accts.Inbound n = omega arith
one_account accts.Outbound n = omega arith

both_accounts : (source addr : ℕ) (o : Option Thing)
    → counted_at (λ e. uses_in source accts.Inbound e.1) addr o + counted_at
    (λ e. uses_in source accts.Outbound e.1) addr o
    ≡ uses_at source o
both_accounts source addr None = refl
both_accounts source addr (Some (things.Object z)) = one_account z.account (naming source z.extents)
both_accounts source addr (Some t) = refl

pub uses-with_at : (source : ℕ) (m : Things) (addr : ℕ) (o : Option Thing)
    → uses_of (of (with_at m addr o)) source + uses_at source (get m addr) ≡ uses_of (of m) source + uses_at source o
uses-with_at source m addr o =
    omega (
      arith,
      sum_by-with_at (λ (e : ℕ × Thing). uses_in source accts.Inbound e.1) m addr o,
      sum_by-with_at (λ (e : ℕ × Thing). uses_in source accts.Outbound e.1) m addr o,
      both_accounts source addr o,
      both_accounts source addr (get m addr),
    )

-- extents that name a source by no count don't name it
pub names_apart : (source : ℕ) (es : List Extent) → naming source es ≡ 0
    → AllByRecursion (λ e. e.source ≢ source) es
names_apart source [] none = tt
names_apart source (e ∷ es) none =
    let first = sum_by-cons (λ (e : Extent). if e.source == source then 1 else 0) e es in (
      (λ same. let one : weight (e.source == source) ≡ 1 =
          ap weight (ap (λ i. i == source) same ∙ nat_eq_equiv.refl source) in
          absurd (omega (arith, none, first, one))),
      names_apart source es (omega (arith, none, first)),
    )

-- extents of an object that is there name a source no more often than all
pub uses_there : (source : ℕ) (m : Things) (q : ℕ) (z : ZcoObject) → object_at (of m) q ≡ Some z
    → naming source z.extents ≤ uses_of (of m) source
uses_there source m q z is =
    omega (arith, uses-with_at source m q None, ap (uses_at source) (object_is (get m q) z is))

-- facts of each extent, by facts of each
pub all_lie : (m n : Things) (P : Extent → Type 0) (es : List Extent) → AllByRecursion P es → AllLie m es
    → ((e : Extent) → P e → LiesInside e (source_at (of m) e.source) → LiesInside e (source_at (of n) e.source))
    → AllLie n es
all_lie m n P [] p all f = tt
all_lie m n P (e ∷ es) p all f = (f e p.0 all.0, all_lie m n P es p.1 all.1 f)

pub each_lies : (m n : Things) (es : List Extent) → AllLie m es
    → ((e : Extent) → LiesInside e (source_at (of m) e.source) → LiesInside e (source_at (of n) e.source)) → AllLie n es
each_lies m n [] all f = tt
each_lies m n (e ∷ es) all f = (f e all.0, each_lies m n es all.1 f)

-- an extent that lies inside names a source that is there
pub source_there : (e : Extent) (o : Option ZcoSource) → LiesInside e o → o ≢ None
source_there e None h none = h
source_there e (Some s) h none = let no : Some s ≡ None = none in cc

-- the subject of a source is there, where each raw object that it names is as before
pub subject_kept : (m n : Things) (bytes : ℕ) (s : Subject)
    → ((raw : ℕ) → is_of_raw raw s ≡ true → HasBytes bytes (as_raw (get m raw)) → HasBytes bytes (as_raw (get n raw)))
    → HasSubject (of m) bytes s → HasSubject (of n) bytes s
subject_kept m n bytes (subjects.File path) f h = tt
subject_kept m n bytes (subjects.Bulk item) f h = tt
subject_kept m n bytes (subjects.Heap raw) f h = f raw (nat_eq_equiv.refl raw) h
subject_kept m n bytes (subjects.Obj raw) f h = f raw (nat_eq_equiv.refl raw) h

-- no source names the raw object
abbrev pub Unnamed : Things → ℕ → Type 0
Unnamed m raw = (q : ℕ) (s : ZcoSource) → source_at (of m) q ≡ Some s → is_of_raw raw s.subject ≡ false
