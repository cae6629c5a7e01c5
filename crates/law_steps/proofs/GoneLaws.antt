-- Sources that go with their last extents, and the raw objects that they have taken over.
use Rattle.std.proofs.Common.{◌≡◌, ◌≢◌, inl, inr, ⊎_elim, ℕ, ◌+◌, ◌≤◌, ◌==◌, ◌&&◌, ◌||◌, not, List, [], ◌∷◌, ◌++◌, Bool, true, false, true≢false, Option, Some, None, nat_eq, refl, sym, ap, ◌∙◌, subst, arith, eqb-true}
use Rattle.std.specs.Cmp.{nat_eq_equiv}
use Rattle.std.specs.FinMap.{get, remove as lose}
use Rattle.std.specs.List.{AllByRecursion}
use Rattle.std.specs.Option.{option_to_list}
use Rattle.std.specs.Prelude.{if◌then◌else◌, unwrap_or}
use Rattle.std.proofs.lemmas.List.Sums.{sum_by-cons}
use Rattle.sdr_base.specs.declared.account.Acct.{Acct}
use Rattle.sdr_base.specs.declared.kind.Space.{Space}
use Rattle.law_steps.proofs.ChargeLemmas.{charge_dropped, charge_plain, things_charge}
use Rattle.law_steps.proofs.DistinctLemmas.{on_test, weight}
use Rattle.law_steps.proofs.Effects.{IsNoZco}
use Rattle.law_steps.proofs.FitChanges.{fits_dropped, fits_plain}
use Rattle.law_steps.proofs.SourceViews.{Fits, NoSpare, Unnamed, apart_at, by_addr, fits_more, here_at, of, same_view, uses-with_at, uses_at}
use Rattle.law_steps.proofs.ThingLemmas.{raw_is, source_is}
use Rattle.sdr_model.proofs.ThingsLemmas.{same_things}
use Rattle.sdr_model.specs.Gone.{gone_things, gone_with, is_last_use, is_passing, names_source, source_blocks, without_things}
use Rattle.sdr_model.specs.Things.{with_at, Things}
use Rattle.sdr_model.specs.Valid.{HasBytes, HasSubject}
use Rattle.sdr_model.specs.World.{World, as_raw, thing_at}
use Rattle.sdr_model.specs.Zco.{as_source, is_of_raw, naming, owned_raw, source_at, taken_over, uses_of}
use Rattle.sdr_model.specs.declared.things.Thing.{Thing}
use Rattle.sdr_model.specs.declared.things.Thing.TheVariants as things
use Rattle.sdr_model.specs.declared.zco.Extent.{Extent}
use Rattle.sdr_model.specs.declared.zco.Subject.{Subject}
use Rattle.sdr_model.specs.declared.zco.Subject.TheVariants as subjects
use Rattle.sdr_model.specs.declared.zco.ZcoSource.{ZcoSource}

-- things without those at these addresses
abbrev pub without : Things → List ℕ → Things
without m [] = m
without m (addr ∷ addrs) = without (lose m addr) addrs

pub without_is : (w : World) (addrs : List ℕ) → (without_things w addrs).things ≡ without w.things addrs
without_is w [] = refl
without_is w (addr ∷ addrs) = without_is (record w { things = lose w.things addr }) addrs

pub without-append : (m : Things) (xs ys : List ℕ) → without m (xs ++ ys) ≡ without (without m xs) ys
without-append m [] ys = refl
without-append m (x ∷ xs) ys = without-append (lose m x) xs ys

-- changes at two addresses may come in either order
pub two_changes : (m : Things) (a b : ℕ) (o p : Option Thing) → a ≢ b
    → with_at (with_at m a o) b p ≡ with_at (with_at m b p) a o
two_changes m a b o p apart = same_things _ _ (λ q.
    by_addr q a
    (λ here.
    let away : q ≢ b = λ same. apart (sym here ∙ same) in
    apart_at (with_at m a o) b p q away ∙ ap (get (with_at m a o)) here ∙ here_at m a o
    ∙ sym (ap (get (with_at (with_at m b p) a o)) here ∙ here_at (with_at m b p) a o))
    (λ away. by_addr q b
    (λ there. ap (get (with_at (with_at m a o) b p)) there ∙ here_at (with_at m a o) b p
    ∙ sym (apart_at (with_at m b p) a o q away ∙ ap (get (with_at m b p)) there ∙ here_at m b p))
    (λ apart_b. apart_at (with_at m a o) b p q apart_b ∙ apart_at m a o q away
    ∙ sym (apart_at (with_at m b p) a o q away ∙ apart_at m b p q apart_b))))

-- so may one change, and several that go elsewhere
pub change_first : (m : Things) (addr : ℕ) (o : Option Thing) (addrs : List ℕ) → AllByRecursion (λ a. a ≢ addr) addrs
    → with_at (without m addrs) addr o ≡ without (with_at m addr o) addrs
change_first m addr o [] apart = refl
change_first m addr o (a ∷ addrs) apart =
    change_first (lose m a) addr o addrs apart.1
    ∙ ap (λ n. without n addrs) (two_changes m a addr None o apart.0)

-- extents that name a source by their count do
pub named_once : (q : ℕ) (es : List Extent) → 1 ≤ naming q es → names_source q es ≡ true
named_once q [] some = absurd (omega (arith, some))
named_once q (e ∷ es) some =
    on_test (e.source == q)
    (λ here. ap (λ b. b || names_source q es) here)
    (λ apart. ap (λ b. b || names_source q es) apart
    ∙ named_once q es (omega (arith, some, sum_by-cons (λ (e : Extent). weight (e.source == q)) e es, ap weight apart)))

module _ (w : World) (all : List Extent) where
  -- sources that go with all these extents, and aren't gone before the rest of them
  abbrev pub Spare : List Extent → ℕ → Type 0
  Spare es q = (uses_of w q ≡ naming q all) × (names_source q es ≡ true)

module _ (w : World) (all : List Extent) (total : Acct → Space → ℕ) where
  -- all but the rest of the extents is gone, with what went with it; what all things charge is as before
  pub record Going (m : Things) (es : List Extent) : Type 0 where
    pub fits : Fits m (Spare w all es)
    pub sources : (q : ℕ) → names_source q es ≡ true → source_at (of m) q ≡ source_at w q
    pub uses : (q : ℕ) → uses_of (of m) q + naming q all ≡ uses_of w q
    pub charges : (acct : Acct) (space : Space) → things_charge m acct space ≡ total acct space

  -- a source that the rest of the extents name
  later : (q : ℕ) (e : Extent) (es : List Extent) → names_source q es ≡ true → names_source q (e ∷ es) ≡ true
  later q e es is = either (e.source == q) (names_source q es) is
    where
      either : (b c : Bool) → c ≡ true → (b || c) ≡ true
      either true c h = refl
      either false c h = h

  or_rest : (q : ℕ) (e : Extent) (es : List Extent) → names_source q (e ∷ es) ≡ true → q ≢ e.source
      → names_source q es ≡ true
  or_rest q e es is apart =
      on_test (e.source == q) (λ same. absurd (apart (sym (eqb-true e.source q same))))
      (λ no. sym (ap (λ b. b || names_source q es) no) ∙ is)

  -- nothing goes with the extent
  stays : (m : Things) (e : Extent) (es : List Extent) → Going m (e ∷ es)
      → ((s : ZcoSource) → source_at w e.source ≡ Some s → is_passing s ≡ true
      → uses_of w e.source ≡ naming e.source all → names_source e.source es ≡ true)
      → Going m es
  stays m e es g last = record {
    fits = record {
      inside = g.fits.inside;
      subjects = g.fits.subjects;
      alone = g.fits.alone;
      used = λ q s is passing. ⊎_elim (λ u. inl u) (λ spare. inr (
        spare.0,
        by_addr q e.source
            (λ here.
            let was : source_at w e.source ≡ Some s =
            ap (source_at w) (sym here) ∙ sym (g.sources q spare.1) ∙ is in
            subst (λ i. names_source i es ≡ true) (sym here)
            (last s was passing (subst (λ i. uses_of w i ≡ naming i all) here spare.0)))
            (or_rest q e es spare.1),
      )) (g.fits.used q s is passing);
    };
    sources = λ q is. g.sources q (later q e es is);
    uses = g.uses;
    charges = g.charges;
  }

  -- the raw object of a source that was taken over
  owned : (subject : Subject) (raw : ℕ) → taken_over subject ≡ Some raw → subject ≡ subjects.Heap raw
  owned (subjects.Heap r) raw is = ap (λ o. subjects.Heap (unwrap_or o r)) is
  owned subject raw is = let no : None ≡ Some raw = is in cc

  has_raw : (n : ℕ) (t : Option (List ℕ)) → HasBytes n t → (text : List ℕ) × (t ≡ Some text)
  has_raw n None h = absurd h
  has_raw n (Some text) h = (text, refl)

  -- a source goes with its last extent
  source_goes : (m : Things) (e : Extent) (es : List Extent) (s : ZcoSource) → Going m (e ∷ es)
      → source_at w e.source ≡ Some s → uses_of w e.source ≡ naming e.source all → names_source e.source es ≡ false
      → Going (lose m e.source) es
  source_goes m e es s g is last none = record {
    fits = fits_dropped m (Spare w all (e ∷ es)) g.fits e.source s there (omega (arith, last, g.uses e.source))
        (Spare w all es)
        (λ q apart spare. (spare.0, or_rest q e es spare.1 apart));
    sources = λ q named.
        ap as_source (apart_at m e.source None q (λ same.
        absurd (true≢false (sym named ∙ ap (λ i. names_source i es) same ∙ none))))
        ∙ g.sources q (later q e es named);
    uses = λ q. omega (
      arith,
      g.uses q,
      uses-with_at q m e.source None,
      ap (uses_at q)
          (source_is (get m e.source) s there),
    );
    charges = λ acct space.
        charge_dropped m e.source acct space s (source_is (get m e.source) s there)
        (omega (arith, last, g.uses e.source)) ∙ g.charges acct space;
  }
    where
      itself : names_source e.source (e ∷ es) ≡ true
      itself = ap (λ b. b || names_source e.source es) (nat_eq_equiv.refl e.source)

      there : source_at (of m) e.source ≡ Some s
      there = g.sources e.source itself ∙ is

  -- and the raw object that it had taken over, which no other names
  raw_goes : (m : Things) (es : List Extent) (raw : ℕ) (text : List ℕ) → Going m es → get m raw ≡ Some (things.Raw text)
      → Unnamed m raw → Going (lose m raw) es
  raw_goes m es raw text g is unnamed = record {
    fits = fits_plain m (Spare w all es) g.fits raw None (subst IsNoZco (sym is) tt) tt (inr unnamed);
    sources = λ q named. same_view as_source m raw None (sym (ap as_source is)) q ∙ g.sources q named;
    uses = λ q. omega (arith, g.uses q, uses-with_at q m raw None, ap (uses_at q) is);
    charges = λ acct space. charge_plain m raw acct space None (subst IsNoZco (sym is) tt) tt ∙ g.charges acct space;
  }

  -- what is there of a source that has taken a raw object over
  pub record TakenOver (m : Things) (raw : ℕ) : Type 0 where
    pub text : List ℕ
    pub there : get m raw ≡ Some (things.Raw text)

  taken_raw : {P : ℕ → Type 0} (m : Things) (a raw : ℕ) (s : ZcoSource) → Fits m P → source_at (of m) a ≡ Some s
      → owned_raw s ≡ Some raw → TakenOver m raw
  taken_raw m a raw s fits is owns =
      let has = has_raw s.length (as_raw (get m raw))
      (subst (HasSubject (of m) s.length) (owned s.subject raw owns) (fits.subjects a s is)) in
      record { text = has.0; there = raw_is (get m raw) has.0 has.1 }

  -- a source goes, and then what it has taken over
  both_go : (m : Things) (e : Extent) (es : List Extent) (s : ZcoSource) → Going m (e ∷ es)
      → source_at w e.source ≡ Some s → uses_of w e.source ≡ naming e.source all → names_source e.source es ≡ false
      → (o : Option ℕ) → owned_raw s ≡ o → Going (without m (option_to_list o ++ e.source ∷ [])) es
  both_go m e es s g is last none None owns = source_goes m e es s g is last none
  both_go m e es s g is last none (Some raw) owns =
      subst (λ n. Going n es) (two_changes m e.source raw None None (λ same. apart (sym same)))
      (raw_goes (lose m e.source) es raw taken.text (source_goes m e es s g is last none)
      (apart_at m e.source None raw apart ∙ taken.there) unnamed)
    where
      there : source_at (of m) e.source ≡ Some s
      there = g.sources e.source (ap (λ b. b || names_source e.source es) (nat_eq_equiv.refl e.source)) ∙ is

      taken : TakenOver m raw
      taken = taken_raw m e.source raw s g.fits there owns

      apart : raw ≢ e.source
      apart same =
          let no : Some (things.Raw taken.text) ≡ Some (things.Source s) =
          sym taken.there ∙ ap (get m) same ∙ source_is (get m e.source) s there in cc

      unnamed : Unnamed (lose m e.source) raw
      unnamed q t at = on_test (is_of_raw raw t.subject) (λ named.
          let away : q ≢ e.source = λ same.
          (let no : None ≡ Some t = sym (ap as_source (here_at m e.source None))
          ∙ ap (λ i. source_at (of (lose m e.source)) i) (sym same) ∙ at in cc) in
          absurd (away (g.fits.alone raw q e.source t s
          (sym (ap as_source (apart_at m e.source None q away)) ∙ at) there
          named (ap (is_of_raw raw) (owned s.subject raw owns) ∙ nat_eq_equiv.refl raw)))) (λ no. no)

  -- what goes with the next extent
  next_goes : (m : Things) (e : Extent) (es : List Extent) → Going m (e ∷ es)
      → Going (without m (gone_with w all es e)) es
  next_goes m e es g =
      on_test (is_last_use w all es e)
      (λ last. subst (λ b. Going (without m (if b then source_blocks e.source (source_at w e.source) else [])) es)
      (sym last)
      (by (source_at w e.source) refl (eqb-true _ _ (both _ _ last).0) (not_true _ (both _ _ last).1)))
      (λ not_last. subst (λ b. Going (without m (if b then source_blocks e.source (source_at w e.source) else [])) es)
      (sym not_last) (stays m e es g (λ s is passing same. named not_last same)))
    where
      both : (b c : Bool) → (b && c) ≡ true → (b ≡ true) × (c ≡ true)
      both true c h = (refl, h)
      both false c h = absurd (true≢false (sym h))

      not_true : (b : Bool) → not b ≡ true → b ≡ false
      not_true false h = refl
      not_true true h = absurd (true≢false (sym h))

      not_false : (b c : Bool) → b ≡ true → (b && not c) ≡ false → c ≡ true
      not_false true true is h = refl
      not_false true false is h = absurd (true≢false h)
      not_false false c is h = absurd (true≢false (sym is))

      named : is_last_use w all es e ≡ false → uses_of w e.source ≡ naming e.source all
          → names_source e.source es ≡ true
      named not_last same =
          not_false (uses_of w e.source == naming e.source all) (names_source e.source es)
          (ap (λ n. nat_eq (uses_of w e.source) n) (sym same) ∙ nat_eq_equiv.refl (uses_of w e.source)) not_last

      passing_goes : (s : ZcoSource) → source_at w e.source ≡ Some s → uses_of w e.source ≡ naming e.source all
          → names_source e.source es ≡ false → (b : Bool) → is_passing s ≡ b
          → Going (without m (if b then option_to_list (owned_raw s) ++ e.source ∷ [] else [])) es
      passing_goes s is last none true passing = both_go m e es s g is last none (owned_raw s) refl
      passing_goes s is last none false not_passing =
          stays m e es g (λ t at passing same.
          let one : Some s ≡ Some t = sym is ∙ at in
          absurd (true≢false (sym passing ∙ ap (λ o. is_passing (unwrap_or o s)) (sym one) ∙ not_passing)))

      by : (o : Option ZcoSource) → source_at w e.source ≡ o → uses_of w e.source ≡ naming e.source all
          → names_source e.source es ≡ false → Going (without m (source_blocks e.source o)) es
      by None is last none =
          stays m e es g (λ t at passing same. let no : None ≡ Some t = sym is ∙ at in cc)
      by (Some s) is last none = passing_goes s is last none (is_passing s) refl

  -- all go
  pub record AllGone (m : Things) : Type 0 where
    pub fits : Fits m NoSpare
    pub charges : (acct : Acct) (space : Space) → things_charge m acct space ≡ total acct space

  pub all_go : (m : Things) (es : List Extent) → Going m es → AllGone (without m (gone_things w all es))
  all_go m [] g = record {
    fits = fits_more (Spare w all []) NoSpare (λ q spare. true≢false (sym spare.1)) g.fits;
    charges = g.charges;
  }
  all_go m (e ∷ es) g =
      subst AllGone (sym (without-append m (gone_with w all es e) (gone_things w all es)))
      (all_go (without m (gone_with w all es e)) es (next_goes m e es g))

  -- what goes is a source or a raw object
  pub gone_apart : (addr : ℕ) → Fits w.things NoSpare → as_source (thing_at w addr) ≡ None
      → as_raw (thing_at w addr) ≡ None → (es : List Extent) → AllByRecursion (λ a. a ≢ addr) (gone_things w all es)
  gone_apart addr fits no_source no_raw [] = tt
  gone_apart addr fits no_source no_raw (e ∷ es) =
      all_append (gone_with w all es e) (gone_things w all es)
      (test (is_last_use w all es e)) (gone_apart addr fits no_source no_raw es)
    where
      all_append : (xs ys : List ℕ) → AllByRecursion (λ a. a ≢ addr) xs → AllByRecursion (λ a. a ≢ addr) ys
          → AllByRecursion (λ a. a ≢ addr) (xs ++ ys)
      all_append [] ys a b = b
      all_append (x ∷ xs) ys a b = (a.0, all_append xs ys a.1 b)

      away : (s : ZcoSource) → source_at w e.source ≡ Some s → e.source ≢ addr
      away s is same = let no : Some s ≡ None = sym is ∙ ap (λ i. as_source (thing_at w i)) same ∙ no_source in cc

      owned_apart : (s : ZcoSource) → source_at w e.source ≡ Some s → (o : Option ℕ) → owned_raw s ≡ o
          → AllByRecursion (λ a. a ≢ addr) (option_to_list o ++ e.source ∷ [])
      owned_apart s is None owns = (away s is, tt)
      owned_apart s is (Some raw) owns = (
        (λ same.
            let taken = taken_raw w.things e.source raw s fits is owns in
            let no : Some taken.text ≡ None =
            sym (ap as_raw taken.there) ∙ ap (λ i. as_raw (thing_at w i)) same ∙ no_raw in cc),
        (away s is, tt),
      )

      passing : (s : ZcoSource) → source_at w e.source ≡ Some s → (b : Bool)
          → AllByRecursion (λ a. a ≢ addr) (if b then option_to_list (owned_raw s) ++ e.source ∷ [] else [])
      passing s is true = owned_apart s is (owned_raw s) refl
      passing s is false = tt

      blocks : (o : Option ZcoSource) → source_at w e.source ≡ o
          → AllByRecursion (λ a. a ≢ addr) (source_blocks e.source o)
      blocks None is = tt
      blocks (Some s) is = passing s is (is_passing s)

      test : (b : Bool)
          → AllByRecursion (λ a. a ≢ addr) (if b then source_blocks e.source (source_at w e.source) else [])
      test true = blocks (source_at w e.source) refl
      test false = tt
