-- Sources and extents fit each other, where what is at one address changes.
use Rattle.std.proofs.Common.{◌≡◌, ◌≢◌, ◌⊎◌, inl, inr, ⊎_elim, ℕ, ◌≤◌, true, true≢false, Option, Some, None, refl, sym, ap, ◌∙◌, subst, arith}
use Rattle.std.specs.FinMap.{get}
use Rattle.std.specs.Option.{option_map}
use Rattle.std.specs.Prelude.{unwrap_or}
use Rattle.law_steps.proofs.Effects.{IsNoZco, KeepsBytes}
use Rattle.law_steps.proofs.ThingLemmas.{source_is}
use Rattle.sdr_model.specs.Gone.{is_passing}
use Rattle.sdr_model.specs.SourceSteps.{flagged}
use Rattle.sdr_model.specs.Things.{with_at, Things}
use Rattle.sdr_model.specs.Valid.{HasBytes, HasSubject, LiesInside}
use Rattle.sdr_model.specs.World.{as_raw}
use Rattle.sdr_model.specs.Zco.{as_object, as_source, is_of_raw, object_at, source_at, uses_of}
use Rattle.sdr_model.specs.declared.things.Thing.{Thing}
use Rattle.sdr_model.specs.declared.things.Thing.TheVariants as things
use Rattle.sdr_model.specs.declared.zco.Extent.{Extent}
use Rattle.sdr_model.specs.declared.zco.ZcoObject.{ZcoObject}
use Rattle.sdr_model.specs.declared.zco.ZcoSource.{ZcoSource}
use Rattle.law_steps.proofs.SourceViews.{AllLie, Fits, Unnamed, all_lie, apart_at, by_addr, each_lies, here_at, names_apart, of, same_view, source_there, subject_kept, uses-with_at, uses_at, uses_there}

module _ (m : Things) (Spare : ℕ → Type 0) (fits : Fits m Spare) (addr : ℕ) (o : Option Thing) where
  abbrev pub n : Things
  n = with_at m addr o

  -- neither source nor object comes or goes, and raw objects that are named stay
  pub fits_plain : IsNoZco (get m addr) → IsNoZco o → KeepsBytes (get m addr) o ⊎ Unnamed m addr → Fits n Spare
  fits_plain was is bytes = record {
    inside = λ q z is. each_lies m n z.extents (fits.inside q z (sym (objects q) ∙ is))
        (λ e h. subst (LiesInside e) (sym (sources e.source)) h);
    subjects = λ q s is. let was = sym (sources q) ∙ is in
        subject_kept m n s.length s.subject (λ raw named h. kept q s raw was named h) (fits.subjects q s was);
    alone = λ raw a b s t here there. fits.alone raw a b s t (sym (sources a) ∙ here) (sym (sources b) ∙ there);
    used = λ q s is passing. subst (λ k. (1 ≤ k) ⊎ Spare q) (sym (uses q))
        (fits.used q s (sym (sources q) ∙ is) passing);
  }
    where
      no_source : (t : Option Thing) → IsNoZco t → as_source t ≡ None
      no_source None h = refl
      no_source (Some (things.Source s)) h = absurd h
      no_source (Some t) h = refl

      no_object : (t : Option Thing) → IsNoZco t → as_object t ≡ None
      no_object None h = refl
      no_object (Some (things.Object s)) h = absurd h
      no_object (Some t) h = refl

      no_uses : (q : ℕ) (t : Option Thing) → IsNoZco t → uses_at q t ≡ 0
      no_uses q None h = refl
      no_uses q (Some (things.Object s)) h = absurd h
      no_uses q (Some t) h = refl

      sources : (q : ℕ) → source_at (of n) q ≡ source_at (of m) q
      sources = same_view as_source m addr o (no_source o is ∙ sym (no_source (get m addr) was))

      objects : (q : ℕ) → object_at (of n) q ≡ object_at (of m) q
      objects = same_view as_object m addr o (no_object o is ∙ sym (no_object (get m addr) was))

      uses : (q : ℕ) → uses_of (of n) q ≡ uses_of (of m) q
      uses q = omega (arith, uses-with_at q m addr o, no_uses q o is, no_uses q (get m addr) was)

      kept : (q : ℕ) (s : ZcoSource) (raw : ℕ) → source_at (of m) q ≡ Some s → is_of_raw raw s.subject ≡ true
          → HasBytes s.length (as_raw (get m raw)) → HasBytes s.length (as_raw (get n raw))
      kept q s raw there named h =
          by_addr raw addr
          (λ here. ⊎_elim
          (λ keeps. subst (λ i. HasBytes s.length (as_raw (get n i))) (sym here)
          (subst (λ t. HasBytes s.length (as_raw t)) (sym (here_at m addr o))
          (keeps s.length (subst (λ i. HasBytes s.length (as_raw (get m i))) here h))))
          (λ unnamed. absurd (true≢false (sym named ∙ ap (λ i. is_of_raw i s.subject) here ∙ unnamed q s there))) bytes)
          (λ apart. subst (λ t. HasBytes s.length (as_raw t)) (sym (apart_at m addr o raw apart)) h)

-- a source comes, is flagged or goes, or an object comes, goes or is another
module _ (m : Things) (Spare : ℕ → Type 0) (fits : Fits m Spare) (addr : ℕ) where
  -- a new source comes
  pub fits_source : (s : ZcoSource) → get m addr ≡ None → HasSubject (of m) s.length s.subject
      → ((raw : ℕ) → is_of_raw raw s.subject ≡ true → Unnamed m raw) → (is_passing s ≡ true → Spare addr)
      → Fits (with_at m addr (Some (things.Source s))) Spare
  fits_source s none subject alone passing = record {
    inside = λ q z is. each_lies m (after s) z.extents (fits.inside q z (sym (objects q) ∙ is))
        (λ e h. subst (LiesInside e) (sym (apart_source e.source (other e h))) h);
    subjects = λ q t is. subject_kept m (after s) t.length t.subject
        (λ raw named h. subst (HasBytes t.length) (sym (raws raw)) h) (subject_of q t is);
    alone = λ raw a b t u here there named named'. only raw a b t u here there named named';
    used = λ q t is pass. subst (λ k. (1 ≤ k) ⊎ Spare q) (sym (uses q))
        (by_addr q addr
        (λ here. inr (subst Spare (sym here)
        (passing (subst (λ u. is_passing u ≡ true) (sym (the_source q t here is)) pass))))
        (λ apart. fits.used q t (sym (apart_source q apart) ∙ is) pass));
  }
    where
      after : ZcoSource → Things
      after s = with_at m addr (Some (things.Source s))

      objects : (q : ℕ) → object_at (of (after s)) q ≡ object_at (of m) q
      objects = same_view as_object m addr (Some (things.Source s)) (sym (ap as_object none))

      raws : (q : ℕ) → as_raw (get (after s) q) ≡ as_raw (get m q)
      raws = same_view as_raw m addr (Some (things.Source s)) (sym (ap as_raw none))

      uses : (q : ℕ) → uses_of (of (after s)) q ≡ uses_of (of m) q
      uses q = omega (arith, uses-with_at q m addr (Some (things.Source s)), ap (uses_at q) none)

      apart_source : (q : ℕ) → q ≢ addr → source_at (of (after s)) q ≡ source_at (of m) q
      apart_source q apart = ap as_source (apart_at m addr (Some (things.Source s)) q apart)

      the_source : (q : ℕ) (t : ZcoSource) → q ≡ addr → source_at (of (after s)) q ≡ Some t → s ≡ t
      the_source q t here is =
          let same : Some s ≡ Some t = sym (ap as_source (here_at m addr (Some (things.Source s))))
          ∙ ap (λ i. source_at (of (after s)) i) (sym here) ∙ is in cc

      other : (e : Extent) → LiesInside e (source_at (of m) e.source) → e.source ≢ addr
      other e h same = source_there e (source_at (of m) e.source) h
          (ap (λ i. source_at (of m) i) same ∙ ap as_source none)

      subject_of : (q : ℕ) (t : ZcoSource) → source_at (of (after s)) q ≡ Some t → HasSubject (of m) t.length t.subject
      subject_of q t is =
          by_addr q addr
          (λ here. subst (λ (t : ZcoSource). HasSubject (of m) t.length t.subject) (the_source q t here is) subject)
          (λ apart. fits.subjects q t (sym (apart_source q apart) ∙ is))

      none_else : {R : Type 0} (raw q : ℕ) (t : ZcoSource) → is_of_raw raw s.subject ≡ true → q ≢ addr
          → source_at (of (after s)) q ≡ Some t → is_of_raw raw t.subject ≡ true → R
      none_else raw q t named apart is named' =
          absurd (true≢false (sym named' ∙ alone raw named q t (sym (apart_source q apart) ∙ is)))

      only : (raw a b : ℕ) (t u : ZcoSource) → source_at (of (after s)) a ≡ Some t → source_at (of (after s)) b ≡ Some u
          → is_of_raw raw t.subject ≡ true → is_of_raw raw u.subject ≡ true → a ≡ b
      only raw a b t u here there named named' =
          by_addr a addr
          (λ at_a. by_addr b addr (λ at_b. at_a ∙ sym at_b)
          (λ apart. none_else raw b u
          (subst (λ (t : ZcoSource). is_of_raw raw t.subject ≡ true)
          (sym (the_source a t at_a here)) named) apart there named'))
          (λ apart_a. by_addr b addr
          (λ at_b. none_else raw a t
          (subst (λ (t : ZcoSource). is_of_raw raw t.subject ≡ true)
          (sym (the_source b u at_b there)) named') apart_a here named)
          (λ apart_b. fits.alone raw a b t u (sym (apart_source a apart_a) ∙ here)
          (sym (apart_source b apart_b) ∙ there)
          named named'))

  -- a source that is named is flagged
  pub fits_flagged : (s : ZcoSource) → source_at (of m) addr ≡ Some s → 1 ≤ uses_of (of m) addr
      → Fits (with_at m addr (Some (things.Source (flagged s)))) Spare
  fits_flagged s was some = record {
    inside = λ q z is. each_lies m after z.extents (fits.inside q z (sym (objects q) ∙ is)) (λ e h.
        by_addr e.source addr
        (λ here. subst (LiesInside e) (sym (there e.source here)) (subst (LiesInside e) (was_there e.source here) h))
        (λ apart. subst (LiesInside e) (sym (apart_source e.source apart)) h));
    subjects = λ q t is.
        let old = before q t is in
        subject_kept m after t.length t.subject (λ raw named h. subst (HasBytes t.length) (sym (raws raw)) h)
        (subst (λ n. HasSubject (of m) n t.subject) old.3
        (subst (HasSubject (of m) old.0.length) old.2 (fits.subjects q old.0 old.1)));
    alone = λ raw a b t u here there named named'.
        let one = before a t here in
        let two = before b u there in
        fits.alone raw a b one.0 two.0 one.1 two.1
        (ap (is_of_raw raw) one.2 ∙ named) (ap (is_of_raw raw) two.2 ∙ named');
    used = λ q t is pass. subst (λ k. (1 ≤ k) ⊎ Spare q) (sym (uses q))
        (by_addr q addr (λ here. inl (subst (λ i. 1 ≤ uses_of (of m) i) (sym here) some))
        (λ apart. fits.used q t (sym (apart_source q apart) ∙ is) pass));
  }
    where
      after : Things
      after = with_at m addr (Some (things.Source (flagged s)))

      thing : get m addr ≡ Some (things.Source s)
      thing = source_is (get m addr) s was

      objects : (q : ℕ) → object_at (of after) q ≡ object_at (of m) q
      objects = same_view as_object m addr (Some (things.Source (flagged s))) (sym (ap as_object thing))

      raws : (q : ℕ) → as_raw (get after q) ≡ as_raw (get m q)
      raws = same_view as_raw m addr (Some (things.Source (flagged s))) (sym (ap as_raw thing))

      uses : (q : ℕ) → uses_of (of after) q ≡ uses_of (of m) q
      uses q = omega (arith, uses-with_at q m addr (Some (things.Source (flagged s))), ap (uses_at q) thing)

      apart_source : (q : ℕ) → q ≢ addr → source_at (of after) q ≡ source_at (of m) q
      apart_source q apart = ap as_source (apart_at m addr (Some (things.Source (flagged s))) q apart)

      there : (q : ℕ) → q ≡ addr → source_at (of after) q ≡ Some (flagged s)
      there q here = ap (λ i. source_at (of after) i) here ∙ ap as_source
          (here_at m addr (Some (things.Source (flagged s))))

      was_there : (q : ℕ) → q ≡ addr → source_at (of m) q ≡ Some s
      was_there q here = ap (λ i. source_at (of m) i) here ∙ was

      before : (q : ℕ) (t : ZcoSource) → source_at (of after) q ≡ Some t
          → (old : ZcoSource) × (source_at (of m) q ≡ Some old) × (old.subject ≡ t.subject) × (old.length ≡ t.length)
      before q t is =
          by_addr q addr
          (λ here. let same : Some (flagged s) ≡ Some t = sym (there q here) ∙ is in
          (s, was_there q here, ap (λ o. (unwrap_or o s).subject) same, ap (λ o. (unwrap_or o s).length) same))
          (λ apart. (t, sym (apart_source q apart) ∙ is, refl, refl))

  -- a source that isn't named goes
  pub fits_dropped : (s : ZcoSource) → source_at (of m) addr ≡ Some s → uses_of (of m) addr ≡ 0
      → (Less : ℕ → Type 0) → ((q : ℕ) → q ≢ addr → Spare q → Less q) → Fits (with_at m addr None) Less
  fits_dropped s was unused Less less = record {
    inside = λ q z is.
        let old : object_at (of m) q ≡ Some z = sym (objects q) ∙ is in
        all_lie m after (λ e. e.source ≢ addr) z.extents
        (names_apart addr z.extents (omega (arith, unused, uses_there addr m q z old)))
        (fits.inside q z old) (λ e apart h. subst (LiesInside e) (sym (apart_source e.source apart)) h);
    subjects = λ q t is. subject_kept m after t.length t.subject
        (λ raw named h. subst (HasBytes t.length) (sym (raws raw)) h) (fits.subjects q t (before q t is));
    alone = λ raw a b t u here there. fits.alone raw a b t u (before a t here) (before b u there);
    used = λ q t is pass. subst (λ k. (1 ≤ k) ⊎ Less q) (sym (uses q))
        (⊎_elim (λ u. inl u) (λ spare. inr (less q (not_there q t is) spare)) (fits.used q t (before q t is) pass));
  }
    where
      after : Things
      after = with_at m addr None

      thing : get m addr ≡ Some (things.Source s)
      thing = source_is (get m addr) s was

      objects : (q : ℕ) → object_at (of after) q ≡ object_at (of m) q
      objects = same_view as_object m addr None (sym (ap as_object thing))

      raws : (q : ℕ) → as_raw (get after q) ≡ as_raw (get m q)
      raws = same_view as_raw m addr None (sym (ap as_raw thing))

      uses : (q : ℕ) → uses_of (of after) q ≡ uses_of (of m) q
      uses q = omega (arith, uses-with_at q m addr None, ap (uses_at q) thing)

      apart_source : (q : ℕ) → q ≢ addr → source_at (of after) q ≡ source_at (of m) q
      apart_source q apart = ap as_source (apart_at m addr None q apart)

      not_there : (q : ℕ) (t : ZcoSource) → source_at (of after) q ≡ Some t → q ≢ addr
      not_there q t is here =
          let none : None ≡ Some t = sym (ap as_source (here_at m addr None))
          ∙ ap (λ i. source_at (of after) i) (sym here) ∙ is in cc

      before : (q : ℕ) (t : ZcoSource) → source_at (of after) q ≡ Some t → source_at (of m) q ≡ Some t
      before q t is = sym (apart_source q (not_there q t is)) ∙ is

  -- an object comes, goes or is another
  pub fits_object : (o : Option ZcoObject) → as_source (get m addr) ≡ None → as_raw (get m addr) ≡ None
      → ((z : ZcoObject) → o ≡ Some z → AllLie m z.extents)
      → (More : ℕ → Type 0)
      → ((q : ℕ) (s : ZcoSource) → source_at (of m) q ≡ Some s → is_passing s ≡ true
      → (1 ≤ uses_of (of (with_at m addr (option_map (λ z. things.Object z) o))) q) ⊎ More q)
      → Fits (with_at m addr (option_map (λ z. things.Object z) o)) More
  fits_object o no_source no_raw lie More used = record {
    inside = λ q z is. each_lies m after z.extents
        (by_addr q addr (λ here. lie z (the_object q z here is))
        (λ apart. fits.inside q z (sym (ap as_object (apart_at m addr thing q apart)) ∙ is)))
        (λ e h. subst (LiesInside e) (sym (sources e.source)) h);
    subjects = λ q s is. subject_kept m after s.length s.subject
        (λ raw named h. subst (HasBytes s.length) (sym (raws raw)) h) (fits.subjects q s (sym (sources q) ∙ is));
    alone = λ raw a b s t here there. fits.alone raw a b s t (sym (sources a) ∙ here) (sym (sources b) ∙ there);
    used = λ q s is pass. used q s (sym (sources q) ∙ is) pass;
  }
    where
      thing : Option Thing
      thing = option_map (λ z. things.Object z) o

      after : Things
      after = with_at m addr thing

      none_of : (o : Option ZcoObject) → as_source (option_map (λ z. things.Object z) o) ≡ None
      none_of None = refl
      none_of (Some z) = refl

      no_raw_of : (o : Option ZcoObject) → as_raw (option_map (λ z. things.Object z) o) ≡ None
      no_raw_of None = refl
      no_raw_of (Some z) = refl

      object_of : (o : Option ZcoObject) → as_object (option_map (λ z. things.Object z) o) ≡ o
      object_of None = refl
      object_of (Some z) = refl

      sources : (q : ℕ) → source_at (of after) q ≡ source_at (of m) q
      sources = same_view as_source m addr thing (none_of o ∙ sym no_source)

      raws : (q : ℕ) → as_raw (get after q) ≡ as_raw (get m q)
      raws = same_view as_raw m addr thing (no_raw_of o ∙ sym no_raw)

      the_object : (q : ℕ) (z : ZcoObject) → q ≡ addr → object_at (of after) q ≡ Some z → o ≡ Some z
      the_object q z here is =
          sym (object_of o) ∙ sym (ap as_object (here_at m addr thing)) ∙ ap (λ i. object_at (of after) i)
          (sym here) ∙ is
