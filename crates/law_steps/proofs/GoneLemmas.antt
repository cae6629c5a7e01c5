-- The things that go with extents. Where sources and extents fit each other they differ, and have one block each.
use Rattle.std.proofs.Common.{◌≡◌, ◌≢◌, ◌⊎◌, inl, inr, ◌==◌, ◌&&◌, ℕ, List, [], ◌∷◌, ◌++◌, Bool, true, false, not, cond, Option, Some, None, unwrap_or, refl, sym, ap, ◌∙◌, subst, true≢false}
use Rattle.std.specs.Cmp.{nat_eq_equiv}
use Rattle.std.specs.List.{AllByRecursion}
use Rattle.std.specs.Option.{option_to_list}
use Rattle.std.specs.Prelude.{IfSome}
use Rattle.law_steps.proofs.DistinctLemmas.{on_test}
use Rattle.law_steps.proofs.GoneBlocks.{GoAlone, IsLone}
use Rattle.law_steps.proofs.HashShapes.{neither}
use Rattle.law_steps.proofs.ThingLemmas.{raw_is, source_is}
use Rattle.law_steps.proofs.WorldChanges.{thing_at-apart}
use Rattle.sdr_model.specs.Gone.{gone_things, gone_with, is_last_use, is_passing, names_source, source_blocks, without_things}
use Rattle.sdr_model.specs.Steps.{without_thing}
use Rattle.sdr_model.specs.Valid.{FitTogether, HasBytes, HasSubject}
use Rattle.sdr_model.specs.World.{World, as_raw, thing_at}
use Rattle.sdr_model.specs.Zco.{as_source, is_of_raw, taken_over, names_raw, naming, owned_raw, source_at, uses_of}
use Rattle.sdr_model.specs.declared.things.Thing.TheVariants as things
use Rattle.sdr_model.specs.declared.zco.Extent.{Extent}
use Rattle.sdr_model.specs.declared.zco.Subject.{Subject}
use Rattle.sdr_model.specs.declared.zco.Subject.TheVariants as subjects
use Rattle.sdr_model.specs.declared.zco.ZcoSource.{ZcoSource}

-- each of these differs from another address
abbrev pub AreApart : ℕ → List ℕ → Type 0
AreApart addr addrs = AllByRecursion (λ b. b ≢ addr) addrs

-- what is at another address than theirs stays
pub still_there : (w : World) (addrs : List ℕ) (q : ℕ) → AreApart q addrs
    → thing_at (without_things w addrs) q ≡ thing_at w q
still_there w [] q apart = refl
still_there w (addr ∷ addrs) q apart =
    still_there (without_thing w addr) addrs q apart.1
    ∙ thing_at-apart w addr None q (λ same. apart.0 (sym same))

-- each of these things has one block alone, and they differ
abbrev pub AreLone : World → List ℕ → Type 0
AreLone w [] = Unit {0}
AreLone w (addr ∷ addrs) = IsLone (thing_at w addr) × AreApart addr addrs × AreLone w addrs

-- so has each where those before it went
lone_without : (w : World) (addr : ℕ) (addrs : List ℕ) → AreApart addr addrs → AreLone w addrs
    → AreLone (without_thing w addr) addrs
lone_without w addr [] apart lone = tt
lone_without w addr (b ∷ addrs) apart lone = (
  subst IsLone (sym (thing_at-apart w addr None b apart.0)) lone.0,
  lone.1,
  lone_without w addr addrs apart.1 lone.2,
)

pub go_alone : (w : World) (addrs : List ℕ) → AreLone w addrs → GoAlone w addrs
go_alone w [] lone = tt
go_alone w (addr ∷ addrs) lone =
    (lone.0, go_alone (without_thing w addr) addrs (lone_without w addr addrs lone.1 lone.2))

-- joined lists of addresses
apart-append : (addr : ℕ) (a b : List ℕ) → AreApart addr a → AreApart addr b → AreApart addr (a ++ b)
apart-append addr [] b first second = second
apart-append addr (x ∷ a) b first second = (first.0, apart-append addr a b first.1 second)

-- a raw object that a source has taken over, or the source
abbrev pub Belongs : World → ℕ → ℕ → Type 0
Belongs w s k = (source : ZcoSource) × (source_at w s ≡ Some source) × ((k ≡ s) ⊎ (owned_raw source ≡ Some k))

-- the subject of a source that has taken over a raw object
is_heap : (source : ZcoSource) (raw : ℕ) → owned_raw source ≡ Some raw → source.subject ≡ subjects.Heap raw
is_heap source raw is = by source.subject is
  where
    by : (s : Subject) → taken_over s ≡ Some raw → s ≡ subjects.Heap raw
    by (subjects.Heap r) e = ap (λ o. subjects.Heap (unwrap_or o raw)) e
    by (subjects.File path) e = let none : None ≡ Some raw = e in cc
    by (subjects.Bulk item) e = let none : None ≡ Some raw = e in cc
    by (subjects.Obj r) e = let none : None ≡ Some raw = e in cc

module _ (w : World) (fit : FitTogether w) where
  -- a raw object that a source has taken over is there
  owned_there : (s raw : ℕ) (source : ZcoSource) → source_at w s ≡ Some source → owned_raw source ≡ Some raw
      → (text : List ℕ) × (thing_at w raw ≡ Some (things.Raw text))
  owned_there s raw source is owned =
      let has : HasSubject w source.length source.subject =
      subst (λ o. IfSome o (λ s. HasSubject w s.length s.subject)) is (fit.subjects s) in
      let its : HasBytes source.length (as_raw (thing_at w raw)) =
      subst (HasSubject w source.length) (is_heap source raw owned) has in
      by (as_raw (thing_at w raw)) refl its
    where
      by : (o : Option (List ℕ)) → as_raw (thing_at w raw) ≡ o → HasBytes source.length o
          → (text : List ℕ) × (thing_at w raw ≡ Some (things.Raw text))
      by None none has = absurd has
      by (Some text) some has = (text, raw_is _ _ some)

  -- no raw object is a source
  not_both : {R : Type 0} (a b : ℕ) (text : List ℕ) (source : ZcoSource) → thing_at w a ≡ Some (things.Raw text)
      → source_at w b ≡ Some source → a ≡ b → R
  not_both a b text source raw is same =
      let none : None ≡ Some source = sym (ap as_source raw) ∙ ap (source_at w) same ∙ is in absurd cc

  names_own : (raw : ℕ) (source : ZcoSource) → owned_raw source ≡ Some raw
      → names_raw raw (things.Source source) ≡ true
  names_own raw source owned = ap (is_of_raw raw) (is_heap source raw owned) ∙ nat_eq_equiv.refl raw

  -- what belongs to two sources shows them to be one
  one_source : (s t k l : ℕ) → Belongs w s k → Belongs w t l → k ≡ l → s ≡ t
  one_source s t k l (a, is, inl itself) (b, its, inl other) same = sym itself ∙ same ∙ other
  one_source s t k l (a, is, inl itself) (b, its, inr owned) same =
      let raw = owned_there t l b its owned in
      not_both l s raw.0 a raw.1 is (sym same ∙ itself)
  one_source s t k l (a, is, inr owns) (b, its, inl other) same =
      let raw = owned_there s k a is owns in
      not_both k t raw.0 b raw.1 its (same ∙ other)
  one_source s t k l (a, is, inr owns) (b, its, inr owned) same =
      let both = subst (λ o. IfSome o (λ u. IfSome (thing_at w t)
      (λ v. names_raw k u ≡ true → names_raw k v ≡ true → s ≡ t))) (source_is _ _ is) (fit.alone k s t) in
      subst (λ o. IfSome o (λ v. names_raw k (things.Source a) ≡ true → names_raw k v ≡ true → s ≡ t))
      (source_is _ _ its) both (names_own k a owns)
      (names_own k b (owned ∙ ap Some (sym same)))

  -- what goes with an extent belongs to its source
  blocks_belong : (s : ℕ) (o : Option ZcoSource) → source_at w s ≡ o
      → AllByRecursion (λ k. Belongs w s k) (source_blocks s o)
  blocks_belong s None is = tt
  blocks_belong s (Some source) is = on_test (is_passing source)
      (λ e. subst (λ b. AllByRecursion (λ k. Belongs w s k)
      (cond b (option_to_list (owned_raw source) ++ s ∷ []) [])) (sym e) (by (owned_raw source) refl))
      (λ e. subst (λ b. AllByRecursion (λ k. Belongs w s k)
      (cond b (option_to_list (owned_raw source) ++ s ∷ []) [])) (sym e) tt)
    where
      by : (o : Option ℕ) → owned_raw source ≡ o → AllByRecursion (λ k. Belongs w s k) (option_to_list o ++ s ∷ [])
      by None none = ((source, is, inl refl), tt)
      by (Some raw) owns = ((source, is, inr owns), ((source, is, inl refl), tt))

  belong : (all later : List Extent) (e : Extent) → AllByRecursion (λ k. Belongs w e.source k) (gone_with w all later e)
  belong all later e = on_test (is_last_use w all later e)
      (λ l. subst (λ b. AllByRecursion (λ k. Belongs w e.source k)
      (cond b (source_blocks e.source (source_at w e.source)) [])) (sym l)
      (blocks_belong e.source (source_at w e.source) refl))
      (λ l. subst (λ b. AllByRecursion (λ k. Belongs w e.source k)
      (cond b (source_blocks e.source (source_at w e.source)) [])) (sym l) tt)

  -- what belongs to another source differs
  apart_from : (s k t : ℕ) → Belongs w s k → s ≢ t → (addrs : List ℕ) → AllByRecursion (λ l. Belongs w t l) addrs
      → AreApart k addrs
  apart_from s k t its other [] all = tt
  apart_from s k t its other (l ∷ addrs) all = (
    (λ same. other (one_source s t k l its all.0 (sym same))),
    apart_from s k t its other addrs all.1,
  )

  -- so what belongs to a source that none of these extents names differs from all that goes with them
  unnamed_apart : (all es : List Extent) (s k : ℕ) → Belongs w s k → names_source s es ≡ false
      → AreApart k (gone_things w all es)
  unnamed_apart all [] s k its none = tt
  unnamed_apart all (e ∷ es) s k its none =
      let both = neither (e.source == s) (names_source s es) none in
      apart-append k (gone_with w all es e) (gone_things w all es)
      (apart_from s k e.source its (λ same.
      let yes : (e.source == s) ≡ true = ap (λ a. e.source == a) same ∙ nat_eq_equiv.refl e.source in
      true≢false (sym yes ∙ both.0)) (gone_with w all es e) (belong all es e))
      (unnamed_apart all es s k its both.1)

  -- a source and its raw object have one block alone
  lone_blocks : (s : ℕ) (o : Option ZcoSource) → source_at w s ≡ o → (rest : List ℕ) → AreLone w rest
      → ((k : ℕ) → Belongs w s k → AreApart k rest) → AreLone w (source_blocks s o ++ rest)
  lone_blocks s None is rest lone apart = lone
  lone_blocks s (Some source) is rest lone apart = on_test (is_passing source)
      (λ e. subst (λ b. AreLone w (cond b (option_to_list (owned_raw source) ++ s ∷ []) [] ++ rest)) (sym e)
      (by (owned_raw source) refl))
      (λ e. subst (λ b. AreLone w (cond b (option_to_list (owned_raw source) ++ s ∷ []) [] ++ rest)) (sym e) lone)
    where
      own : AreLone w (s ∷ rest)
      own = (
        subst IsLone (sym (source_is _ _ is)) refl,
        apart s (source, is, inl refl),
        lone,
      )

      by : (o : Option ℕ) → owned_raw source ≡ o → AreLone w ((option_to_list o ++ s ∷ []) ++ rest)
      by None none = own
      by (Some raw) owns =
          let there = owned_there s raw source is owns in (
            subst IsLone (sym there.1) refl,
            ((λ same. not_both raw s there.0 source there.1 is (sym same)), apart raw (source, is, inr owns)),
            own,
          )

  -- All that goes with extents has one block alone, and differs.
  pub gone_lone : (all es : List Extent) → AreLone w (gone_things w all es)
  gone_lone all [] = tt
  gone_lone all (e ∷ es) =
      let rest = gone_lone all es in
      let its = source_blocks e.source (source_at w e.source) in
      on_test (is_last_use w all es e)
      (λ l. subst (λ b. AreLone w (cond b its [] ++ gone_things w all es)) (sym l)
      (lone_blocks e.source (source_at w e.source) refl (gone_things w all es) rest
      (λ k belongs. unnamed_apart all es e.source k belongs (last_named l))))
      (λ l. subst (λ b. AreLone w (cond b its [] ++ gone_things w all es)) (sym l) rest)
    where
      last_named : is_last_use w all es e ≡ true → names_source e.source es ≡ false
      last_named l = by (uses_of w e.source == naming e.source all) (names_source e.source es) l
        where
          by : (a b : Bool) → (a && not b) ≡ true → b ≡ false
          by true true l = absurd (true≢false (sym l))
          by true false l = refl
          by false b l = absurd (true≢false (sym l))

  -- and is no object
  pub gone_elsewhere : (all es : List Extent) (addr : ℕ) → as_raw (thing_at w addr) ≡ None → source_at w addr ≡ None
      → AreApart addr (gone_things w all es)
  gone_elsewhere all [] addr no_raw no_source = tt
  gone_elsewhere all (e ∷ es) addr no_raw no_source =
      apart-append addr (gone_with w all es e) (gone_things w all es)
      (each (gone_with w all es e) e.source (belong all es e)) (gone_elsewhere all es addr no_raw no_source)
    where
      other : (s k : ℕ) → Belongs w s k → k ≢ addr
      other s k (source, is, inl itself) same =
          let none : None ≡ Some source = sym no_source ∙ ap (source_at w) (sym same ∙ itself) ∙ is in cc
      other s k (source, is, inr owned) same =
          let raw = owned_there s k source is owned in
          let none : None ≡ Some raw.0 = sym no_raw ∙ ap (λ a. as_raw (thing_at w a)) (sym same) ∙ ap as_raw raw.1 in cc

      each : (addrs : List ℕ) (s : ℕ) → AllByRecursion (λ k. Belongs w s k) addrs → AreApart addr addrs
      each [] s all = tt
      each (k ∷ addrs) s all = (other s k all.0, each addrs s all.1)
