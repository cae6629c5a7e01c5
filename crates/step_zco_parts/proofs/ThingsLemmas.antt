-- Things with the raw objects and sources that headers and trailers become, which stand in front of the others.
use Rattle.std.proofs.Common.{◌≡◌, ◌≢◌, ◌∙◌, ◌+◌, ℕ, List, [], ◌∷◌, ◌++◌, Some, None, refl, sym, ap, subst, append_assoc}
use Rattle.std.specs.FinMap as finite
use Rattle.sdr_base.proofs.SectionLemmas.{section-new}
use Rattle.sdr_base.specs.Entries.{Entries, Swaps}
use Rattle.sdr_base.specs.Section.{section}
use Rattle.law_steps.proofs.BondLaws.{capsule_source, with_all, with_one}
use Rattle.law_steps.proofs.SourceViews.{apart_at, by_addr, here_at}
use Rattle.sdr_model.proofs.ThingsLemmas.{same_things}
use Rattle.sdr_model.specs.Things.{Things}
use Rattle.sdr_model.specs.declared.things.Thing.{Thing}
use Rattle.sdr_model.specs.declared.things.Thing.TheVariants as things
use Rattle.sdr_model.specs.declared.zco.Capsule.{Capsule}
use Rattle.step_zco.proofs.AlikeLemmas.{StandAlike, alike_behind, alike_same, alike_then, is_alike, was_alike}

-- each raw object and source comes where nothing is
abbrev pub Come : Things → (ℕ → ℕ) → ℕ → List Capsule → Type 0
Come m at k [] = Unit {0}
Come m at k (c ∷ cs) =
    (finite.get m (at k) ≡ None) × (finite.get m (at (k + 1)) ≡ None) × (at (k + 1) ≢ at k)
    × Come (with_one m (at k) (at (k + 1)) c) at (k + 3) cs

-- what is there isn't where nothing is
pub elsewhere : (m : Things) (q p : ℕ) (t : Thing) → finite.get m q ≡ Some t → finite.get m p ≡ None → q ≢ p
elsewhere m q p t there none same = let no : Some t ≡ None = sym there ∙ ap (finite.get m) same ∙ none in cc

-- a raw object and its source
module _ (m : Things) (raw addr : ℕ) (c : Capsule) where
  abbrev mid : Things
  mid = finite.insert m raw (things.Raw c.text)

  abbrev source : Thing
  source = things.Source (capsule_source raw c)

  pub apart_one : (q : ℕ) → q ≢ raw → q ≢ addr → finite.get (with_one m raw addr c) q ≡ finite.get m q
  apart_one q away apart =
      apart_at mid addr (Some source) q apart ∙ apart_at m raw (Some (things.Raw c.text)) q away

  pub source_one : finite.get (with_one m raw addr c) addr ≡ Some (things.Source (capsule_source raw c))
  source_one = here_at mid addr (Some source)

  module _ (raw_none : finite.get m raw ≡ None) (none : finite.get m addr ≡ None) (apart : addr ≢ raw) where
    pub raw_one : finite.get (with_one m raw addr c) raw ≡ Some (things.Raw c.text)
    raw_one =
        apart_at mid addr (Some source) raw (λ same. apart (sym same)) ∙ here_at m raw (Some (things.Raw c.text))

    -- the source comes behind the raw object where nothing is
    pub mid_none : finite.get (finite.insert m raw (things.Raw c.text)) addr ≡ None
    mid_none = apart_at m raw (Some (things.Raw c.text)) addr apart ∙ none

    -- what was there is there
    pub kept_one : (q : ℕ) (t : Thing) → finite.get m q ≡ Some t → finite.get (with_one m raw addr c) q ≡ Some t
    kept_one q t there =
        apart_one q (elsewhere m q raw t there raw_none) (elsewhere m q addr t there none) ∙ there

    -- where nothing is, nothing was, and neither of the two is there
    pub none_one : (q : ℕ) → finite.get (with_one m raw addr c) q ≡ None →
        (q ≢ raw) × (q ≢ addr) × (finite.get m q ≡ None)
    none_one q free = (away, far, sym (apart_one q away far) ∙ free)
      where
        away : q ≢ raw
        away same =
            let no : Some (things.Raw c.text) ≡ None =
            sym raw_one ∙ ap (finite.get (with_one m raw addr c)) (sym same) ∙ free in cc

        far : q ≢ addr
        far same =
            let no : Some (things.Source (capsule_source raw c)) ≡ None =
            sym source_one ∙ ap (finite.get (with_one m raw addr c)) (sym same) ∙ free in cc

-- what comes elsewhere comes before or after a thing goes
commutes : (m : Things) (a c : ℕ) (x : Thing) → c ≢ a →
    finite.remove (finite.insert m a x) c ≡ finite.insert (finite.remove m c) a x
commutes m a c x apart =
    let l = finite.remove (finite.insert m a x) c in
    let r = finite.insert (finite.remove m c) a x in
    same_things l r (λ q.
    by_addr q c
    (λ here. ap (finite.get l) here ∙ here_at (finite.insert m a x) c None
    ∙ sym (ap (finite.get r) here ∙ apart_at (finite.remove m c) a (Some x) c apart ∙ here_at m c None))
    (λ off. by_addr q a
    (λ here. apart_at (finite.insert m a x) c None q off ∙ ap (finite.get (finite.insert m a x)) here ∙ here_at m a (Some x)
    ∙ sym (ap (finite.get r) here ∙ here_at (finite.remove m c) a (Some x)))
    (λ far. apart_at (finite.insert m a x) c None q off ∙ apart_at m a (Some x) q far
    ∙ sym (apart_at (finite.remove m c) a (Some x) q far ∙ apart_at m c None q off))))

module _ (at : ℕ → ℕ) where
  -- what was there is there once all have come
  pub kept_all : (m : Things) (k : ℕ) (cs : List Capsule) → Come m at k cs → (q : ℕ) (t : Thing) → finite.get m q ≡ Some t →
      finite.get (with_all m at k cs) q ≡ Some t
  kept_all m k [] come q t there = there
  kept_all m k (c ∷ cs) come q t there =
      kept_all (with_one m (at k) (at (k + 1)) c) (k + 3) cs come.3 q t
      (kept_one m (at k) (at (k + 1)) c come.0 come.1 come.2 q t there)

  -- without a thing that was there, the two may come before it goes
  one_lost : (m : Things) (k : ℕ) (c : Capsule) → finite.get m (at k) ≡ None → finite.get m (at (k + 1)) ≡ None →
      (q : ℕ) (t : Thing) → finite.get m q ≡ Some t →
      finite.remove (with_one m (at k) (at (k + 1)) c) q ≡ with_one (finite.remove m q) (at k) (at (k + 1)) c
  one_lost m k c raw_none none q t there =
      let text = things.Raw c.text in
      let source = things.Source (capsule_source (at k) c) in
      commutes (finite.insert m (at k) text) (at (k + 1)) q source (elsewhere m q (at (k + 1)) t there none)
      ∙ ap (λ (n : Things). finite.insert n (at (k + 1)) source) (commutes m (at k) q text (elsewhere m q (at k) t there raw_none))

  -- so may all
  pub all_lost : (m : Things) (k : ℕ) (cs : List Capsule) → Come m at k cs → (q : ℕ) (t : Thing) → finite.get m q ≡ Some t →
      finite.remove (with_all m at k cs) q ≡ with_all (finite.remove m q) at k cs
  all_lost m k [] come q t there = refl
  all_lost m k (c ∷ cs) come q t there =
      all_lost (with_one m (at k) (at (k + 1)) c) (k + 3) cs come.3 q t
      (kept_one m (at k) (at (k + 1)) c come.0 come.1 come.2 q t there)
      ∙ ap (λ (n : Things). with_all n at (k + 3) cs) (one_lost m k c come.0 come.1 q t there)

  pub come_lost : (m : Things) (k : ℕ) (cs : List Capsule) → Come m at k cs → (q : ℕ) (t : Thing) → finite.get m q ≡ Some t →
      Come (finite.remove m q) at k cs
  come_lost m k [] come q t there = tt
  come_lost m k (c ∷ cs) come q t there = (
    apart_at m q None (at k) (λ same. elsewhere m q (at k) t there come.0 (sym same)) ∙ come.0,
    apart_at m q None (at (k + 1)) (λ same. elsewhere m q (at (k + 1)) t there come.1 (sym same)) ∙ come.1,
    come.2,
    subst (λ (n : Things). Come n at (k + 3) cs) (one_lost m k c come.0 come.1 q t there)
        (come_lost (with_one m (at k) (at (k + 1)) c) (k + 3) cs come.3 q t
        (kept_one m (at k) (at (k + 1)) c come.0 come.1 come.2 q t there)),
  )

-- what these headers and trailers become, as it is written
abbrev pub written : (ℕ → Thing → Entries) → (ℕ → ℕ) → ℕ → List Capsule → Entries
written f at k [] = []
written f at k (c ∷ cs) =
    (f (at (k + 1)) (things.Source (capsule_source (at k) c)) ++ f (at k) (things.Raw c.text)) ++ written f at (k + 3) cs

-- a part may stand in front of another
front : (before part behind : Entries) → StandAlike (before ++ (part ++ behind)) (part ++ (before ++ behind))
front before part behind =
    let s : Swaps (before ++ (part ++ behind)) (before ++ (part ++ behind)) part part =
    record { before = before; behind = behind; was = refl; is = refl } in
    was_alike s

module _ (f : ℕ → Thing → Entries) where
  -- what comes may stand in front
  new_first : (m : Things) (q : ℕ) (t : Thing) → finite.get m q ≡ None →
      StandAlike (section f (finite.insert m q t)) (f q t ++ section f m)
  new_first m q t none =
      let s = section-new f m q t none in
      subst (λ (es : Entries). StandAlike (section f (finite.insert m q t)) (f q t ++ es)) (sym s.was) (is_alike s)

  pub all_first : (m : Things) (at : ℕ → ℕ) (k : ℕ) (cs : List Capsule) → Come m at k cs →
      StandAlike (section f (with_all m at k cs)) (written f at k cs ++ section f m)
  all_first m at k [] come = alike_same refl
  all_first m at k (c ∷ cs) come =
      let raw = at k in
      let addr = at (k + 1) in
      let text = things.Raw c.text in
      let source = things.Source (capsule_source raw c) in
      let others = section f m in
      let one = f addr source ++ f raw text in
      let rest = written f at (k + 3) cs in
      let here : StandAlike (section f (with_one m raw addr c)) (one ++ others) =
      subst (λ (es : Entries). StandAlike (section f (with_one m raw addr c)) es) (sym (append_assoc (f addr source) (f raw text) others))
      (alike_then (new_first (finite.insert m raw text) addr source (mid_none m raw addr c come.0 come.1 come.2))
      (alike_behind (f addr source) (new_first m raw text come.0))) in
      alike_then (all_first (with_one m raw addr c) at (k + 3) cs come.3)
      (alike_then (alike_behind rest here)
      (subst (λ (es : Entries). StandAlike (rest ++ (one ++ others)) es) (sym (append_assoc one rest others))
      (front rest one others)))
