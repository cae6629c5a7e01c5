-- Things without some, and the blocks that they leave.
use Rattle.std.proofs.Common.{◌≡◌, ◌∙◌, ◌⊎◌, inl, inr, ⊎_elim, ℕ, List, [], ◌∷◌, ◌++◌, Option, Some, None, refl, sym, ap, subst, append_assoc}
use Rattle.std.specs.FinMap.{get, remove as lose}
use Rattle.std.specs.List.{AllByRecursion, flat_map}
use Rattle.sdr_stands.specs.Standing.{thing_entries}
use Rattle.sdr_stands.specs.Ties.{Ties}
use Rattle.sdr_base.specs.Entries.{Entries}
use Rattle.sdr_base.specs.Section.{section}
use Rattle.law_steps.proofs.GoneLaws.{without}
use Rattle.law_steps.proofs.GoneLemmas.{AreApart}
use Rattle.law_steps.proofs.SourceViews.{apart_at, by_addr, here_at}
use Rattle.sdr_model.proofs.ThingsLemmas.{same_things, with_at-again}
use Rattle.sdr_model.specs.Things.{Things}
use Rattle.sdr_model.specs.declared.things.Thing.{Thing}
use Rattle.step_zco.proofs.AlikeLemmas.{StandAlike, alike_behind, alike_same, alike_then, one_first}
use Rattle.step_zco.proofs.MovingLemmas.{entries_at}

-- what is at an address that goes, or at another one
pub here_gone : (m : Things) (k q : ℕ) → q ≡ k → get (lose m k) q ≡ None
here_gone m k q here = ap (get (lose m k)) here ∙ here_at m k None

pub still_at : (m : Things) (ks : List ℕ) (q : ℕ) → AreApart q ks → get (without m ks) q ≡ get m q
still_at m [] q apart = refl
still_at m (k ∷ ks) q apart = still_at (lose m k) ks q apart.1 ∙ apart_at m k None q (λ same. apart.0 (sym same))

-- nothing comes where things go
pub none_later : (m : Things) (ks : List ℕ) (q : ℕ) → get m q ≡ None → get (without m ks) q ≡ None
none_later m [] q none = none
none_later m (k ∷ ks) q none =
    none_later (lose m k) ks q (by_addr q k (here_gone m k q) (λ away. apart_at m k None q away ∙ none))

pub was_at : (m : Things) (ks : List ℕ) (q : ℕ) (t : Thing) → get (without m ks) q ≡ Some t → get m q ≡ Some t
was_at m [] q t is = is
was_at m (k ∷ ks) q t is =
    let before : get (lose m k) q ≡ Some t = was_at (lose m k) ks q t is in
    by_addr q k
    (λ here. let no : None ≡ Some t = sym (here_gone m k q here) ∙ before in cc)
    (λ away. sym (apart_at m k None q away) ∙ before)

-- nothing is where they went
pub none_there : (m : Things) (ks : List ℕ) → AllByRecursion (λ k. get (without m ks) k ≡ None) ks
none_there m [] = tt
none_there m (k ∷ ks) = (none_later (lose m k) ks k (here_at m k None), none_there (lose m k) ks)

-- an address is none of theirs, or nothing is there once they went
pub apart_or_gone : (q : ℕ) (ks : List ℕ) → AreApart q ks ⊎ ((m : Things) → get (without m ks) q ≡ None)
apart_or_gone q [] = inl tt
apart_or_gone q (k ∷ ks) =
    by_addr q k
    (λ here. inr (λ m. none_later (lose m k) ks q (here_gone m k q here)))
    (λ away. ⊎_elim (λ apart. inl ((λ same. away (sym same)), apart)) (λ gone. inr (λ m. gone (lose m k)))
    (apart_or_gone q ks))

-- once some of them went, all do as if none had
pub all_without : (m : Things) (some all : List ℕ) → ((q : ℕ) → AreApart q all → AreApart q some) →
    without (without m some) all ≡ without m all
all_without m some all part = same_things _ _ (λ q. by q (apart_or_gone q all))
  where
    by : (q : ℕ) → AreApart q all ⊎ ((n : Things) → get (without n all) q ≡ None) →
        get (without (without m some) all) q ≡ get (without m all) q
    by q (inl apart) =
        still_at (without m some) all q apart ∙ still_at m some q (part q apart) ∙ sym (still_at m all q apart)
    by q (inr gone) = gone (without m some) ∙ sym (gone m)

-- what is there is none of those at which nothing is
pub there_apart : (m : Things) (ks : List ℕ) (q : ℕ) (t : Thing) → AllByRecursion (λ k. get m k ≡ None) ks → get m q ≡ Some t →
    AreApart q ks
there_apart m [] q t none is = tt
there_apart m (k ∷ ks) q t none is = (
  (λ same. let no : None ≡ Some t = sym none.0 ∙ ap (get m) same ∙ is in cc),
  there_apart m ks q t none.1 is,
)

-- addresses that differ
abbrev pub AreDistinct : List ℕ → Type 0
AreDistinct [] = Unit {0}
AreDistinct (k ∷ ks) = AreApart k ks × AreDistinct ks

-- the blocks of what is at some addresses
abbrev pub all_at : Ties → Things → List ℕ → Entries
all_at ties m ks = flat_map (λ k. entries_at ties k (get m k)) ks

module _ (ties : Ties) where
  abbrev all_of : Things → Entries
  all_of m = section (thing_entries ties) m

  -- the blocks of what is at one address may stand in front of the others
  one_out : (m : Things) (k : ℕ) → StandAlike (all_of m) (entries_at ties k (get m k) ++ all_of (lose m k))
  one_out m k = by (get m k) refl
    where
      by : (o : Option Thing) → get m k ≡ o → StandAlike (all_of m) (entries_at ties k o ++ all_of (lose m k))
      by None none = alike_same (ap all_of (sym (with_at-again m k None none)))
      by (Some thing) is = one_first (thing_entries ties) m k thing is

  same_all : (m : Things) (k : ℕ) (ks : List ℕ) → AreApart k ks → all_at ties (lose m k) ks ≡ all_at ties m ks
  same_all m k [] apart = refl
  same_all m k (q ∷ ks) apart =
      λ i. entries_at ties q (apart_at m k None q apart.0 i) ++ same_all m k ks apart.1 i

  -- so may those of what is at several
  pub all_out : (m : Things) (ks : List ℕ) → AreDistinct ks → StandAlike (all_of m) (all_at ties m ks ++ all_of (without m ks))
  all_out m [] distinct = alike_same refl
  all_out m (k ∷ ks) distinct =
      let p = entries_at ties k (get m k) in
      let q = all_at ties m ks in
      let rest = all_of (without (lose m k) ks) in
      let later : StandAlike (all_of (lose m k)) (q ++ rest) =
      subst (λ (es : Entries). StandAlike (all_of (lose m k)) (es ++ rest)) (same_all m k ks distinct.0)
      (all_out (lose m k) ks distinct.1) in
      subst (λ (es : Entries). StandAlike (all_of m) es) (sym (append_assoc p q rest))
      (alike_then (one_out m k) (alike_behind p later))
