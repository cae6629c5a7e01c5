-- Lists of blocks of which the one stands wherever the other does, and things whose blocks stand in front of all others.
use Rattle.std.proofs.Common.{◌≡◌, ◌∙◌, ◌&&◌, ℕ, List, [], ◌∷◌, ◌++◌, Bool, true, false, T, cond, Some, None, refl, sym, ap, subst, append_assoc}
use Rattle.std.specs.Cmp.{nat_cmp_total, tied_itself}
use Rattle.std.specs.FinMap as finite
use Rattle.std.specs.FinMap.{FinMap}
use Rattle.std.specs.FinMap.Entries.{below_all}
use Rattle.std.specs.List.{flat_map}
use Rattle.std.specs.Ordering.{nat_cmp, is_eq, is_lt}
use Rattle.std.specs.declared.cmp.Ordering.{Ordering}
use Rattle.std.specs.declared.cmp.Ordering.TheVariants.{Less, Equal, Greater}
use Rattle.sdr_base.proofs.SectionLemmas.{section-gone}
use Rattle.sdr_base.proofs.StandingLemmas.{moved}
use Rattle.sdr_base.specs.Blocks.{Blocks}
use Rattle.sdr_base.specs.Entries.{Entries, BlocksAre, Swaps}
use Rattle.sdr_base.specs.Section.{section}

-- with whatever stands behind, the one list stands where the other does
pub record StandAlike (xs ys : Entries) : Type 0 where
  pub forth : (b : Blocks) (rest : Entries) → BlocksAre b (xs ++ rest) → BlocksAre b (ys ++ rest)
  pub back : (b : Blocks) (rest : Entries) → BlocksAre b (ys ++ rest) → BlocksAre b (xs ++ rest)

pub alike_same : {xs ys : Entries} → xs ≡ ys → StandAlike xs ys
alike_same {xs} same = subst (λ (es : Entries). StandAlike xs es) same (record { forth = λ b rest s. s; back = λ b rest s. s })

pub alike_then : {xs ys zs : Entries} → StandAlike xs ys → StandAlike ys zs → StandAlike xs zs
alike_then one two = record {
  forth = λ b rest s. two.forth b rest (one.forth b rest s);
  back = λ b rest s. one.back b rest (two.back b rest s);
}

-- so they do behind others
pub alike_behind : {xs ys : Entries} (part : Entries) → StandAlike xs ys → StandAlike (part ++ xs) (part ++ ys)
alike_behind {xs} {ys} part alike = record {
  forth = λ b rest s. behind b xs ys rest (alike.forth b (part ++ rest)) s;
  back = λ b rest s. behind b ys xs rest (alike.back b (part ++ rest)) s;
}
  where
    behind : (b : Blocks) (us vs rest : Entries) →
        (BlocksAre b (us ++ (part ++ rest)) → BlocksAre b (vs ++ (part ++ rest))) →
        BlocksAre b ((part ++ us) ++ rest) → BlocksAre b ((part ++ vs) ++ rest)
    behind b us vs rest goes s =
        subst (λ (es : Entries). BlocksAre b es) (sym (append_assoc part vs rest))
        (moved vs part rest
        (goes (moved part us rest (subst (λ (es : Entries). BlocksAre b es) (append_assoc part us rest) s))))

-- a part may stand in front of the others
front_alike : (before part behind : Entries) → StandAlike (before ++ (part ++ behind)) (part ++ (before ++ behind))
front_alike before part behind = record {
  forth = λ b rest s. step b before part rest s;
  back = λ b rest s. step b part before rest s;
}
  where
    line : (xs ys rest : Entries) → (xs ++ (ys ++ behind)) ++ rest ≡ xs ++ (ys ++ (behind ++ rest))
    line xs ys rest = append_assoc xs (ys ++ behind) rest ∙ ap (λ (es : Entries). xs ++ es) (append_assoc ys behind rest)

    step : (b : Blocks) (xs ys rest : Entries) → BlocksAre b ((xs ++ (ys ++ behind)) ++ rest) →
        BlocksAre b ((ys ++ (xs ++ behind)) ++ rest)
    step b xs ys rest s =
        subst (λ (es : Entries). BlocksAre b es) (sym (line ys xs rest))
        (moved xs ys (behind ++ rest) (subst (λ (es : Entries). BlocksAre b es) (line xs ys rest) s))

-- the part that another takes the place of, or that takes it, may
pub was_alike : {es es' part part' : Entries} (w : Swaps es es' part part') → StandAlike es (part ++ (w.before ++ w.behind))
was_alike {part = part} w = alike_then (alike_same w.was) (front_alike w.before part w.behind)

pub is_alike : {es es' part part' : Entries} (w : Swaps es es' part part') → StandAlike es' (part' ++ (w.before ++ w.behind))
is_alike {part' = part'} w = alike_then (alike_same w.is) (front_alike w.before part' w.behind)

-- a thing of a map may stand in front of the others
pub one_first : {X : Type 0} (f : ℕ → X → Entries) (m : FinMap nat_cmp X) (k : ℕ) (x : X) → finite.get m k ≡ Some x →
    StandAlike (section f m) (f k x ++ section f (finite.remove m k))
one_first f m k x is =
    let gone = section-gone f m k x is in
    subst (λ (es : Entries). StandAlike (section f m) (f k x ++ es)) (sym gone.is) (was_alike gone)

-- a key below others is none of theirs
not_below : {X : Type 0} (k : ℕ) (es : List (ℕ × X)) → T (below_all nat_cmp k es) → finite.find nat_cmp k es ≡ None
not_below k [] h = refl
not_below k (e ∷ es) h =
    elim (nat_cmp k e.0) as
    (λ o. T (is_lt o && below_all nat_cmp k es) → cond (is_eq o) (Some e.1) (finite.find nat_cmp k es) ≡ None) [
      | Less ↦ λ h. not_below k es h
      | Equal ↦ λ h. absurd h
      | Greater ↦ λ h. absurd h
    ] h

both : (a b : Bool) → T (a && b) → T a × T b
both true b h = (tt, h)
both false b h = absurd h

-- two ways to write things
module _ {X : Type 0} (f g : ℕ → X → Entries) where
  -- that are alike for each that is found write the same
  flat_alike : (es : List (ℕ × X)) → T (finite.is_sorted nat_cmp es) →
      ((k : ℕ) (x : X) → finite.find nat_cmp k es ≡ Some x → f k x ≡ g k x) →
      flat_map (λ e. f e.0 e.1) es ≡ flat_map (λ e. g e.0 e.1) es
  flat_alike [] sorted alike = refl
  flat_alike (e ∷ es) sorted alike =
      ap (λ (l : Entries). l ++ flat_map (λ e. f e.0 e.1) es)
      (alike e.0 e.1 (ap (λ o. cond (is_eq o) (Some e.1) (finite.find nat_cmp e.0 es)) (tied_itself nat_cmp_total e.0)))
      ∙ ap (λ (l : Entries). g e.0 e.1 ++ l)
      (flat_alike es parts.1 (λ k x is. alike k x (later k x (nat_cmp k e.0) refl is)))
    where
      parts : T (below_all nat_cmp e.0 es) × T (finite.is_sorted nat_cmp es)
      parts = both (below_all nat_cmp e.0 es) (finite.is_sorted nat_cmp es) sorted

      later : (k : ℕ) (x : X) (o : Ordering) → nat_cmp k e.0 ≡ o → finite.find nat_cmp k es ≡ Some x →
          cond (is_eq o) (Some e.1) (finite.find nat_cmp k es) ≡ Some x
      later k x Less o_is is = is
      later k x Greater o_is is = is
      later k x Equal o_is is =
          let same : k ≡ e.0 = finite.nat_cmp-IsAntisymmetric k e.0 o_is in
          let none : finite.find nat_cmp k es ≡ None =
          ap (λ q. finite.find nat_cmp q es) same ∙ not_below e.0 es parts.0 in
          let no : None ≡ Some x = sym none ∙ is in cc

  -- so they do of all things of a map
  pub section_alike : (m : FinMap nat_cmp X) → ((k : ℕ) (x : X) → finite.get m k ≡ Some x → f k x ≡ g k x) →
      section f m ≡ section g m
  section_alike m alike =
      flat_alike (finite.entries m) (finite.entries_sorted m) (λ k x is. alike k x (finite.get-entries m k ∙ is))
