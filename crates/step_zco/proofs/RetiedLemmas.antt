-- One thing of a map is written otherwise, and other blocks come or go with that.
use Rattle.std.proofs.Common.{◌≡◌, ◌≢◌, ℕ, List, [], ◌∷◌, ◌++◌, cond, Some, None, refl, sym, ap, ◌∙◌, subst, append_assoc}
use Rattle.std.specs.List.{flat_map}
use Rattle.std.specs.declared.cmp.Ordering.{Ordering}
use Rattle.std.specs.declared.cmp.Ordering.TheVariants.{Less, Equal, Greater}
use Rattle.std.specs.Ordering.{nat_cmp, is_eq}
use Rattle.std.specs.Cmp.{nat_cmp_total, tied_itself}
use Rattle.std.specs.FinMap as finite
use Rattle.std.specs.FinMap.{FinMap}
use Rattle.sdr_base.specs.Blocks.{Blocks}
use Rattle.sdr_base.specs.Entries.{Changes, Entries, BlocksAre}
use Rattle.sdr_base.specs.Section.{section}
use Rattle.sdr_base.proofs.SectionLemmas.{section-gone}
use Rattle.sdr_base.proofs.StandingLemmas.{moved, moved_back}

-- a part among others comes behind those in front, and goes back
forth : {b : Blocks} (h before part behind rest : Entries) → BlocksAre b (h ++ ((before ++ (part ++ behind)) ++ rest)) →
    BlocksAre b ((h ++ part) ++ ((before ++ behind) ++ rest))
forth {b} h before part behind rest s =
    let one : h ++ ((before ++ (part ++ behind)) ++ rest) ≡ (h ++ before) ++ (part ++ (behind ++ rest)) =
    ap (λ (l : Entries). h ++ l) (append_assoc before (part ++ behind) rest ∙ ap (λ (l : Entries). before ++ l) (append_assoc part behind rest))
    ∙ sym (append_assoc h before (part ++ (behind ++ rest))) in
    let two : (h ++ before) ++ (behind ++ rest) ≡ h ++ ((before ++ behind) ++ rest) =
    append_assoc h before (behind ++ rest) ∙ ap (λ (l : Entries). h ++ l) (sym (append_assoc before behind rest)) in
    subst (λ (es : Entries). BlocksAre b es) (sym (append_assoc h part ((before ++ behind) ++ rest)))
    (moved_back h part ((before ++ behind) ++ rest)
    (subst (λ (es : Entries). BlocksAre b (part ++ es)) two
    (moved (h ++ before) part (behind ++ rest) (subst (λ (es : Entries). BlocksAre b es) one s))))

back : {b : Blocks} (h before part behind rest : Entries) → BlocksAre b ((h ++ part) ++ ((before ++ behind) ++ rest)) →
    BlocksAre b (h ++ ((before ++ (part ++ behind)) ++ rest))
back {b} h before part behind rest s =
    let one : h ++ ((before ++ (part ++ behind)) ++ rest) ≡ (h ++ before) ++ (part ++ (behind ++ rest)) =
    ap (λ (l : Entries). h ++ l) (append_assoc before (part ++ behind) rest ∙ ap (λ (l : Entries). before ++ l) (append_assoc part behind rest))
    ∙ sym (append_assoc h before (part ++ (behind ++ rest))) in
    let two : (h ++ before) ++ (behind ++ rest) ≡ h ++ ((before ++ behind) ++ rest) =
    append_assoc h before (behind ++ rest) ∙ ap (λ (l : Entries). h ++ l) (sym (append_assoc before behind rest)) in
    subst (λ (es : Entries). BlocksAre b es) (sym one)
    (moved_back (h ++ before) part (behind ++ rest)
    (subst (λ (es : Entries). BlocksAre b (part ++ es)) (sym two)
    (moved h part ((before ++ behind) ++ rest)
    (subst (λ (es : Entries). BlocksAre b es) (append_assoc h part ((before ++ behind) ++ rest)) s))))

-- two ways to write things that are alike but at one address
module _ {X : Type 0} (f g : ℕ → X → Entries) (k : ℕ) (same : (q : ℕ) (x : X) → q ≢ k → f q x ≡ g q x) where
  other_key : (q : ℕ) (o : Ordering) → nat_cmp k q ≡ o → o ≢ Equal → q ≢ k
  other_key q o is apart here =
      apart (sym is ∙ ap (nat_cmp k) here ∙ tied_itself nat_cmp_total k)

  -- things none of which is there are written alike
  flat_same : (es : List (ℕ × X)) → finite.find nat_cmp k es ≡ None →
      flat_map (λ e. f e.0 e.1) es ≡ flat_map (λ e. g e.0 e.1) es
  flat_same [] none = refl
  flat_same (e ∷ es) none =
      elim (nat_cmp k e.0) as
      (λ o. nat_cmp k e.0 ≡ o → cond (is_eq o) (Some e.1) (finite.find nat_cmp k es) ≡ None →
      flat_map (λ e. f e.0 e.1) (e ∷ es) ≡ flat_map (λ e. g e.0 e.1) (e ∷ es)) [
        | Less ↦ λ is rest. step (other_key e.0 Less is (λ d. cc)) (flat_same es rest)
        | Equal ↦ λ is rest. cc
        | Greater ↦ λ is rest. step (other_key e.0 Greater is (λ d. cc)) (flat_same es rest)
      ] refl none
    where
      step : e.0 ≢ k → flat_map (λ e. f e.0 e.1) es ≡ flat_map (λ e. g e.0 e.1) es →
          flat_map (λ e. f e.0 e.1) (e ∷ es) ≡ flat_map (λ e. g e.0 e.1) (e ∷ es)
      step apart others =
          ap (λ (l : Entries). l ++ flat_map (λ e. f e.0 e.1) es) (same e.0 e.1 apart)
          ∙ ap (λ (l : Entries). g e.0 e.1 ++ l) others

  section_same : (m : FinMap nat_cmp X) → finite.get m k ≡ None → section f m ≡ section g m
  section_same m none = flat_same (finite.entries m) (sym (finite.get-entries m k) ∙ none)

  -- the one there is written otherwise, and others come or go in front
  pub retied : {b b' : Blocks} (m : FinMap nat_cmp X) (v : X) (h h' rest : Entries) → finite.get m k ≡ Some v →
      finite.get (finite.remove m k) k ≡ None → Changes b b' (h ++ f k v) (h' ++ g k v) →
      BlocksAre b (h ++ (section f m ++ rest)) → BlocksAre b' (h' ++ (section g m ++ rest))
  retied {b} {b'} m v h h' rest is gone c s =
      let p = section-gone f m k v is in
      let q = section-gone g m k v is in
      let left : p.before ++ p.behind ≡ q.before ++ q.behind = sym p.is ∙ section_same (finite.remove m k) gone ∙ q.is in
      subst (λ (es : Entries). BlocksAre b' (h' ++ (es ++ rest))) (sym q.was)
      (back h' q.before (g k v) q.behind rest
      (subst (λ (es : Entries). BlocksAre b' ((h' ++ g k v) ++ (es ++ rest))) left
      (c.kept ((p.before ++ p.behind) ++ rest)
      (forth h p.before (f k v) p.behind rest (subst (λ (es : Entries). BlocksAre b (h ++ (es ++ rest))) p.was s)))))
