-- The extents in a part, once the first and the last of them are cut.
use Rattle.std.proofs.Common.{◌≡◌, ◌≢◌, ◌∙◌, ◌+◌, ◌≤◌, ◌<◌, ◌==◌, ℕ, List, [], ◌∷◌, ◌++◌, Bool, true, false, sym, ap, subst, arith, append_assoc}
use Rattle.std.proofs.lemmas.Bool.{eq-eqb, ne_eqb}
use Rattle.std.proofs.lemmas.List.Elements.{All-cons, All-head, All-nil, All-tail, recursion_from_All}
use Rattle.std.specs.List.{AllByRecursion}
use Rattle.std.specs.Prelude.{All, MatchBool}
use Rattle.sdr_base.proofs.LinkedLemmas.{last-append}
use Rattle.sdr_base.specs.Entries.{Changes}
use Rattle.sdr_base.specs.Linked.{first_of, last_of}
use Rattle.sdr_base.specs.Making.{besides}
use Rattle.sdr_base.specs.Objects.{Heap}
use Rattle.sdr_base.specs.ZcoObjects.{ExtentRow, extent_addr, extent_block, extent_entries}
use Rattle.zco_strip.proofs.ChainChanges.{changes_then}
use Rattle.zco_strip.proofs.ChainLemmas.{chain_cut, one_kept, one_there, still_chain}
use Rattle.zco_strip.proofs.PartLaws.{cut_again, ends_between, ends_in, ends_within}
use Rattle.zco_strip.proofs.PlaceLemmas.{Ends, between, later, same}
use Rattle.zco_strip.specs.Chain.{ChainOf}
use Rattle.zco_strip.specs.Cuts.{HasByte, cut, cut_all, left_out}
use Rattle.zco_strip.specs.Parting.{CutsEnd, CutsTo, EndsBefore, EndsInside}
use Rattle.zco_strip.specs.declared.finding.Place.{Place}
use Rattle.zco_strip.specs.declared.parting.End.{End}
use Rattle.zco_obj.proofs.WalkLemmas.{fits_from}
use Rattle.zco_obj.specs.Kept.{extents_length}
use Rattle.zco_obj.specs.Walks.{KeepsExtent, SomeExtent}

-- what holds of all holds of some first ones
all_front : (P : ExtentRow → Type 0) (xs ys : List ExtentRow) → All P (xs ++ ys) → All P xs
all_front P [] ys all = All-nil P
all_front P (x ∷ xs) ys all =
    All-cons P x xs (All-head P x (xs ++ ys) all) (all_front P xs ys (All-tail P x (xs ++ ys) all))

-- the end of a part was cut, where some bytes of an extent lie in it, or nothing was
end_before : (place : Place) (old new : Heap) (end : End) → place.inside ≡ 0 → CutsEnd place old new end → EndsBefore place old new end
end_before place old new end zero c =
    subst (λ (b : Bool). MatchBool b (EndsBefore place old new end) (EndsInside place old new end)) (eq-eqb place.inside 0 zero) c

end_inside : (place : Place) (old new : Heap) (end : End) → place.inside ≢ 0 → CutsEnd place old new end → EndsInside place old new end
end_inside place old new end some c =
    subst (λ (b : Bool). MatchBool b (EndsBefore place old new end) (EndsInside place old new end)) (ne_eqb place.inside 0 some) c

-- beside the blocks all is as before
pub end_same : (place : Place) (old new : Heap) (end : End) → CutsEnd place old new end → besides new ≡ besides old
end_same place old new end c = by (place.inside == 0) c
  where
    by : (b : Bool) → MatchBool b (EndsBefore place old new end) (EndsInside place old new end) → besides new ≡ besides old
    by true ends = ap besides ends.same
    by false ends = ends.cuts.same

-- the extents in the part, cut to it, of which the first one was cut first; and those behind
pub record Kept (old now : Heap) (before : List ExtentRow) (e : ExtentRow) (behind : List ExtentRow) (a t : ℕ) (end : End) : Type 0 where
  pub more : List ExtentRow
  pub out : List ExtentRow
  pub inside : cut_all a t (e ∷ behind) ≡ cut a t e ∷ more
  pub outside : left_out a t (e ∷ behind) ≡ out
  pub changes : Changes old.blocks now.blocks (extent_entries (before ++ (e ∷ behind)))
      (extent_entries (before ++ ((cut a t e ∷ more) ++ out)))
  pub at_last : end.last ≡ last_of extent_addr 0 (cut a t e ∷ more)
  pub at_next : end.next ≡ first_of extent_addr 0 out

module _ {old mid : Heap} {first : ℕ} (before : List ExtentRow) (e : ExtentRow) (a t : ℕ) (lt : a < e.length)
    (some : a < t) (place : Place) (cuts : CutsTo e.addr a t old mid) where
  -- those behind the first one have bytes
  have_bytes : (es out : List ExtentRow) → ChainOf old.blocks first (before ++ (e ∷ (es ++ out))) →
      AllByRecursion (λ (x : ExtentRow). 1 ≤ x.length) es
  have_bytes es out c =
      recursion_from_All HasByte es (all_front HasByte es out (All-tail HasByte e (es ++ out) (fits_from HasByte before (e ∷ (es ++ out)) c.bytes)))

  -- it ends between two
  module _ {now : Heap} {end : End} (es out : List ExtentRow) (c : ChainOf old.blocks first (before ++ (e ∷ (es ++ out))))
      (sum : extents_length (e ∷ es) ≡ t) where
    kept_between : place.last ≡ last_of extent_addr 0 (e ∷ es) → place.extent ≡ first_of extent_addr 0 out →
        EndsBefore place mid now end → Kept old now before e (es ++ out) a t end
    kept_between last next ends =
        let law = ends_between a t e lt es out (have_bytes es out c) sum in
        record {
          more = es;
          out = out;
          inside = law.0;
          outside = law.1;
          changes = subst (λ (h : Heap). Changes old.blocks h.blocks (extent_entries (before ++ (e ∷ (es ++ out))))
              (extent_entries (before ++ (cut a t e ∷ (es ++ out))))) (sym ends.same) (chain_cut old before e (es ++ out) c a t cuts);
          at_last = ends.last ∙ last;
          at_next = ends.next ∙ next;
        }

  -- it ends in a later one
  module _ (es : List ExtentRow) (x : ExtentRow) (out : List ExtentRow)
      (c : ChainOf old.blocks first (before ++ (e ∷ (es ++ (x ∷ out))))) (at : place.extent ≡ x.addr) where
    abbrev front : List ExtentRow
    front = before ++ (cut a t e ∷ es)

    chain_mid : ChainOf mid.blocks first (front ++ (x ∷ out))
    chain_mid =
        subst (λ (l : List ExtentRow). ChainOf mid.blocks first l) (sym (append_assoc before (cut a t e ∷ es) (x ∷ out)))
        (still_chain old before e (es ++ (x ∷ out)) c a t cuts some lt)

    later_there : SomeExtent (mid.blocks place.extent)
    later_there = subst (λ n. SomeExtent (mid.blocks n)) (sym at) (one_there mid front x out chain_mid)

    kept_later : {now : Heap} {end : End} → 1 ≤ place.inside → place.inside < x.length →
        extents_length (e ∷ es) + place.inside ≡ t → EndsInside place mid now end →
        Kept old now before e (es ++ (x ∷ out)) a t end
    kept_later {now} {end} one below sum ends =
        let b = place.inside in
        let law = ends_in a t e lt es x out b (have_bytes es (x ∷ out) c) one below sum in
        let cx = cut 0 b x in
        let second : CutsTo x.addr 0 b mid now = subst (λ n. CutsTo n 0 b mid now) at ends.cuts in
        let line : before ++ (cut a t e ∷ (es ++ (x ∷ out))) ≡ front ++ (x ∷ out) =
        sym (append_assoc before (cut a t e ∷ es) (x ∷ out)) in
        let line' : front ++ (cx ∷ out) ≡ before ++ ((cut a t e ∷ (es ++ (cx ∷ []))) ++ out) =
        append_assoc before (cut a t e ∷ es) (cx ∷ out)
        ∙ ap (λ (l : List ExtentRow). before ++ (cut a t e ∷ l)) (sym (append_assoc es (cx ∷ []) out)) in
        let one_more : Changes mid.blocks now.blocks (extent_entries (front ++ (x ∷ out))) (extent_entries (front ++ (cx ∷ out))) =
        chain_cut mid front x out chain_mid 0 b second in
        record {
          more = es ++ (cx ∷ []);
          out = out;
          inside = law.0;
          outside = law.1;
          changes =
              changes_then (chain_cut old before e (es ++ (x ∷ out)) c a t cuts)
              (subst (λ (l : List ExtentRow). Changes mid.blocks now.blocks
              (extent_entries (before ++ (cut a t e ∷ (es ++ (x ∷ out))))) (extent_entries l)) line'
              (subst (λ (l : List ExtentRow). Changes mid.blocks now.blocks (extent_entries l) (extent_entries (front ++ (cx ∷ out))))
              (sym line) one_more));
          at_last = ends.last ∙ at ∙ sym (last-append extent_addr extent_block e.addr es (cx ∷ []));
          at_next =
              ends.next (first_of extent_addr 0 out) x
              (subst (λ n. KeepsExtent (mid.blocks n) (first_of extent_addr 0 out) x) (sym at)
              (one_kept front x out chain_mid.chain));
        }

  -- it ends in the same one
  module _ (behind : List ExtentRow) (c : ChainOf old.blocks first (before ++ (e ∷ behind))) (at : place.extent ≡ e.addr) where
    same_chain : ChainOf mid.blocks first (before ++ (cut a t e ∷ behind))
    same_chain = still_chain old before e behind c a t cuts some lt

    same_there : SomeExtent (mid.blocks place.extent)
    same_there = subst (λ n. SomeExtent (mid.blocks n)) (sym at) (one_there mid before (cut a t e) behind same_chain)

    kept_same : {now : Heap} {end : End} → place.inside ≡ t → t < e.length → EndsInside place mid now end →
        Kept old now before e behind a t end
    kept_same {now} {end} is below ends =
        let law = ends_within a t e lt behind some below in
        let again = cut_again a t e lt some below in
        let second : CutsTo e.addr 0 t mid now =
        subst (λ n. CutsTo n 0 t mid now) at (subst (λ n. CutsTo place.extent 0 n mid now) is ends.cuts) in
        record {
          more = [];
          out = behind;
          inside = law.0;
          outside = law.1;
          changes =
              changes_then (chain_cut old before e behind c a t cuts)
              (subst (λ (x : ExtentRow). Changes mid.blocks now.blocks (extent_entries (before ++ (cut a t e ∷ behind)))
              (extent_entries (before ++ (x ∷ behind)))) again (chain_cut mid before (cut a t e) behind same_chain 0 t second));
          at_last = ends.last ∙ at;
          at_next =
              ends.next (first_of extent_addr 0 behind) (cut a t e)
              (subst (λ n. KeepsExtent (mid.blocks n) (first_of extent_addr 0 behind) (cut a t e)) (sym at)
              (one_kept before (cut a t e) behind same_chain.chain));
        }

  -- wherever it ends
  module _ {behind : List ExtentRow} (c : ChainOf old.blocks first (before ++ (e ∷ behind))) where
    chain_with : {l : List ExtentRow} → behind ≡ l → ChainOf old.blocks first (before ++ (e ∷ l))
    chain_with is = subst (λ (l : List ExtentRow). ChainOf old.blocks first (before ++ (e ∷ l))) is c

    -- the extent in which it does is there
    pub end_there : Ends e behind t place → place.inside ≢ 0 → SomeExtent (mid.blocks place.extent)
    end_there (between es out is zero last next sum) nz = absurd (nz zero)
    end_there (later es x out is at one below sum) nz = later_there es x out (chain_with is) at
    end_there (same at is below) nz = same_there behind c at

    pub kept_all : {now : Heap} {end : End} → Ends e behind t place → CutsEnd place mid now end →
        Kept old now before e behind a t end
    kept_all {now} {end} (between es out is zero last next sum) ends =
        subst (λ (l : List ExtentRow). Kept old now before e l a t end) (sym is)
        (kept_between es out (chain_with is) sum last next (end_before place mid now end zero ends))
    kept_all {now} {end} (later es x out is at one below sum) ends =
        subst (λ (l : List ExtentRow). Kept old now before e l a t end) (sym is)
        (kept_later es x out (chain_with is) at one below sum (end_inside place mid now end (λ z. omega (arith, z, one)) ends))
    kept_all {now} {end} (same at is below) ends =
        kept_same behind c at is below (end_inside place mid now end (λ z. omega (arith, z, is, some)) ends)
