-- What the blocks of a world become where extents of an object go, with what goes with them.
use Rattle.std.proofs.Common.{◌≡◌, ◌∙◌, ◌+◌, ◌-◌, ℕ, List, [], ◌∷◌, ◌++◌, map, Bool, true, false, Option, Some, None, eq-eqb, refl, sym, ap, subst, arith}
use Rattle.std.proofs.lemmas.List.Concat.{flat_map-append}
use Rattle.std.specs.FinMap.{get}
use Rattle.std.specs.List.{AllByRecursion}
use Rattle.std.specs.Option.{option_to_list}
use Rattle.std.specs.Prelude.{if◌then◌else◌}
use Rattle.sdr_stands.specs.Rows.{extent_row, medium_of, source_row, subject_number}
use Rattle.sdr_stands.specs.Ties.{Ties, or_null, ties_of}
use Rattle.sdr_base.specs.Entries.{Entries}
use Rattle.sdr_base.specs.Raws.{raw_entries}
use Rattle.sdr_base.specs.ZcoObjects.{ExtentRow}
use Rattle.sdr_base.specs.declared.account.Acct.{Acct}
use Rattle.sdr_base.specs.declared.account.Acct.TheVariants as accts
use Rattle.law_steps.proofs.GoneLemmas.{AreApart}
use Rattle.sdr_model.specs.Accounts.{is_same_account}
use Rattle.sdr_model.specs.Things.{Things}
use Rattle.sdr_model.specs.Valid.{FitTogether}
use Rattle.sdr_model.specs.World.{World, thing_at}
use Rattle.sdr_model.specs.Zco.{as_object, count_of, is_of_raw, naming, owned_raw, raw_of, taken_over}
use Rattle.sdr_model.specs.declared.things.Thing.TheVariants as things
use Rattle.sdr_model.specs.declared.zco.Extent.{Extent}
use Rattle.sdr_model.specs.declared.zco.Subject.{Subject}
use Rattle.sdr_model.specs.declared.zco.Subject.TheVariants as subjects
use Rattle.sdr_model.specs.declared.zco.ZcoObject.{ZcoObject}
use Rattle.sdr_model.specs.declared.zco.ZcoSource.{ZcoSource}
use Rattle.step_zco.proofs.GoneKeys.{all_split, key_owner, key_things, owner_of, raw_apart, stays_apart}
use Rattle.step_zco.proofs.GoneMaps.{all_at}
use Rattle.step_zco.proofs.GoneMoves.{goes_told, naming_rows}
use Rattle.step_zco.proofs.GoneTies.{Leaves, counts_less, lost_at, lost_world, named_no_more, source_away}
use Rattle.step_zco.proofs.GoneUses.{AreUsed, UsedSource, all_gone, all_keys, gone_at, goes, keys_at, named_of}
use Rattle.step_zco.proofs.MovingLemmas.{entries_at}
use Rattle.zco_obj.specs.Gone as rows
use Rattle.zco_obj.specs.Gone.{NamedSource, left_of, less_uses, sources_entries, sources_left}
use Rattle.zco_ref.specs.Going.{blocks_left}
use Rattle.zco_ref.specs.Kept.{CountedSource, counted_entries, raw_part, tied_entries}
use Rattle.step_zco.proofs.NamedLemmas.{named_at}
use Rattle.step_zco.proofs.SourceLemmas.{IsRawOf, counted_in}

-- the blocks of what is at an address
abbrev at_key : Ties → Things → ℕ → Entries
at_key ties m k = entries_at ties k (get m k)

-- a source of a world and its raw object
module _ (v : World) (a : ℕ) (s : ZcoSource) (bytes : List ℕ) (fits : FitTogether v)
    (there : thing_at v a ≡ Some (things.Source s)) where
  raw_stands : (raw : ℕ) → thing_at v raw ≡ Some (things.Raw bytes) → is_of_raw raw s.subject ≡ true →
      entries_at (ties_of v) raw (thing_at v raw) ≡ raw_entries raw a bytes
  raw_stands raw is named =
      ap (entries_at (ties_of v) raw) is
      ∙ ap (λ (o : Option ℕ). raw_entries raw (or_null o) bytes) (named_at v raw a s fits there named)

  -- have the blocks of both
  tied_stands : IsRawOf v s.subject bytes →
      all_at (ties_of v) v.things (a ∷ option_to_list (raw_of s.subject)) ≡ tied_entries a (counted_in v a s) bytes
  tied_stands raw = by s.subject refl raw
    where
      at : entries_at (ties_of v) a (thing_at v a) ≡ counted_entries a (counted_in v a s)
      at = ap (entries_at (ties_of v) a) there

      by : (subject : Subject) → s.subject ≡ subject → IsRawOf v subject bytes →
          all_at (ties_of v) v.things (a ∷ option_to_list (raw_of subject))
          ≡ counted_entries a (counted_in v a s) ++ raw_part (medium_of subject) (subject_number subject) a bytes
      by (subjects.File path) is raw = λ i. at i ++ []
      by (subjects.Bulk item) is raw = λ i. at i ++ []
      by (subjects.Heap raw) is here =
          λ i. at i ++ (raw_stands raw here (ap (is_of_raw raw) is ∙ eq-eqb raw raw refl) i ++ [])
      by (subjects.Obj raw) is here =
          λ i. at i ++ (raw_stands raw here (ap (is_of_raw raw) is ∙ eq-eqb raw raw refl) i ++ [])

-- the blocks of all that extents name
pub was_all : (w : World) (all : List Extent) → FitTogether w → (vs : List (UsedSource w all)) →
    all_at (ties_of w) w.things (all_keys w all vs) ≡ sources_entries (map (named_of w all) vs)
was_all w all fits [] = refl
was_all w all fits (u ∷ vs) =
    flat_map-append (at_key (ties_of w) w.things) (keys_at w all u.addr u.source) (all_keys w all vs)
    ∙ (λ i. tied_stands w u.addr u.source u.bytes fits u.there u.raw i ++ was_all w all fits vs i)

-- an object of a world, and the sources that those of its extents name which go
module _ (w : World) (addr : ℕ) (z : ZcoObject) (there : thing_at w addr ≡ Some (things.Object z)) (fits : FitTogether w)
    (out : List Extent) (new : Option ZcoObject) (l : Leaves z out new) (us : List (UsedSource w out)) (are : AreUsed w out out us)
    (fits' : FitTogether (lost_world w addr out new)) where
  abbrev lost : World
  lost = lost_world w addr out new

  abbrev keys : List ℕ
  keys = all_keys w out us

  abbrev extents : List ExtentRow
  extents = map extent_row out

  abbrev sources : List NamedSource
  sources = map (named_of w out) us

  -- a source counts what is left of its extents
  less_is : (q : ℕ) (s : ZcoSource) → less_uses z.account (rows.naming q extents) (counted_in w q s) ≡ counted_in lost q s
  less_is q s = by z.account (λ acct. counts_less w addr z there fits out new l us are q acct)
    where
      by : (acct : Acct) →
          ((b : Acct) → count_of lost q b + (if is_same_account b acct then naming q out else 0) ≡ count_of w q b) →
          less_uses acct (rows.naming q extents) (counted_in w q s) ≡ counted_in lost q s
      by accts.Inbound less =
          let i = less accts.Inbound in
          let o = less accts.Outbound in
          let same = naming_rows q out in
          let inbound : count_of w q accts.Inbound - rows.naming q extents ≡ count_of lost q accts.Inbound =
          omega (arith, i, same) in
          let outbound : count_of w q accts.Outbound ≡ count_of lost q accts.Outbound = omega (arith, o) in
          λ j. record { inbound = inbound j; outbound = outbound j; row = source_row s }
      by accts.Outbound less =
          let i = less accts.Inbound in
          let o = less accts.Outbound in
          let same = naming_rows q out in
          let outbound : count_of w q accts.Outbound - rows.naming q extents ≡ count_of lost q accts.Outbound =
          omega (arith, o, same) in
          let inbound : count_of w q accts.Inbound ≡ count_of lost q accts.Inbound = omega (arith, i) in
          λ j. record { inbound = inbound j; outbound = outbound j; row = source_row s }

  -- what is left of a source
  module _ (u : UsedSource w out) where
    still : (k : ℕ) → owner_of w k ≡ Some u.addr → as_object (thing_at w k) ≡ None →
        AreApart k (gone_at w out u.addr u.source) → thing_at lost k ≡ thing_at w k
    still k own none apart =
        lost_at w addr z there fits out new l us are k (source_away w addr z there fits out new l us are k none)
        (stays_apart w out fits k u own apart us)

    still_all : gone_at w out u.addr u.source ≡ [] → (ks : List ℕ) → AllByRecursion (λ k. owner_of w k ≡ Some u.addr) ks →
        AllByRecursion (λ k. as_object (thing_at w k) ≡ None) ks → AllByRecursion (λ k. thing_at lost k ≡ thing_at w k) ks
    still_all none [] own objects = tt
    still_all none (k ∷ ks) own objects =
        (still k own.0 objects.0 (subst (AreApart k) (sym none) tt), still_all none ks own.1 objects.1)

    -- it stays, and counts less
    stayed : goes w out u.addr u.source ≡ false →
        all_at (ties_of lost) lost.things (keys_at w out u.addr u.source)
        ≡ tied_entries u.addr (less_uses z.account (rows.naming u.addr extents) (counted_in w u.addr u.source)) u.bytes
    stayed left =
        let none : gone_at w out u.addr u.source ≡ [] =
        ap (λ (b : Bool). if b then option_to_list (owned_raw u.source) ++ u.addr ∷ [] else []) left in
        let all = still_all none (keys_at w out u.addr u.source) (key_owner w out fits u)
        (key_things w out (λ k. as_object (thing_at w k) ≡ None) (λ q is. is) u) in
        tied_stands lost u.addr u.source u.bytes fits' (all.0 ∙ u.there) (by u.source.subject all.1 u.raw)
        ∙ ap (λ (c : CountedSource). tied_entries u.addr c u.bytes) (sym (less_is u.addr u.source))
      where
        by : (subject : Subject) → AllByRecursion (λ k. thing_at lost k ≡ thing_at w k) (option_to_list (raw_of subject)) →
            IsRawOf w subject u.bytes → IsRawOf lost subject u.bytes
        by (subjects.File path) same raw = tt
        by (subjects.Bulk item) same raw = tt
        by (subjects.Heap raw) same here = same.0 ∙ here
        by (subjects.Obj raw) same here = same.0 ∙ here

    -- it goes, and leaves the raw object that it has not taken over
    went : goes w out u.addr u.source ≡ true →
        AllByRecursion (λ k. thing_at lost k ≡ None) (gone_at w out u.addr u.source) →
        all_at (ties_of lost) lost.things (keys_at w out u.addr u.source)
        ≡ blocks_left (medium_of u.source.subject) (subject_number u.source.subject) u.bytes
    went goes_too none =
        let gone : gone_at w out u.addr u.source ≡ option_to_list (owned_raw u.source) ++ u.addr ∷ [] =
        ap (λ (b : Bool). if b then option_to_list (owned_raw u.source) ++ u.addr ∷ [] else []) goes_too in
        by u.source.subject refl gone u.raw (subst (AllByRecursion (λ k. thing_at lost k ≡ None)) gone none)
      where
        left : ℕ → Entries
        left raw = entries_at (ties_of lost) raw (thing_at lost raw)

        unnamed : (raw : ℕ) → u.source.subject ≡ subjects.Obj raw →
            gone_at w out u.addr u.source ≡ u.addr ∷ [] → thing_at w raw ≡ Some (things.Raw u.bytes) →
            thing_at lost u.addr ≡ None → left raw ≡ raw_entries raw 0 u.bytes
        unnamed raw is gone here none =
            let named : is_of_raw raw u.source.subject ≡ true = ap (is_of_raw raw) is ∙ eq-eqb raw raw refl in
            let own : owner_of w raw ≡ Some u.addr =
            (subst (λ (x : Subject). AllByRecursion (λ k. owner_of w k ≡ Some u.addr) (option_to_list (raw_of x))) is
            (key_owner w out fits u).1).0 in
            let apart : AreApart raw (gone_at w out u.addr u.source) =
            subst (AreApart raw) (sym gone) ((λ same. raw_apart w out raw u.bytes u here (sym same)), tt) in
            let stays : thing_at lost raw ≡ Some (things.Raw u.bytes) = still raw own (ap as_object here) apart ∙ here in
            ap (entries_at (ties_of lost) raw) stays
            ∙ ap (λ (o : Option ℕ). raw_entries raw (or_null o) u.bytes)
            (named_no_more w addr z there fits out new l us are fits' raw u.addr u.source u.there named none)

        by : (subject : Subject) → u.source.subject ≡ subject →
            gone_at w out u.addr u.source ≡ option_to_list (taken_over subject) ++ u.addr ∷ [] →
            IsRawOf w subject u.bytes →
            AllByRecursion (λ k. thing_at lost k ≡ None) (option_to_list (taken_over subject) ++ u.addr ∷ []) →
            all_at (ties_of lost) lost.things (u.addr ∷ option_to_list (raw_of subject))
            ≡ blocks_left (medium_of subject) (subject_number subject) u.bytes
        by (subjects.File path) is gone raw none = λ i. entries_at (ties_of lost) u.addr (none.0 i) ++ []
        by (subjects.Bulk item) is gone raw none = λ i. entries_at (ties_of lost) u.addr (none.0 i) ++ []
        by (subjects.Heap raw) is gone here none =
            λ i. entries_at (ties_of lost) u.addr (none.1.0 i) ++ (entries_at (ties_of lost) raw (none.0 i) ++ [])
        by (subjects.Obj raw) is gone here none =
            λ i. entries_at (ties_of lost) u.addr (none.0 i) ++ (unnamed raw is gone here none.0 i ++ [])

    left_one : AllByRecursion (λ k. thing_at lost k ≡ None) (gone_at w out u.addr u.source) →
        all_at (ties_of lost) lost.things (keys_at w out u.addr u.source)
        ≡ left_of z.account extents (named_of w out u)
    left_one none = by (goes w out u.addr u.source) refl
      where
        choice : Bool → Entries
        choice b =
            if b then blocks_left (medium_of u.source.subject) (subject_number u.source.subject) u.bytes
            else tied_entries u.addr (less_uses z.account (rows.naming u.addr extents) (counted_in w u.addr u.source)) u.bytes

        by : (b : Bool) → goes w out u.addr u.source ≡ b →
            all_at (ties_of lost) lost.things (keys_at w out u.addr u.source)
            ≡ left_of z.account extents (named_of w out u)
        by true is = went is none ∙ sym (ap choice (goes_told w out u ∙ is))
        by false is = stayed is ∙ sym (ap choice (goes_told w out u ∙ is))

  pub left_all : (vs : List (UsedSource w out)) → AllByRecursion (λ k. thing_at lost k ≡ None) (all_gone w out vs) →
      all_at (ties_of lost) lost.things (all_keys w out vs)
      ≡ sources_left z.account extents (map (named_of w out) vs)
  left_all [] none = refl
  left_all (u ∷ vs) none =
      let parts = all_split (λ k. thing_at lost k ≡ None) (gone_at w out u.addr u.source) (all_gone w out vs) none in
      flat_map-append (at_key (ties_of lost) lost.things) (keys_at w out u.addr u.source) (all_keys w out vs)
      ∙ (λ i. left_one u parts.0 i ++ left_all vs parts.1 i)
