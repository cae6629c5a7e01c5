-- The blocks of a world with an object and its sources in front, and what they become where the object is cut to its part.
use Rattle.std.proofs.Common.{◌≡◌, ◌≢◌, ◌∙◌, ℕ, List, [], ◌∷◌, ◌++◌, map, Bool, true, false, Some, None, refl, sym, ap, subst, append_assoc}
use Rattle.std.proofs.lemmas.List.Concat.{flat_map-append}
use Rattle.std.specs.FinMap.{get, remove as lose}
use Rattle.std.specs.List.{AllByRecursion}
use Rattle.std.specs.Prelude.{if◌then◌else◌}
use Rattle.sdr_stands.specs.Rows.{extent_row, object_row}
use Rattle.sdr_stands.specs.Standing.{thing_entries}
use Rattle.sdr_stands.specs.Ties.{Ties, ties_of}
use Rattle.sdr_base.specs.Entries.{Entries}
use Rattle.sdr_base.specs.Section.{section}
use Rattle.sdr_base.specs.ZcoObjects.{object_entries}
use Rattle.sdr_base.specs.declared.account.Acct.{Acct}
use Rattle.law_steps.proofs.GoneLaws.{without}
use Rattle.law_steps.proofs.GoneLemmas.{AreApart}
use Rattle.law_steps.proofs.SourceViews.{apart_at}
use Rattle.sdr_model.specs.Gone.{names_source}
use Rattle.sdr_model.specs.PartSteps.{stripped}
use Rattle.sdr_model.specs.Things.{Things}
use Rattle.sdr_model.specs.Valid.{FitTogether}
use Rattle.sdr_model.specs.World.{World, thing_at}
use Rattle.sdr_model.specs.declared.things.Thing.TheVariants as things
use Rattle.sdr_model.specs.declared.zco.Extent.{Extent}
use Rattle.sdr_model.specs.declared.zco.ZcoObject.{ZcoObject}
use Rattle.step_zco.proofs.AlikeLemmas.{StandAlike, alike_behind, alike_same, alike_then}
use Rattle.step_zco.proofs.GoneChanges.{was_all}
use Rattle.step_zco.proofs.GoneKeys.{all_joined, each_apart, each_key, key_owner, key_things, keys_distinct}
use Rattle.step_zco.proofs.GoneMaps.{AreDistinct, all_at, all_out, still_at}
use Rattle.step_zco.proofs.GoneMoves.{naming_rows}
use Rattle.step_zco.proofs.GoneTies.{source_away, unnamed}
use Rattle.step_zco.proofs.GoneUses.{UsedSource, addresses, all_keys, keys_at, named_of}
use Rattle.step_zco.proofs.GoneWorlds.{left_first, others, own_first}
use Rattle.step_zco.proofs.MovingLemmas.{entries_at}
use Rattle.zco_strip.specs.Cuts as cuts
use Rattle.step_zco_parts.proofs.CutRows.{outside_row, stripped_row}
use Rattle.step_zco_parts.proofs.CutSources.{all, both, first, mine, out, rest, second, without_named}
use Rattle.step_zco_parts.proofs.StripLosses.{cut_world, leaves_cut}
use Rattle.zco_obj.proofs.CountLemmas.{left_after, left_none}
use Rattle.zco_obj.specs.Gone as rows
use Rattle.zco_obj.specs.Gone.{NamedSource, left_of, sources_entries, sources_left}
use Rattle.zco_ref.specs.Kept.{tied_entries}

-- those that are left of some differ from an address, and from one another, where all do
rest_apart : (w : World) (es going : List Extent) (a : ℕ) (us : List (UsedSource w es)) → AreApart a (addresses w es us) →
    AreApart a (addresses w es (without_named w es going us))
rest_apart w es going a [] apart = tt
rest_apart w es going a (u ∷ us) apart = by (names_source u.addr going) (rest_apart w es going a us apart.1)
  where
    by : (b : Bool) → AreApart a (addresses w es (without_named w es going us)) →
        AreApart a (addresses w es (if b then without_named w es going us else u ∷ without_named w es going us))
    by true more = more
    by false more = (apart.0, more)

rest_distinct : (w : World) (es going : List Extent) (us : List (UsedSource w es)) → AreDistinct (addresses w es us) →
    AreDistinct (addresses w es (without_named w es going us))
rest_distinct w es going [] distinct = tt
rest_distinct w es going (u ∷ us) distinct =
    by (names_source u.addr going) (rest_apart w es going u.addr us distinct.0) (rest_distinct w es going us distinct.1)
  where
    by : (b : Bool) → AreApart u.addr (addresses w es (without_named w es going us)) →
        AreDistinct (addresses w es (without_named w es going us)) →
        AreDistinct (addresses w es (if b then without_named w es going us else u ∷ without_named w es going us))
    by true apart more = more
    by false apart more = (apart, more)

-- none of some extents names them
record NoneNames (going : List Extent) (a : ℕ) : Type 0 where
  none : names_source a going ≡ false

rest_unnamed : (w : World) (es going : List Extent) (us : List (UsedSource w es)) →
    AllByRecursion (λ (u : UsedSource w es). NoneNames going u.addr) (without_named w es going us)
rest_unnamed w es going [] = tt
rest_unnamed w es going (u ∷ us) = by (names_source u.addr going) refl (rest_unnamed w es going us)
  where
    by : (b : Bool) → names_source u.addr going ≡ b →
        AllByRecursion (λ (u : UsedSource w es). NoneNames going u.addr) (without_named w es going us) →
        AllByRecursion (λ (u : UsedSource w es). NoneNames going u.addr)
        (if b then without_named w es going us else u ∷ without_named w es going us)
    by true is more = more
    by false is more = (record { none = is }, more)

-- what is at addresses apart from those that go is there still
same_at : (ties : Ties) (m : Things) (addr : ℕ) (gone ks : List ℕ) → AllByRecursion (λ k. k ≢ addr) ks →
    AllByRecursion (λ k. AreApart k gone) ks → all_at ties (without (lose m addr) gone) ks ≡ all_at ties m ks
same_at ties m addr gone [] away apart = refl
same_at ties m addr gone (k ∷ ks) away apart =
    let here : get (without (lose m addr) gone) k ≡ get m k =
    still_at (lose m addr) gone k apart.0 ∙ apart_at m addr None k away.0 in
    λ i. entries_at ties k (here i) ++ same_at ties m addr gone ks away.1 apart.1 i

-- sources that no extent names which goes stay as they are
left_same : (w : World) (es going : List Extent) (acct : Acct) (us : List (UsedSource w es)) →
    AllByRecursion (λ (u : UsedSource w es). NoneNames going u.addr) us →
    sources_left acct (map extent_row going) (map (named_of w es) us) ≡ sources_entries (map (named_of w es) us)
left_same w es going acct [] none = refl
left_same w es going acct (u ∷ us) none =
    let zero : rows.naming u.addr (map extent_row going) ≡ 0 = naming_rows u.addr going ∙ unnamed u.addr going none.0.none in
    let one : left_of acct (map extent_row going) (named_of w es u)
    ≡ tied_entries u.addr (named_of w es u).source u.bytes =
    ap (λ n. left_after acct n (named_of w es u)) zero ∙ left_none acct (named_of w es u) in
    λ i. one i ++ left_same w es going acct us none.1 i

module _ (w : World) (addr : ℕ) (z : ZcoObject) (fits : FitTogether w) (there : thing_at w addr ≡ Some (things.Object z)) where
  abbrev es : List Extent
  es = out w addr z fits there

  abbrev ones : List (UsedSource w z.extents)
  ones = rest w addr z fits there

  abbrev more_keys : List ℕ
  more_keys = all_keys w z.extents ones

  abbrev gone_keys : List ℕ
  gone_keys = all_keys w es (mine w addr z fits there).sources

  -- the things beside the object and the sources that extents outside name
  abbrev m : Things
  m = others w addr z there fits es (Some (stripped z)) (leaves_cut z) (mine w addr z fits there).sources (mine w addr z fits there).are

  -- and beside the other sources, with their blocks
  abbrev pub behind : Entries
  behind = section (thing_entries (ties_of w)) (without m more_keys)

  away : AllByRecursion (λ k. k ≢ addr) more_keys
  away =
      each_key w z.extents (λ k. k ≢ addr)
      (key_things w z.extents (λ k. k ≢ addr)
      (λ q none. source_away w addr z there fits es (Some (stripped z)) (leaves_cut z) (mine w addr z fits there).sources
      (mine w addr z fits there).are q none)) ones

  apart_all : (us : List (UsedSource w z.extents)) → AllByRecursion (λ (u : UsedSource w z.extents). NoneNames es u.addr) us →
      AllByRecursion (λ k. AreApart k gone_keys) (all_keys w z.extents us)
  apart_all [] none = tt
  apart_all (u ∷ us) none =
      let used = mine w addr z fits there in
      all_joined (λ k. AreApart k gone_keys) (keys_at w z.extents u.addr u.source) (all_keys w z.extents us)
      (each_apart w es fits u.addr used.sources (keys_at w z.extents u.addr u.source) (key_owner w z.extents fits u)
      (used.are.apart u.addr none.0.none))
      (apart_all us none.1)

  unnamed_all : AllByRecursion (λ (u : UsedSource w z.extents). NoneNames es u.addr) ones
  unnamed_all = rest_unnamed w z.extents es (all w addr z fits there).sources

  -- the other sources may stand in front of all that is beside
  rest_first : StandAlike (section (thing_entries (ties_of w)) m) (sources_entries (second w addr z fits there) ++ behind)
  rest_first =
      let was : all_at (ties_of w) m more_keys ≡ sources_entries (second w addr z fits there) =
      same_at (ties_of w) w.things addr gone_keys more_keys away (apart_all ones unnamed_all) ∙ was_all w z.extents fits ones in
      subst (λ (bs : Entries). StandAlike (section (thing_entries (ties_of w)) m) (bs ++ behind)) was
      (all_out (ties_of w) m more_keys
      (keys_distinct w z.extents fits ones
      (rest_distinct w z.extents es (all w addr z fits there).sources (all w addr z fits there).are.distinct)))

  -- the object with all sources may stand in front of all others
  pub all_first : StandAlike (section (thing_entries (ties_of w)) w.things)
      ((object_entries addr (object_row z) ++ sources_entries (both w addr z fits there)) ++ behind)
  all_first =
      let used = mine w addr z fits there in
      let A = object_entries addr (object_row z) in
      let B = sources_entries (first w addr z fits there) in
      let C = sources_entries (second w addr z fits there) in
      let line : (A ++ B) ++ (C ++ behind) ≡ (A ++ sources_entries (both w addr z fits there)) ++ behind =
      sym (append_assoc (A ++ B) C behind)
      ∙ ap (λ (bs : Entries). bs ++ behind)
      (append_assoc A B C
      ∙ ap (λ (bs : Entries). A ++ bs)
      (sym (flat_map-append (λ (s : NamedSource). tied_entries s.addr s.source s.bytes) (first w addr z fits there)
      (second w addr z fits there)))) in
      alike_then
      (own_first w addr z there fits es (Some (stripped z)) (leaves_cut z) used.sources used.are)
      (alike_then (alike_behind (A ++ B) rest_first) (alike_same line))

  -- so may the object that was cut, with what is left of them, in the world that is left
  module _ (fits' : FitTogether (cut_world w addr z)) where
    pub cut_first : StandAlike (section (thing_entries (ties_of (cut_world w addr z))) (cut_world w addr z).things)
        ((object_entries addr (cuts.stripped (object_row z))
        ++ sources_left z.account (cuts.outside (object_row z)) (both w addr z fits there)) ++ behind)
    cut_first =
        let used = mine w addr z fits there in
        let A = object_entries addr (object_row (stripped z)) in
        let outside = map extent_row es in
        let B = sources_left z.account outside (first w addr z fits there) in
        let C = sources_entries (second w addr z fits there) in
        let left : B ++ C ≡ sources_left z.account outside (both w addr z fits there) =
        ap (λ (bs : Entries). B ++ bs) (sym (left_same w z.extents es z.account ones unnamed_all))
        ∙ sym (flat_map-append (left_of z.account outside) (first w addr z fits there) (second w addr z fits there)) in
        let line : (A ++ B) ++ (C ++ behind)
        ≡ (object_entries addr (cuts.stripped (object_row z))
        ++ sources_left z.account (cuts.outside (object_row z)) (both w addr z fits there)) ++ behind =
        sym (append_assoc (A ++ B) C behind)
        ∙ ap (λ (bs : Entries). bs ++ behind)
        (append_assoc A B C
        ∙ ap (λ (bs : Entries). A ++ bs) left
        ∙ (λ i. object_entries addr (stripped_row z i)
        ++ sources_left z.account (outside_row z i) (both w addr z fits there))) in
        alike_then
        (left_first w addr z there fits es (Some (stripped z)) (leaves_cut z) used.sources used.are fits')
        (alike_then (alike_behind (A ++ B) rest_first) (alike_same line))
