-- The blocks of a world with a clone in front, whose sources count its extents.
use Rattle.std.proofs.Common.{◌≡◌, ◌≢◌, ◌∙◌, ◌+◌, ℕ, List, [], ◌∷◌, ◌++◌, map, Bool, true, false, cond, eq-eqb, Option, Some, None, refl, sym, ap, subst, arith, if◌then◌else◌}
use Rattle.std.proofs.lemmas.Bool.{ne_eqb}
use Rattle.std.proofs.lemmas.List.Concat.{flat_map-append}
use Rattle.std.specs.FinMap as finite
use Rattle.std.specs.Option.{option_to_list}
use Rattle.sdr_stands.proofs.TiesLemmas.{same_first}
use Rattle.sdr_stands.specs.Rows.{medium_of, object_row, source_row, subject_number}
use Rattle.sdr_stands.specs.Standing.{thing_entries}
use Rattle.sdr_stands.specs.Ties.{names_raw_at, or_null, ties_of}
use Rattle.sdr_base.specs.Entries.{Entries}
use Rattle.sdr_base.specs.Raws.{raw_entries}
use Rattle.sdr_base.specs.Section.{section}
use Rattle.sdr_base.specs.ZcoObjects.{object_entries}
use Rattle.sdr_base.specs.declared.account.Acct.{Acct}
use Rattle.sdr_base.specs.declared.account.Acct.TheVariants as accts
use Rattle.law_steps.proofs.GoneLemmas.{AreApart}
use Rattle.law_steps.proofs.SourceViews.{here_at, sum_by-with_at}
use Rattle.sdr_model.proofs.SumLemmas.{counted_at}
use Rattle.sdr_model.proofs.ThingsLemmas.{with_at-again}
use Rattle.sdr_model.specs.Accounts.{is_same_account}
use Rattle.sdr_model.specs.Gone.{names_source}
use Rattle.sdr_model.specs.PartSteps.{object_of}
use Rattle.sdr_model.specs.Things.{Things}
use Rattle.sdr_model.specs.Valid.{FitTogether}
use Rattle.sdr_model.specs.World.{World, thing_at}
use Rattle.sdr_model.specs.Zco.{count_of, is_of_raw, naming, raw_of, source_naming, uses_in}
use Rattle.sdr_model.specs.declared.things.Thing.{Thing}
use Rattle.sdr_model.specs.declared.things.Thing.TheVariants as things
use Rattle.sdr_model.specs.declared.zco.Extent.{Extent}
use Rattle.sdr_model.specs.declared.zco.Subject.{Subject}
use Rattle.sdr_model.specs.declared.zco.Subject.TheVariants as subjects
use Rattle.sdr_model.specs.declared.zco.ZcoObject.{ZcoObject}
use Rattle.sdr_model.specs.declared.zco.ZcoSource.{ZcoSource}
use Rattle.step_zco.proofs.AlikeLemmas.{StandAlike, alike_behind, alike_then, one_first, section_alike}
use Rattle.step_zco.proofs.AppendLemmas.{lost_again, written_alike}
use Rattle.step_zco.proofs.GoneKeys.{all_split, each_key, key_things, keys_distinct}
use Rattle.step_zco.proofs.GoneMaps.{AreDistinct, all_at, all_out, none_there, there_apart}
use Rattle.step_zco.proofs.GoneTies.{leaves_none, source_away}
use Rattle.step_zco.proofs.GoneUses.{AreUsed, IsFound, UsedSource, all_keys, keys_at, named_of}
use Rattle.step_zco.proofs.GoneWorlds.{beside, keys, others}
use Rattle.step_zco.proofs.MovingLemmas.{entries_at}
use Rattle.zco_obj.specs.Gone as rows
use Rattle.zco_obj.specs.Gone.{sources_entries}
use Rattle.zco_obj.specs.declared.extent.ExtentPiece.{ExtentPiece}
use Rattle.zco_part.specs.Sources.{all_counted, more_uses, pieces_of}
use Rattle.zco_ref.specs.Kept.{CountedSource, counted_entries, raw_part, tied_entries}
use Rattle.step_zco.proofs.NamedLemmas.{named_at}
use Rattle.step_zco.proofs.SourceLemmas.{IsRawOf, counted_in}

-- what stands at a source's address, or at one of its raw object, is found by the extents that name it
found_apart : (w : World) (all : List Extent) (us : List (UsedSource w all)) (q : ℕ) → AreApart q (all_keys w all us) →
    IsFound w all us q → ⊥
found_apart w all us q apart f = no (sym (unfound us apart) ∙ f.is)
  where
    no : {x : rows.NamedSource} → None ≡ Some x → ⊥
    no is = cc

    unfound : (vs : List (UsedSource w all)) → AreApart q (all_keys w all vs) → rows.source_at q (map (named_of w all) vs) ≡ None
    unfound [] apart = refl
    unfound (v ∷ vs) apart =
        let parts = all_split (λ b. b ≢ q) (keys_at w all v.addr v.source) (all_keys w all vs) apart in
        ap (λ (b : Bool). cond b (Some (named_of w all v)) (rows.source_at q (map (named_of w all) vs))) (ne_eqb v.addr q parts.0.0)
        ∙ unfound vs parts.1

-- an object of these extents alone comes where nothing is
module _ (w : World) (clone : ℕ) (acct : Acct) (es : List Extent) (none : thing_at w clone ≡ None) where
  abbrev new : Thing
  new = things.Object (object_of acct es)

  abbrev pub cloned : World
  cloned = record w { things = finite.insert w.things clone new }

  -- no raw object is named otherwise
  same_on : (raw : ℕ) → source_naming cloned raw ≡ source_naming w raw
  same_on raw = same_first raw w.things clone (Some new) (ap (names_raw_at raw) none)

  -- a source counts for the account what names it
  more_counted : (q : ℕ) (a : Acct) → count_of cloned q a ≡ count_of w q a + (if is_same_account a acct then naming q es else 0)
  more_counted q a =
      let uses = λ (x : ℕ × Thing). uses_in q a x.1 in
      let sums = sum_by-with_at uses w.things clone (Some new) in
      let was = ap (counted_at uses clone) none in omega (arith, sums, was)

  pub counted_then : (q : ℕ) (s : ZcoSource) → counted_in cloned q s ≡ more_uses acct (naming q es) (counted_in w q s)
  counted_then q s = by acct (λ a. more_counted q a)
    where
      by : (b : Acct) → ((a : Acct) → count_of cloned q a ≡ count_of w q a + (if is_same_account a b then naming q es else 0)) →
          counted_in cloned q s ≡ more_uses b (naming q es) (counted_in w q s)
      by accts.Inbound counts =
          let other : count_of cloned q accts.Outbound ≡ count_of w q accts.Outbound = omega (arith, counts accts.Outbound) in
          λ i. record { inbound = counts accts.Inbound i; outbound = other i; row = source_row s }
      by accts.Outbound counts =
          let other : count_of cloned q accts.Inbound ≡ count_of w q accts.Inbound = omega (arith, counts accts.Inbound) in
          λ i. record { inbound = other i; outbound = counts accts.Outbound i; row = source_row s }

  others_counted : (q : ℕ) → naming q es ≡ 0 → (a : Acct) → count_of cloned q a ≡ count_of w q a
  others_counted q zero a = by (is_same_account a acct) (more_counted q a)
    where
      by : (b : Bool) → count_of cloned q a ≡ count_of w q a + (if b then naming q es else 0) → count_of cloned q a ≡ count_of w q a
      by true more = omega (arith, zero, more)
      by false more = omega (arith, more)

  abbrev f : ℕ → Thing → Entries
  f = thing_entries (ties_of w)

  abbrev g : ℕ → Thing → Entries
  g = thing_entries (ties_of cloned)

  -- the clone may stand in front of the things that were there
  clone_first : StandAlike (section g cloned.things) (object_entries clone (object_row (object_of acct es)) ++ section g w.things)
  clone_first =
      let gone : finite.remove cloned.things clone ≡ w.things =
      lost_again w.things clone new ∙ with_at-again w.things clone None none in
      subst (λ (m : Things). StandAlike (section g cloned.things) (object_entries clone (object_row (object_of acct es)) ++ section g m))
      gone (one_first g cloned.things clone new (here_at w.things clone (Some new)))

  -- of an object of the world, with the sources that its extents name, which name all that the clone's name
  module _ (addr : ℕ) (z : ZcoObject) (there : thing_at w addr ≡ Some (things.Object z)) (fits : FitTogether w)
      (us : List (UsedSource w z.extents)) (are : AreUsed w z.extents z.extents us) (ps : List ExtentPiece)
      (all : (q : ℕ) → pieces_of q ps ≡ naming q es) (only : (q : ℕ) → names_source q z.extents ≡ false → naming q es ≡ 0) where
    -- the addresses of the sources and of their raw objects, the things beside them and the object, and those things' blocks
    abbrev own_keys : List ℕ
    own_keys = keys w addr z there fits z.extents None (leaves_none z) us are

    abbrev things_beside : Things
    things_beside = others w addr z there fits z.extents None (leaves_none z) us are

    abbrev pub blocks_beside : Entries
    blocks_beside = beside w addr z there fits z.extents None (leaves_none z) us are

    -- a source and its raw object
    raw_now : (u : UsedSource w z.extents) (raw : ℕ) → thing_at w raw ≡ Some (things.Raw u.bytes) →
        is_of_raw raw u.source.subject ≡ true →
        entries_at (ties_of cloned) raw (thing_at w raw) ≡ raw_entries raw u.addr u.bytes
    raw_now u raw is named =
        ap (entries_at (ties_of cloned) raw) is
        ∙ ap (λ (o : Option ℕ). raw_entries raw (or_null o) u.bytes) (same_on raw ∙ named_at w raw u.addr u.source fits u.there named)

    tied_now : (u : UsedSource w z.extents) →
        all_at (ties_of cloned) w.things (keys_at w z.extents u.addr u.source)
        ≡ tied_entries u.addr (counted_in cloned u.addr u.source) u.bytes
    tied_now u = by u.source.subject refl u.raw
      where
        at : entries_at (ties_of cloned) u.addr (thing_at w u.addr) ≡ counted_entries u.addr (counted_in cloned u.addr u.source)
        at = ap (entries_at (ties_of cloned) u.addr) u.there

        by : (subject : Subject) → u.source.subject ≡ subject → IsRawOf w subject u.bytes →
            all_at (ties_of cloned) w.things (u.addr ∷ option_to_list (raw_of subject))
            ≡ counted_entries u.addr (counted_in cloned u.addr u.source)
            ++ raw_part (medium_of subject) (subject_number subject) u.addr u.bytes
        by (subjects.File path) is raw = λ i. at i ++ []
        by (subjects.Bulk item) is raw = λ i. at i ++ []
        by (subjects.Heap raw) is here =
            λ i. at i ++ (raw_now u raw here (ap (is_of_raw raw) is ∙ eq-eqb raw raw refl) i ++ [])
        by (subjects.Obj raw) is here =
            λ i. at i ++ (raw_now u raw here (ap (is_of_raw raw) is ∙ eq-eqb raw raw refl) i ++ [])

    -- have the blocks of both, and count the clone's extents
    sources_now : (vs : List (UsedSource w z.extents)) →
        all_at (ties_of cloned) w.things (all_keys w z.extents vs)
        ≡ sources_entries (all_counted acct ps (map (named_of w z.extents) vs))
    sources_now [] = refl
    sources_now (u ∷ vs) =
        let one : all_at (ties_of cloned) w.things (keys_at w z.extents u.addr u.source)
        ≡ tied_entries u.addr (more_uses acct (pieces_of u.addr ps) (counted_in w u.addr u.source)) u.bytes =
        tied_now u
        ∙ ap (λ (c : CountedSource). tied_entries u.addr c u.bytes)
        (counted_then u.addr u.source ∙ ap (λ (n : ℕ). more_uses acct n (counted_in w u.addr u.source)) (sym (all u.addr))) in
        flat_map-append (λ (k : ℕ). entries_at (ties_of cloned) k (finite.get w.things k)) (keys_at w z.extents u.addr u.source)
        (all_keys w z.extents vs)
        ∙ (λ i. one i ++ sources_now vs i)

    -- the others are written as they were
    unnamed : (q : ℕ) → AreApart q own_keys → naming q es ≡ 0
    unnamed q apart = by (names_source q z.extents) refl
      where
        by : (b : Bool) → names_source q z.extents ≡ b → naming q es ≡ 0
        by true named = absurd (found_apart w z.extents us q apart (are.found q named))
        by false none = only q none

    beside_now : section g things_beside ≡ blocks_beside
    beside_now =
        section_alike g f things_beside (λ q thing is.
        written_alike (ties_of cloned) (ties_of w) q thing (ap or_null (same_on q))
        (λ a. others_counted q (unnamed q (there_apart things_beside own_keys q thing (none_there (finite.remove w.things addr) own_keys) is)) a))

    distinct : AreDistinct (addr ∷ own_keys)
    distinct = (
      each_key w z.extents (λ k. k ≢ addr)
          (key_things w z.extents (λ k. k ≢ addr) (λ q no. source_away w addr z there fits z.extents None (leaves_none z) us are q no)) us,
      keys_distinct w z.extents fits us are.distinct,
    )

    -- so the clone, the object and the sources may stand in front of all others
    pub cloned_first : StandAlike (section g cloned.things)
        (object_entries clone (object_row (object_of acct es))
        ++ ((object_entries addr (object_row z) ++ sources_entries (all_counted acct ps (map (named_of w z.extents) us)))
        ++ blocks_beside))
    cloned_first =
        let now : all_at (ties_of cloned) w.things (addr ∷ own_keys)
        ≡ object_entries addr (object_row z) ++ sources_entries (all_counted acct ps (map (named_of w z.extents) us)) =
        λ i. entries_at (ties_of cloned) addr (there i) ++ sources_now us i in
        alike_then clone_first
        (alike_behind (object_entries clone (object_row (object_of acct es)))
        (subst (λ (es' : Entries). StandAlike (section g w.things) es') (λ i. now i ++ beside_now i)
        (all_out (ties_of cloned) w.things (addr ∷ own_keys) distinct)))
