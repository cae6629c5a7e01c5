-- The sources that an object's extents name: those that the extents outside its part name, and then the others.
use Rattle.std.proofs.Common.{◌≡◌, ◌≢◌, ◌∙◌, ◌+◌, ◌≤◌, ℕ, ◌==◌, List, [], ◌∷◌, ◌++◌, map, Bool, true, false, true≢false, cond, Option, Some, None, refl, sym, ap, subst, arith}
use Rattle.std.proofs.lemmas.Bool.{ne_eqb}
use Rattle.std.proofs.lemmas.List.Elements.{All-append, All-cons, All-nil}
use Rattle.std.proofs.lemmas.List.Folds.{find-append}
use Rattle.std.specs.Option.{option_or}
use Rattle.std.specs.Prelude.{All, if◌then◌else◌}
use Rattle.step_things.proofs.ListLemmas.{IsSmall}
use Rattle.step_things.specs.Answering.{IsReady}
use Rattle.sdr_stands.specs.Rows.{extent_row}
use Rattle.sdr_stands.specs.Standing.{HeapStandsFor}
use Rattle.sdr_base.specs.Objects.{Heap}
use Rattle.sdr_base.specs.ZcoObjects.{ExtentRow}
use Rattle.sdr_base.specs.declared.account.Acct.{Acct}
use Rattle.sdr_base.specs.declared.account.Acct.TheVariants as accts
use Rattle.law_steps.proofs.SourceViews.{of}
use Rattle.sdr_model.specs.Accounts.{is_same_account}
use Rattle.sdr_model.specs.Gone.{names_source}
use Rattle.sdr_model.specs.PartSteps.{outside_part, part_end}
use Rattle.sdr_model.specs.Valid.{FitTogether, LiesInside}
use Rattle.sdr_model.specs.World.{World, thing_at}
use Rattle.sdr_model.specs.Zco.{as_source, count_of, naming, source_at}
use Rattle.sdr_model.specs.declared.things.Thing.TheVariants as things
use Rattle.sdr_model.specs.declared.zco.Extent.{Extent}
use Rattle.sdr_model.specs.declared.zco.ZcoObject.{ZcoObject}
use Rattle.sdr_model.specs.declared.zco.ZcoSource.{ZcoSource}
use Rattle.step_zco.proofs.DestroyKept.{lie, used}
use Rattle.step_zco.proofs.GoneMoves.{naming_rows}
use Rattle.step_zco.proofs.GoneTies.{counts_less, leaves_none, lost_world}
use Rattle.step_zco.proofs.GoneUses.{UsedBy, UsedSource, itself, named_later, named_of, not_found, used_by}
use Rattle.step_zco_parts.proofs.CutRows.{out_all}
use Rattle.zco_obj.specs.Gone as rows
use Rattle.zco_obj.specs.Gone.{NamedSource}
use Rattle.zco_obj.specs.Uses.{AreNamed, CountsUses, IsThere}
use Rattle.zco_ref.specs.Kept.{count_in}
use Rattle.step_zco.proofs.ObjectLemmas.{short_source}
use Rattle.step_zco.proofs.SourceLemmas.{counted_in, source_stands}

-- a source of a world is found among these rows
pub record IsRowOf (w : World) (ss : List NamedSource) (q : ℕ) : Type 0 where
  pub source : ZcoSource
  pub bytes : List ℕ
  pub there : thing_at w q ≡ Some (things.Source source)
  pub is : rows.source_at q ss ≡ Some (record { addr = q; source = counted_in w q source; bytes = bytes })

-- the sources that none of some extents names
abbrev pub without_named : (w : World) (all out : List Extent) → List (UsedSource w all) → List (UsedSource w all)
without_named w all out [] = []
without_named w all out (u ∷ us) =
    if names_source u.addr out then without_named w all out us else u ∷ without_named w all out us

-- where none of them names a source, it is found as before
kept_found : (w : World) (all out : List Extent) (q : ℕ) (us : List (UsedSource w all)) → names_source q out ≡ false →
    rows.source_at q (map (named_of w all) (without_named w all out us)) ≡ rows.source_at q (map (named_of w all) us)
kept_found w all out q [] none = refl
kept_found w all out q (u ∷ us) none = by (names_source u.addr out) refl (kept_found w all out q us none)
  where
    by : (b : Bool) → names_source u.addr out ≡ b →
        rows.source_at q (map (named_of w all) (without_named w all out us)) ≡ rows.source_at q (map (named_of w all) us) →
        rows.source_at q (map (named_of w all)
        (if b then without_named w all out us else u ∷ without_named w all out us))
        ≡ cond (u.addr == q) (Some (named_of w all u)) (rows.source_at q (map (named_of w all) us))
    by true named same =
        let away : u.addr ≢ q = λ here. true≢false (sym named ∙ ap (λ (a : ℕ). names_source a out) here ∙ none) in
        same ∙ sym (ap (λ (b : Bool). cond b (Some (named_of w all u)) (rows.source_at q (map (named_of w all) us)))
        (ne_eqb u.addr q away))
    by false named same = ap (λ (o : Option NamedSource). cond (u.addr == q) (Some (named_of w all u)) o) same

-- an object of a world
module _ (w : World) (addr : ℕ) (z : ZcoObject) (fits : FitTogether w) (there : thing_at w addr ≡ Some (things.Object z)) where
  abbrev pub out : List Extent
  out = outside_part z

  -- the sources that extents outside name, and those that the others alone do
  abbrev pub mine : UsedBy w out out
  mine =
      used_by w out fits out
      (out_all (λ e. LiesInside e (source_at (of w.things) e.source)) z.part.offset (part_end z) z.extents (lie w addr z fits there))
      (λ q named. named)

  abbrev pub all : UsedBy w z.extents z.extents
  all = used w addr z fits there

  abbrev pub rest : List (UsedSource w z.extents)
  rest = without_named w z.extents out all.sources

  abbrev pub first : List NamedSource
  first = map (named_of w out) mine.sources

  abbrev pub second : List NamedSource
  second = map (named_of w z.extents) rest

  abbrev pub both : List NamedSource
  both = first ++ second

  joined : (q : ℕ) → rows.source_at q both ≡ option_or (rows.source_at q first) (rows.source_at q second)
  joined q = find-append (λ (s : NamedSource). s.addr == q) first second

  -- one that extents outside name is found as among the first
  pub found_first : (q : ℕ) → names_source q out ≡ true → rows.source_at q first ≡ rows.source_at q both
  found_first q named =
      let f = mine.are.found q named in
      f.is ∙ sym (joined q ∙ ap (λ (o : Option NamedSource). option_or o (rows.source_at q second)) f.is)

  -- each source that an extent names is found
  pub found_row : (q : ℕ) → names_source q z.extents ≡ true → IsRowOf w both q
  found_row q named = by (names_source q out) refl
    where
      by : (b : Bool) → names_source q out ≡ b → IsRowOf w both q
      by true is =
          let f = mine.are.found q is in
          subst (IsRowOf w both) f.here
          (record {
            source = f.used.source;
            bytes = f.used.bytes;
            there = f.used.there;
            is = ap (λ (a : ℕ). rows.source_at a both) f.here ∙ sym (found_first q is) ∙ f.is;
          })
      by false is =
          let f = all.are.found q named in
          let none : rows.source_at q first ≡ None = not_found w out q mine.sources (mine.are.apart q is) in
          subst (IsRowOf w both) f.here
          (record {
            source = f.used.source;
            bytes = f.used.bytes;
            there = f.used.there;
            is =
                ap (λ (a : ℕ). rows.source_at a both) f.here ∙ joined q
                ∙ ap (λ (o : Option NamedSource). option_or o (rows.source_at q second)) none
                ∙ kept_found w z.extents out q all.sources is ∙ f.is;
          })

  -- in a heap that stands for the world each counts the extents that name it
  module _ (heap : Heap) (s : HeapStandsFor heap w) (served : IsReady w) (small : IsSmall heap) where
    abbrev extents : List ExtentRow
    extents = map extent_row z.extents

    enough : (q : ℕ) (source : ZcoSource) → rows.naming q extents ≤ count_in z.account (counted_in w q source)
    enough q source =
        by z.account (λ acct. counts_less w addr z there fits z.extents None (leaves_none z) all.sources all.are q acct)
      where
        by : (acct : Acct) →
            ((b : Acct) → count_of (lost_world w addr z.extents None) q b
            + (if is_same_account b acct then naming q z.extents else 0) ≡ count_of w q b) →
            rows.naming q extents ≤ count_in acct (counted_in w q source)
        by accts.Inbound less = let one = less accts.Inbound in let same = naming_rows q z.extents in omega (arith, one, same)
        by accts.Outbound less = let one = less accts.Outbound in let same = naming_rows q z.extents in omega (arith, one, same)

    counted_all : (es : List Extent) (us : List (UsedSource w es)) → All (CountsUses z.account extents) (map (named_of w es) us)
    counted_all es [] = All-nil (CountsUses z.account extents)
    counted_all es (u ∷ us) =
        All-cons (CountsUses z.account extents) (named_of w es u) (map (named_of w es) us)
        (record {
          fits = (source_stands heap w u.addr u.source s served small u.there).fits;
          short = short_source heap w s served small u.addr u.source (ap as_source u.there);
          enough = enough u.addr u.source;
        })
        (counted_all es us)

    there_all : (es : List Extent) → ((q : ℕ) → names_source q es ≡ true → IsRowOf w both q) →
        All (λ e. IsThere (rows.source_at e.source both)) (map extent_row es)
    there_all [] found = All-nil (λ (e : ExtentRow). IsThere (rows.source_at e.source both))
    there_all (e ∷ es) found =
        All-cons (λ (x : ExtentRow). IsThere (rows.source_at x.source both)) (extent_row e) (map extent_row es)
        (subst IsThere (sym (found e.source (itself e es)).is) tt)
        (there_all es (λ q named. found q (named_later q e es named)))

    pub named_all : AreNamed z.account extents both
    named_all = record {
      there = there_all z.extents found_row;
      counted =
          All-append (CountsUses z.account extents) first second (counted_all out mine.sources) (counted_all z.extents rest);
    }
