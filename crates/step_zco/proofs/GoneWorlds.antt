-- The blocks of a world with an object in front, and what they become where extents of it go, and it or not.
use Rattle.std.proofs.Common.{◌≡◌, ◌≢◌, ◌∙◌, ℕ, List, [], ◌∷◌, ◌++◌, map, Option, Some, None, refl, sym, ap, subst}
use Rattle.std.specs.FinMap.{get, remove as lose}
use Rattle.std.specs.List.{AllByRecursion}
use Rattle.std.specs.Option.{option_map}
use Rattle.sdr_stands.specs.Rows.{extent_row, object_row}
use Rattle.sdr_stands.specs.Standing.{thing_entries}
use Rattle.sdr_stands.specs.Ties.{Ties, ties_of}
use Rattle.sdr_base.specs.Entries.{Entries}
use Rattle.sdr_base.specs.Section.{section}
use Rattle.sdr_base.specs.ZcoObjects.{object_entries}
use Rattle.law_steps.proofs.GoneLaws.{change_first, without}
use Rattle.law_steps.proofs.GoneLemmas.{AreApart}
use Rattle.law_steps.proofs.SourceViews.{apart_at, by_addr, here_at}
use Rattle.sdr_model.proofs.ThingsLemmas.{same_things}
use Rattle.sdr_model.specs.Gone.{gone_things}
use Rattle.sdr_model.specs.Things.{Things, with_at}
use Rattle.sdr_model.specs.Valid.{FitTogether}
use Rattle.sdr_model.specs.World.{World, thing_at}
use Rattle.sdr_model.specs.declared.things.Thing.{Thing}
use Rattle.sdr_model.specs.declared.things.Thing.TheVariants as things
use Rattle.sdr_model.specs.declared.zco.Extent.{Extent}
use Rattle.sdr_model.specs.declared.zco.ZcoObject.{ZcoObject}
use Rattle.step_zco.proofs.AlikeLemmas.{StandAlike, section_alike}
use Rattle.step_zco.proofs.GoneChanges.{left_all, was_all}
use Rattle.step_zco.proofs.GoneKeys.{all_part, each_key, key_things, keys_distinct}
use Rattle.step_zco.proofs.GoneMaps.{AreDistinct, all_at, all_out, all_without, here_gone, none_there, there_apart}
use Rattle.step_zco.proofs.GoneTies.{Leaves, addr_apart, lost_none, lost_world, source_away, tied_alike}
use Rattle.step_zco.proofs.GoneUses.{AreUsed, UsedSource, all_gone, all_keys, named_of}
use Rattle.step_zco.proofs.MovingLemmas.{entries_at}
use Rattle.zco_obj.specs.Gone.{sources_entries, sources_left}

-- what holds of all with another fact
all_mapped : (P Q R : ℕ → Type 0) → ((k : ℕ) → P k → R k → Q k) → (ks : List ℕ) → AllByRecursion P ks → AllByRecursion R ks →
    AllByRecursion Q ks
all_mapped P Q R f [] all more = tt
all_mapped P Q R f (k ∷ ks) all more = (f k all.0 more.0, all_mapped P Q R f ks all.1 more.1)

-- the blocks of an object, if there is one
abbrev pub object_blocks : ℕ → Option ZcoObject → Entries
object_blocks addr None = []
object_blocks addr (Some z) = object_entries addr (object_row z)

object_at_is : (ties : Ties) (addr : ℕ) (new : Option ZcoObject) →
    entries_at ties addr (option_map (λ z. things.Object z) new) ≡ object_blocks addr new
object_at_is ties addr None = refl
object_at_is ties addr (Some z) = refl

-- what is put at an address goes with it
lose_again : (m : Things) (addr : ℕ) (o : Option Thing) → lose (with_at m addr o) addr ≡ lose m addr
lose_again m addr o = same_things _ _ (λ q.
    by_addr q addr
    (λ here. here_gone (with_at m addr o) addr q here ∙ sym (here_gone m addr q here))
    (λ away. apart_at (with_at m addr o) addr None q away ∙ apart_at m addr o q away ∙ sym (apart_at m addr None q away)))

-- an object of a world, and the sources that those of its extents name which go
module _ (w : World) (addr : ℕ) (z : ZcoObject) (there : thing_at w addr ≡ Some (things.Object z)) (fits : FitTogether w)
    (out : List Extent) (new : Option ZcoObject) (l : Leaves z out new) (us : List (UsedSource w out)) (are : AreUsed w out out us)
  where
    abbrev pub keys : List ℕ
    keys = all_keys w out us

    -- their blocks
    abbrev pub own_blocks : Entries
    own_blocks = object_entries addr (object_row z) ++ sources_entries (map (named_of w out) us)

    -- the things beside them, and their blocks
    abbrev pub others : Things
    others = without (lose w.things addr) keys

    abbrev pub beside : Entries
    beside = section (thing_entries (ties_of w)) others

    distinct : AreDistinct (addr ∷ keys)
    distinct = (
      each_key w out (λ k. k ≢ addr) (key_things w out (λ k. k ≢ addr)
          (λ q none. source_away w addr z there fits out new l us are q none)) us,
      keys_distinct w out fits us are.distinct,
    )

    -- may stand in front of all others
    pub own_first : StandAlike (section (thing_entries (ties_of w)) w.things) (own_blocks ++ beside)
    own_first =
        let was : all_at (ties_of w) w.things (addr ∷ keys) ≡ own_blocks =
        λ i. entries_at (ties_of w) addr (there i) ++ was_all w out fits us i in
        subst (λ (es : Entries). StandAlike (section (thing_entries (ties_of w)) w.things) (es ++ beside)) was
        (all_out (ties_of w) w.things (addr ∷ keys) distinct)

    -- where sources and extents still fit each other
    module _ (fits' : FitTogether (lost_world w addr out new)) where
      abbrev lost : World
      lost = lost_world w addr out new

      abbrev gone : List ℕ
      gone = gone_things w out out

      gone_none : AllByRecursion (λ k. thing_at lost k ≡ None) (all_gone w out us)
      gone_none =
          subst (AllByRecursion (λ k. thing_at lost k ≡ None)) are.gone
          (all_mapped (λ k. get (without w.things gone) k ≡ None) (λ k. thing_at lost k ≡ None) (λ k. k ≢ addr)
          (λ k none away. lost_none w addr z there fits out new l us are k away none) gone (none_there w.things gone)
          (addr_apart w addr z there fits out new l us are))

      -- the things beside them are those that are left beside what stays of them
      others_left : without (lose lost.things addr) keys ≡ others
      others_left =
          ap (λ (m : Things). without m keys)
          (lose_again (without w.things gone) addr (option_map (λ z. things.Object z) new)
          ∙ change_first w.things addr None gone (addr_apart w addr z there fits out new l us are))
          ∙ all_without (lose w.things addr) gone keys
          (λ q apart. subst (AreApart q) (sym are.gone) (all_part w out (λ b. b ≢ q) us apart))

      beside_same : section (thing_entries (ties_of lost)) (without (lose lost.things addr) keys) ≡ beside
      beside_same =
          ap (section (thing_entries (ties_of lost))) others_left
          ∙ sym (section_alike (thing_entries (ties_of w)) (thing_entries (ties_of lost)) others
          (λ q x is.
          tied_alike w addr z there fits out new l us are fits' q x
          (there_apart others keys q x (none_there (lose w.things addr) keys) is)))

      -- so may what is left of the object and of the sources in the world that is left
      pub left_first : StandAlike (section (thing_entries (ties_of lost)) lost.things)
          ((object_blocks addr new ++ sources_left z.account (map extent_row out) (map (named_of w out) us)) ++ beside)
      left_first =
          let own : entries_at (ties_of lost) addr (get lost.things addr) ≡ object_blocks addr new =
          ap (entries_at (ties_of lost) addr) (here_at (without w.things gone) addr (option_map (λ z. things.Object z) new))
          ∙ object_at_is (ties_of lost) addr new in
          let left = left_all w addr z there fits out new l us are fits' us gone_none in
          subst (λ (es : Entries). StandAlike (section (thing_entries (ties_of lost)) lost.things) es)
          (λ i. (own i ++ left i) ++ beside_same i) (all_out (ties_of lost) lost.things (addr ∷ keys) distinct)
