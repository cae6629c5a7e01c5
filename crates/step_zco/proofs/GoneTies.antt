-- How things are tied once extents of an object went, with what goes with them, and the object or what is left of it.
use Rattle.std.proofs.Common.{◌≡◌, ◌≢◌, ◌∙◌, ◌+◌, ℕ, ◌==◌, List, [], ◌∷◌, map, Bool, true, false, cond, Option, Some, None, refl, sym, ap, subst, arith}
use Rattle.std.proofs.lemmas.Bool.{ne_eqb}
use Rattle.std.proofs.lemmas.List.Sums.{sum_by-cons}
use Rattle.std.specs.FinMap.{get, remove as lose}
use Rattle.std.specs.List.{AllByRecursion}
use Rattle.std.specs.Option.{option_map}
use Rattle.std.specs.Prelude.{IfSome, if◌then◌else◌}
use Rattle.step_things.proofs.EntryLemmas.{source_there}
use Rattle.sdr_stands.specs.Standing.{thing_entries}
use Rattle.sdr_stands.specs.Ties.{or_null, ties_of}
use Rattle.sdr_base.specs.declared.account.Acct.{Acct}
use Rattle.law_steps.proofs.DistinctLemmas.{weight}
use Rattle.law_steps.proofs.GoneLaws.{gone_apart, without}
use Rattle.law_steps.proofs.GoneLemmas.{AreApart}
use Rattle.law_steps.proofs.HashShapes.{neither}
use Rattle.law_steps.proofs.SourceViews.{apart_at, by_addr, here_at, fits_from, sum_by-with_at}
use Rattle.law_steps.proofs.SourceMoves.{naming_in}
use Rattle.sdr_model.proofs.SumLemmas.{counted_at}
use Rattle.sdr_model.specs.Accounts.{is_same_account}
use Rattle.sdr_model.specs.Gone.{gone_things, names_source, without_things}
use Rattle.sdr_model.specs.Steps.{without_thing}
use Rattle.sdr_model.specs.Things.{Things, with_at}
use Rattle.sdr_model.specs.Valid.{FitTogether}
use Rattle.sdr_model.specs.World.{World, as_raw, thing_at}
use Rattle.sdr_model.specs.Zco.{as_object, as_source, count_of, is_of_raw, naming, source_naming, uses_in}
use Rattle.sdr_model.specs.declared.things.Thing.{Thing}
use Rattle.sdr_model.specs.declared.things.Thing.TheVariants as things
use Rattle.sdr_model.specs.declared.zco.Extent.{Extent}
use Rattle.sdr_model.specs.declared.zco.ZcoObject.{ZcoObject}
use Rattle.sdr_model.specs.declared.zco.ZcoSource.{ZcoSource}
use Rattle.step_zco.proofs.AppendLemmas.{written_alike}
use Rattle.step_zco.proofs.GoneKeys.{all_part, all_split, each_key, key_things, source_apart}
use Rattle.step_zco.proofs.GoneMaps.{here_gone, still_at, was_at}
use Rattle.step_zco.proofs.GoneUses.{AreUsed, UsedSource, all_gone, all_keys, keys_at, named_of}
use Rattle.zco_obj.specs.Gone as rows
use Rattle.zco_obj.specs.Gone.{NamedSource}
use Rattle.step_zco.proofs.NamedLemmas.{named_at, same_named}
use Rattle.step_zco.proofs.UsesLemmas.{same_counts}

-- extents that go from an object, and what is left of it, if anything is: that has the others, in the same account
pub record Leaves (z : ZcoObject) (out : List Extent) (new : Option ZcoObject) : Type 0 where
  pub account : IfSome new (λ n. n.account ≡ z.account)
  pub parts : (q : ℕ) → naming q z.extents ≡ naming_in q new + naming q out

-- all of its extents may go, and nothing be left
pub leaves_none : (z : ZcoObject) → Leaves z z.extents None
leaves_none z = record { account = tt; parts = λ q. omega arith }

-- the things with what is left of an object, and without what goes with its extents
abbrev pub left_things : World → ℕ → List Extent → Option ZcoObject → Things
left_things w addr out new = with_at (without w.things (gone_things w out out)) addr (option_map (λ z. things.Object z) new)

-- the world with those
abbrev pub lost_world : World → ℕ → List Extent → Option ZcoObject → World
lost_world w addr out new = record w { things = left_things w addr out new }

-- is what the row leaves before the queue is served
pub world_without : (w : World) (ks : List ℕ) → without_things w ks ≡ record w { things = without w.things ks }
world_without w [] = refl
world_without w (k ∷ ks) = world_without (without_thing w k) ks

pub lost_is : (w : World) (addr : ℕ) (out : List Extent) →
    without_thing (without_things w (gone_things w out out)) addr ≡ lost_world w addr out None
lost_is w addr out = ap (λ (v : World). without_thing v addr) (world_without w (gone_things w out out))

-- what is left of an object is no source, and names what it has
no_source : (new : Option ZcoObject) → as_source (option_map (λ z. things.Object z) new) ≡ None
no_source None = refl
no_source (Some n) = refl

uses_left : (q : ℕ) (acct own : Acct) (addr : ℕ) (new : Option ZcoObject) → IfSome new (λ n. n.account ≡ own) →
    counted_at (λ (e : ℕ × Thing). uses_in q acct e.1) addr (option_map (λ z. things.Object z) new)
    ≡ (if is_same_account acct own then naming_in q new else 0)
uses_left q acct own addr None same = sym (none (is_same_account acct own))
  where
    none : (b : Bool) → (if b then naming_in q None else 0) ≡ 0
    none true = refl
    none false = refl
uses_left q acct own addr (Some n) same = ap (λ (a : Acct). if is_same_account acct a then naming q n.extents else 0) same

fewer : (b : Bool) (all left out now was : ℕ) → all ≡ left + out →
    now + (if b then all else 0) ≡ was + (if b then left else 0) → now + (if b then out else 0) ≡ was
fewer true all left out now was parts sums = omega (arith, parts, sums)
fewer false all left out now was parts sums = omega (arith, sums)

-- no objects go, so counts stay
abbrev AreNoObjects : Things → List ℕ → Type 0
AreNoObjects m ks = AllByRecursion (λ k. as_object (get m k) ≡ None) ks

none_yet : (m : Things) (k : ℕ) (ks : List ℕ) → AreNoObjects m ks → AreNoObjects (lose m k) ks
none_yet m k [] none = tt
none_yet m k (q ∷ ks) none = (
  by_addr q k (λ here. ap as_object (here_gone m k q here)) (λ away. ap as_object (apart_at m k None q away) ∙ none.0),
  none_yet m k ks none.1,
)

counts_without : (w : World) (ks : List ℕ) → AreNoObjects w.things ks → (q : ℕ) (acct : Acct) →
    count_of (record w { things = without w.things ks }) q acct ≡ count_of w q acct
counts_without w [] none q acct = refl
counts_without w (k ∷ ks) none q acct =
    counts_without (record w { things = lose w.things k }) ks (none_yet w.things k ks none.1) q acct
    ∙ same_counts w k None q acct none.0 refl

-- a source at an address that is none of theirs isn't found among these
unfound : (w : World) (all : List Extent) (q : ℕ) (us : List (UsedSource w all)) → AreApart q (all_keys w all us) →
    rows.source_at q (map (named_of w all) us) ≡ None
unfound w all q [] apart = refl
unfound w all q (u ∷ us) apart =
    let parts = all_split (λ b. b ≢ q) (keys_at w all u.addr u.source) (all_keys w all us) apart in
    ap (λ (b : Bool). cond b (Some (named_of w all u)) (rows.source_at q (map (named_of w all) us)))
    (ne_eqb u.addr q parts.0.0)
    ∙ unfound w all q us parts.1

-- extents that name none name it no time
pub unnamed : (q : ℕ) (es : List Extent) → names_source q es ≡ false → naming q es ≡ 0
unnamed q [] none = refl
unnamed q (e ∷ es) none =
    let both = neither (e.source == q) (names_source q es) none in
    omega (
      arith,
      unnamed q es both.1,
      sum_by-cons (λ (x : Extent). weight (x.source == q)) e es,
      ap weight both.0,
    )

-- an object of a world, and the sources that those of its extents name which go
module _ (w : World) (addr : ℕ) (z : ZcoObject) (there : thing_at w addr ≡ Some (things.Object z)) (fits : FitTogether w)
    (out : List Extent) (new : Option ZcoObject) (l : Leaves z out new) (us : List (UsedSource w out)) (are : AreUsed w out out us)
  where
    abbrev gone : List ℕ
    gone = gone_things w out out

    abbrev keys : List ℕ
    keys = all_keys w out us

    abbrev left : Option Thing
    left = option_map (λ z. things.Object z) new

    abbrev lost : World
    lost = lost_world w addr out new

    -- what goes with its extents is no object
    pub addr_apart : AreApart addr gone
    addr_apart =
        gone_apart w out (λ acct space. 0) addr (fits_from w fits) (ap as_source there) (ap as_raw there) out

    -- what doesn't go is there still, and nothing comes
    pub lost_at : (q : ℕ) → q ≢ addr → AreApart q (all_gone w out us) → thing_at lost q ≡ thing_at w q
    lost_at q away apart =
        apart_at (without w.things gone) addr left q away
        ∙ still_at w.things gone q (subst (AreApart q) (sym are.gone) apart)

    lost_was : (q : ℕ) (t : Thing) → q ≢ addr → thing_at lost q ≡ Some t → thing_at w q ≡ Some t
    lost_was q t away is = was_at w.things gone q t (sym (apart_at (without w.things gone) addr left q away) ∙ is)

    lost_source : (q : ℕ) (s : ZcoSource) → thing_at lost q ≡ Some (things.Source s) → thing_at w q ≡ Some (things.Source s)
    lost_source q s is =
        by_addr q addr
        (λ here.
        let at : thing_at lost q ≡ left = ap (thing_at lost) here ∙ here_at (without w.things gone) addr left in
        let no : None ≡ Some s = sym (no_source new) ∙ ap as_source (sym at) ∙ ap as_source is in cc)
        (λ away. lost_was q (things.Source s) away is)

    pub lost_none : (q : ℕ) → q ≢ addr → get (without w.things gone) q ≡ None → thing_at lost q ≡ None
    lost_none q away none = apart_at (without w.things gone) addr left q away ∙ none

    -- an address of a source or a raw object isn't the object's
    pub source_away : (q : ℕ) → as_object (thing_at w q) ≡ None → q ≢ addr
    source_away q none here =
        let no : None ≡ Some z = sym none ∙ ap (λ (k : ℕ). as_object (thing_at w k)) here ∙ ap as_object there in cc

    -- a source counts fewer extents of the account by those that named it
    pub counts_less : (q : ℕ) (acct : Acct) →
        count_of lost q acct + (if is_same_account acct z.account then naming q out else 0) ≡ count_of w q acct
    counts_less q acct =
        let m = without w.things gone in
        let at : get m addr ≡ Some (things.Object z) = still_at w.things gone addr addr_apart ∙ there in
        let none : AreNoObjects w.things gone =
        subst (AreNoObjects w.things) (sym are.gone)
        (all_part w out (λ k. as_object (thing_at w k) ≡ None) us
        (each_key w out (λ k. as_object (thing_at w k) ≡ None)
        (key_things w out (λ k. as_object (thing_at w k) ≡ None) (λ k no. no)) us)) in
        let sums = sum_by-with_at (λ (e : ℕ × Thing). uses_in q acct e.1) m addr left in
        let one = ap (counted_at (λ (e : ℕ × Thing). uses_in q acct e.1) addr) at in
        let two = uses_left q acct z.account addr new l.account in
        let rest = counts_without w gone none q acct in
        fewer (is_same_account acct z.account) (naming q z.extents) (naming_in q new) (naming q out) (count_of lost q acct)
        (count_of w q acct) (l.parts q) (omega (arith, sums, one, two, rest))

    -- so one that is none of theirs counts what it did
    counts_same : (q : ℕ) (acct : Acct) → AreApart q keys → count_of w q acct ≡ count_of lost q acct
    counts_same q acct apart = by (names_source q out) refl
      where
        none : (b : Bool) (n : ℕ) → n ≡ 0 → count_of lost q acct + (if b then n else 0) ≡ count_of w q acct →
            count_of w q acct ≡ count_of lost q acct
        none true n zero less = omega (arith, zero, less)
        none false n zero less = omega (arith, less)

        by : (b : Bool) → names_source q out ≡ b → count_of w q acct ≡ count_of lost q acct
        by false is =
            none (is_same_account acct z.account) (naming q out) (unnamed q out is) (counts_less q acct)
        by true named =
            let f = are.found q named in
            let no : None ≡ Some (named_of w out f.used) = sym (unfound w out q us apart) ∙ f.is in cc

    -- where sources and extents still fit each other
    module _ (fits' : FitTogether (lost_world w addr out new)) where
      -- a raw object that is none of theirs is named by the same source
      source_on_same : (q : ℕ) → AreApart q keys → source_naming lost q ≡ source_naming w q
      source_on_same q apart =
          same_named w lost q fits fits'
          (record {
            there = λ a t at named.
                lost_at a (source_away a (ap as_object at))
                (all_part w out (λ b. b ≢ a) us (source_apart w out fits q a t at named us apart)) ∙ at;
            back = λ a t at named. lost_source a t at;
          })

      -- so things are tied alike but at theirs
      pub tied_alike : (q : ℕ) (x : Thing) → AreApart q keys → thing_entries (ties_of w) q x ≡ thing_entries (ties_of lost) q x
      tied_alike q x apart =
          written_alike (ties_of w) (ties_of lost) q x (ap or_null (sym (source_on_same q apart)))
          (λ acct. counts_same q acct apart)

      -- a raw object of one that stays is named by it, and one of a source that went by none
      pub named_still : (raw a : ℕ) (s : ZcoSource) → thing_at lost a ≡ Some (things.Source s) → is_of_raw raw s.subject ≡ true →
          source_naming lost raw ≡ Some a
      named_still raw a s at named = named_at lost raw a s fits' at named

      pub named_no_more : (raw a : ℕ) (s : ZcoSource) → thing_at w a ≡ Some (things.Source s) → is_of_raw raw s.subject ≡ true →
          thing_at lost a ≡ None → source_naming lost raw ≡ None
      named_no_more raw a s was named none = by (source_naming lost raw) refl
        where
          by : (o : Option ℕ) → source_naming lost raw ≡ o → source_naming lost raw ≡ None
          by None is = is
          by (Some b) is =
              let n = source_there lost raw b is in
              let e : Some b ≡ Some a =
              sym (named_at w raw b n.source fits (lost_source b n.source n.there) n.named)
              ∙ named_at w raw a s fits was named in
              let same : b ≡ a = cc in
              let no : None ≡ Some (things.Source n.source) = sym none ∙ ap (thing_at lost) (sym same) ∙ n.there in cc
