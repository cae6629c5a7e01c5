-- How the things are tied that headers and trailers become: each source names its raw object, and one extent names it.
use Rattle.std.proofs.Common.{◌≡◌, ◌≢◌, ◌∙◌, ◌+◌, ◌*◌, ◌==◌, ◌++◌, ℕ, List, [], ◌∷◌, Bool, true, false, cond, Some, None, length, refl, sym, ap, subst, arith, eq-eqb}
use Rattle.std.proofs.lemmas.Bool.{ne_eqb}
use Rattle.std.proofs.lemmas.List.Sums.{sum_by-append, sum_by-cons}
use Rattle.std.specs.FinMap as finite
use Rattle.step_things.proofs.EntryLemmas.{none_named}
use Rattle.sdr_stands.proofs.TiesLemmas.{same_first}
use Rattle.sdr_stands.specs.Rows.{source_row}
use Rattle.sdr_stands.specs.Standing.{thing_entries}
use Rattle.sdr_stands.specs.Ties.{names_raw_at, or_null, ties_of}
use Rattle.sdr_base.specs.Section.{section}
use Rattle.sdr_base.specs.Sources.{source_entries}
use Rattle.sdr_base.specs.declared.account.Acct.{Acct}
use Rattle.sdr_base.specs.declared.account.Acct.TheVariants as accts
use Rattle.law_steps.proofs.BondLaws.{capsule_source, with_all, with_one}
use Rattle.law_steps.proofs.DistinctLemmas.{weight}
use Rattle.law_steps.proofs.OutcomeFits.{bonded_parts}
use Rattle.law_steps.proofs.SourceViews.{apart_at, here_at, sum_by-with_at}
use Rattle.sdr_model.proofs.SumLemmas.{counted_at}
use Rattle.sdr_model.specs.Accounts.{is_same_account}
use Rattle.sdr_model.specs.BondSteps as bonds
use Rattle.sdr_model.specs.BondSteps.{bonded, capsules_of}
use Rattle.sdr_model.specs.Things.{Things}
use Rattle.sdr_model.specs.Valid.{FitTogether}
use Rattle.sdr_model.specs.World.{World, thing_at}
use Rattle.sdr_model.specs.Zco.{as_object, as_source, count_of, naming, source_naming, uses_in}
use Rattle.sdr_model.specs.declared.things.Thing.{Thing}
use Rattle.sdr_model.specs.declared.things.Thing.TheVariants as things
use Rattle.sdr_model.specs.declared.zco.Capsule.{Capsule}
use Rattle.sdr_model.specs.declared.zco.Extent.{Extent}
use Rattle.sdr_model.specs.declared.zco.ZcoObject.{ZcoObject}
use Rattle.step_zco.proofs.AlikeLemmas.{section_alike}
use Rattle.step_zco.proofs.AppendLemmas.{written_alike}
use Rattle.step_zco.proofs.AppendRaws.{named_first}
use Rattle.step_zco_parts.proofs.ThingsLemmas.{Come, elsewhere, kept_all, kept_one, mid_none, none_one, raw_one, source_one}
use Rattle.zco_obj.specs.Appending.{taking_over}
use Rattle.zco_ref.specs.Counting.{attached}
use Rattle.zco_ref.specs.Kept.{counted_entries}
use Rattle.step_zco.proofs.UsesLemmas.{none_counted, same_counts}

-- extents that headers and trailers become name no source that is there before
module _ (at : ℕ → ℕ) where
  pub others_unnamed : (m : Things) (k : ℕ) (cs : List Capsule) → Come m at k cs → (q : ℕ) (t : Thing) → finite.get m q ≡ Some t →
      naming q (bonds.bonded_extents at k cs) ≡ 0
  others_unnamed m k [] come q t there = refl
  others_unnamed m k (c ∷ cs) come q t there =
      let rest = others_unnamed (with_one m (at k) (at (k + 1)) c) (k + 3) cs come.3 q t
      (kept_one m (at k) (at (k + 1)) c come.0 come.1 come.2 q t there) in
      let sums = sum_by-cons (λ (e : Extent). weight (e.source == q))
      (record { block = at (k + 2); source = at (k + 1); offset = 0; length = length c.text }) (bonds.bonded_extents at (k + 3) cs) in
      let no = ap weight (ne_eqb (at (k + 1)) q (λ same. elsewhere m q (at (k + 1)) t there come.1 (sym same))) in
      omega (arith, rest, sums, no)

  -- the first of their sources is named by the first
  own_named : (m : Things) (k : ℕ) (c : Capsule) (cs : List Capsule) → Come m at k (c ∷ cs) →
      naming (at (k + 1)) (bonds.bonded_extents at k (c ∷ cs)) ≡ 1
  own_named m k c cs come =
      let q = at (k + 1) in
      let rest = others_unnamed (with_one m (at k) q c) (k + 3) cs come.3 q (things.Source (capsule_source (at k) c))
      (source_one m (at k) q c) in
      let sums = sum_by-cons (λ (e : Extent). weight (e.source == q))
      (record { block = at (k + 2); source = q; offset = 0; length = length c.text }) (bonds.bonded_extents at (k + 3) cs) in
      let here = ap weight (eq-eqb q q refl) in omega (arith, rest, sums, here)

  -- and other sources aren't
  other_named : (k : ℕ) (c : Capsule) (cs : List Capsule) (q : ℕ) → q ≢ at (k + 1) →
      naming q (bonds.bonded_extents at k (c ∷ cs)) ≡ naming q (bonds.bonded_extents at (k + 3) cs)
  other_named k c cs q apart =
      let sums = sum_by-cons (λ (e : Extent). weight (e.source == q))
      (record { block = at (k + 2); source = at (k + 1); offset = 0; length = length c.text }) (bonds.bonded_extents at (k + 3) cs) in
      let no = ap weight (ne_eqb (at (k + 1)) q (λ same. apart (sym same))) in omega (arith, sums, no)

-- the world with these things
abbrev pub of_things : World → Things → World
of_things w m = record w { things = m }

-- no source names a raw object where nothing is
abbrev pub NoneNamed : World → Things → Type 0
NoneNamed w m = (q : ℕ) → finite.get m q ≡ None → source_naming (of_things w m) q ≡ None

module _ (w : World) (at : ℕ → ℕ) where
  -- what comes and is no object names no source
  pub counts_all : (m : Things) (k : ℕ) (cs : List Capsule) → Come m at k cs → (q : ℕ) (acct : Acct) →
      count_of (of_things w (with_all m at k cs)) q acct ≡ count_of (of_things w m) q acct
  counts_all m k [] come q acct = refl
  counts_all m k (c ∷ cs) come q acct =
      let raw = at k in
      let addr = at (k + 1) in
      let text = things.Raw c.text in
      counts_all (with_one m raw addr c) (k + 3) cs come.3 q acct
      ∙ same_counts (of_things w (finite.insert m raw text)) addr (Some (things.Source (capsule_source raw c))) q acct
      (ap as_object (mid_none m raw addr c come.0 come.1 come.2)) refl
      ∙ same_counts (of_things w m) raw (Some text) q acct (ap as_object come.0) refl

  -- the source of another raw object names no raw object that is there, and one where none is
  named_on : (m : Things) (raw addr : ℕ) (c : Capsule) → finite.get m raw ≡ None → finite.get m addr ≡ None → addr ≢ raw → (q : ℕ) →
      q ≢ raw → source_naming (of_things w (with_one m raw addr c)) q ≡ source_naming (of_things w m) q
  named_on m raw addr c raw_none none apart q away =
      let text = things.Raw c.text in
      same_first q (finite.insert m raw text) addr (Some (things.Source (capsule_source raw c)))
      (ap (names_raw_at q) (mid_none m raw addr c raw_none none apart) ∙ sym (ne_eqb raw q (λ same. away (sym same))))
      ∙ same_first q m raw (Some text) (ap (names_raw_at q) raw_none)

  pub named_stays : (m : Things) (k : ℕ) (cs : List Capsule) → Come m at k cs → (q : ℕ) (t : Thing) → finite.get m q ≡ Some t →
      source_naming (of_things w (with_all m at k cs)) q ≡ source_naming (of_things w m) q
  named_stays m k [] come q t there = refl
  named_stays m k (c ∷ cs) come q t there =
      let raw = at k in
      let addr = at (k + 1) in
      named_stays (with_one m raw addr c) (k + 3) cs come.3 q t (kept_one m raw addr c come.0 come.1 come.2 q t there)
      ∙ named_on m raw addr c come.0 come.1 come.2 q (elsewhere m q raw t there come.0)

  -- its own source names a raw object
  own_source : (m : Things) (raw addr : ℕ) (c : Capsule) → finite.get m raw ≡ None → finite.get m addr ≡ None → addr ≢ raw →
      NoneNamed w m → source_naming (of_things w (with_one m raw addr c)) raw ≡ Some addr
  own_source m raw addr c raw_none none apart unnamed =
      let text = things.Raw c.text in
      named_first (of_things w (finite.insert m raw text)) raw addr (capsule_source raw c)
      (same_first raw m raw (Some text) (ap (names_raw_at raw) raw_none) ∙ unnamed raw raw_none) (eq-eqb raw raw refl)

  none_next : (m : Things) (raw addr : ℕ) (c : Capsule) → finite.get m raw ≡ None → finite.get m addr ≡ None → addr ≢ raw →
      NoneNamed w m → NoneNamed w (with_one m raw addr c)
  none_next m raw addr c raw_none none apart unnamed q free =
      let was = none_one m raw addr c raw_none none apart q free in
      named_on m raw addr c raw_none none apart q was.0 ∙ unnamed q was.2

-- each raw object is named by its source, and that by one extent of the account
abbrev pub AreTied : (ℕ → ℕ) → (ℕ → Acct → ℕ) → Acct → (ℕ → ℕ) → ℕ → List Capsule → Type 0
AreTied named counts acct at k [] = Unit {0}
AreTied named counts acct at k (c ∷ cs) =
    (named (at k) ≡ at (k + 1)) × ((a : Acct) → counts (at (k + 1)) a ≡ cond (is_same_account a acct) 1 0)
    × AreTied named counts acct at (k + 3) cs

-- where nothing is, as many extents name a source as these extents do
abbrev pub CountsNew : (ℕ → Acct → ℕ) → Acct → Things → List Extent → Type 0
CountsNew counts acct m es = (q : ℕ) → finite.get m q ≡ None → (a : Acct) → counts q a ≡ cond (is_same_account a acct) (naming q es) 0

module _ (w : World) (at : ℕ → ℕ) (counts : ℕ → Acct → ℕ) (acct : Acct) where
  pub all_tied : (m : Things) (k : ℕ) (cs : List Capsule) → Come m at k cs → NoneNamed w m →
      CountsNew counts acct m (bonds.bonded_extents at k cs) →
      AreTied (λ q. or_null (source_naming (of_things w (with_all m at k cs)) q)) counts acct at k cs
  all_tied m k [] come unnamed counted = tt
  all_tied m k (c ∷ cs) come unnamed counted =
      let raw = at k in
      let addr = at (k + 1) in
      let n = with_one m raw addr c in (
        ap or_null
            (named_stays w at n (k + 3) cs come.3 raw (things.Raw c.text) (raw_one m raw addr c come.0 come.1 come.2)
            ∙ own_source w at m raw addr c come.0 come.1 come.2 unnamed),
        λ a. counted addr come.1 a ∙ ap (λ (l : ℕ). cond (is_same_account a acct) l 0) (own_named at m k c cs come),
        all_tied n (k + 3) cs come.3 (none_next w at m raw addr c come.0 come.1 come.2 unnamed)
            (λ q free a.
            let was = none_one m raw addr c come.0 come.1 come.2 q free in
            counted q was.2 a ∙ ap (λ (l : ℕ). cond (is_same_account a acct) l 0) (other_named at k c cs q was.1)),
      )

-- an object of a world, whose headers and trailers become raw objects and sources where nothing is
module _ (w : World) (addr : ℕ) (z : ZcoObject) (at : ℕ → ℕ) (there : thing_at w addr ≡ Some (things.Object z)) (fits : FitTogether w)
    (come : Come w.things at 0 (capsules_of z)) where
  abbrev cs : List Capsule
  cs = capsules_of z

  abbrev all : Things
  all = with_all w.things at 0 cs

  abbrev pub bonded_things : Things
  bonded_things = finite.insert all addr (things.Object (bonded at z))

  abbrev pub after : World
  after = of_things w bonded_things

  all_there : finite.get all addr ≡ Some (things.Object z)
  all_there = kept_all at w.things 0 cs come addr (things.Object z) there

  -- the object names its new sources besides
  joined : (q : ℕ) → naming q (bonded at z).extents ≡ naming q z.extents + naming q (bonds.bonded_extents at 0 cs)
  joined q =
      let heads = bonds.bonded_extents at 0 z.headers in
      let tails = bonds.bonded_extents at (3 * length z.headers) z.trailers in
      let p = λ (e : Extent). weight (e.source == q) in
      let parts = ap (naming q) (bonded_parts at z) in
      omega (
        arith,
        parts,
        sum_by-append p heads tails,
        sum_by-append p (heads ++ z.extents) tails,
        sum_by-append p heads z.extents,
      )

  more : (q : ℕ) (acct : Acct) → count_of after q acct
      ≡ count_of w q acct + cond (is_same_account acct z.account) (naming q (bonds.bonded_extents at 0 cs)) 0
  more q acct =
      let uses = λ (x : ℕ × Thing). uses_in q acct x.1 in
      let sums = sum_by-with_at uses all addr (Some (things.Object (bonded at z))) in
      let was = ap (counted_at uses addr) all_there in
      let before = counts_all w at w.things 0 cs come q acct in
      let now = by (is_same_account acct z.account) in omega (arith, sums, was, before, now)
    where
      by : (b : Bool) → cond b (naming q (bonded at z).extents) 0
          ≡ cond b (naming q z.extents) 0 + cond b (naming q (bonds.bonded_extents at 0 cs)) 0
      by true = joined q
      by false = refl

  -- no raw object is named otherwise for it
  named_same : (q : ℕ) → source_naming after q ≡ source_naming (of_things w all) q
  named_same q = same_first q all addr (Some (things.Object (bonded at z))) (ap (names_raw_at q) all_there)

  nothing_more : (n : ℕ) (b : Bool) → n + cond b 0 0 ≡ n
  nothing_more n true = omega arith
  nothing_more n false = omega arith

  -- where nothing was, its extents alone are counted
  new_counts : CountsNew (count_of after) z.account w.things (bonds.bonded_extents at 0 cs)
  new_counts q free a =
      let all_of = more q a in let none = none_counted w q a fits (ap as_source free) in omega (arith, all_of, none)

  pub tied : AreTied (ties_of after).named_by (ties_of after).counts z.account at 0 cs
  tied =
      subst (λ (named : ℕ → ℕ). AreTied named (count_of after) z.account at 0 cs)
      (λ i q. or_null (sym (named_same q) i))
      (all_tied w at (count_of after) z.account w.things 0 cs come (λ q free. none_named w q fits free) new_counts)

  -- what was there beside the object is written as before
  pub others_alike : section (thing_entries (ties_of after)) (finite.remove w.things addr)
      ≡ section (thing_entries (ties_of w)) (finite.remove w.things addr)
  others_alike =
      section_alike (thing_entries (ties_of after)) (thing_entries (ties_of w)) (finite.remove w.things addr) (λ q thing is.
      written_alike (ties_of after) (ties_of w) q thing
      (ap or_null (named_same q ∙ named_stays w at w.things 0 cs come q thing (was_there q thing is)))
      (λ acct. more q acct
      ∙ ap (λ (n : ℕ). count_of w q acct + cond (is_same_account acct z.account) n 0)
      (others_unnamed at w.things 0 cs come q thing (was_there q thing is))
      ∙ nothing_more (count_of w q acct) (is_same_account acct z.account)))
    where
      not_object : (q : ℕ) (thing : Thing) → finite.get (finite.remove w.things addr) q ≡ Some thing → q ≢ addr
      not_object q thing is same =
          let no : None ≡ Some thing =
          sym (here_at w.things addr None) ∙ ap (finite.get (finite.remove w.things addr)) (sym same) ∙ is in cc

      was_there : (q : ℕ) (thing : Thing) → finite.get (finite.remove w.things addr) q ≡ Some thing → thing_at w q ≡ Some thing
      was_there q thing is = sym (apart_at w.things addr None q (not_object q thing is)) ∙ is

-- a source that one extent of an account names is written so
pub source_written : (acct : Acct) (counts : Acct → ℕ) (addr raw : ℕ) (c : Capsule) →
    ((a : Acct) → counts a ≡ cond (is_same_account a acct) 1 0) →
    source_entries addr (counts accts.Inbound) (counts accts.Outbound) (source_row (capsule_source raw c))
    ≡ counted_entries addr (attached acct (taking_over raw c.text))
source_written accts.Inbound counts addr raw c is =
    λ i. source_entries addr (is accts.Inbound i) (is accts.Outbound i) (source_row (capsule_source raw c))
source_written accts.Outbound counts addr raw c is =
    λ i. source_entries addr (is accts.Inbound i) (is accts.Outbound i) (source_row (capsule_source raw c))
