-- How many extents name a source.
use Rattle.std.proofs.Common.{◌≡◌, ℕ, ◌+◌, ◌≤◌, ◌<◌, ◌^◌, ◌==◌, List, [], ◌∷◌, ◌++◌, map, Bool, true, false, cond, Option, Some, None, length, refl, arith, length-append}
use Rattle.std.specs.Prelude.{sum_by, flat_map, if◌then◌else◌}
use Rattle.std.specs.FinMap as finite
use Rattle.std.proofs.lemmas.List.{length-map}
use Rattle.std.proofs.lemmas.List.Sums.{sum_by-cons}
use Rattle.step_things.proofs.ListLemmas.{IsSmall}
use Rattle.sdr_stands.specs.Rows.{capsule_row, extent_row}
use Rattle.sdr_stands.specs.Standing.{HeapStandsFor, entries_of, other_entries, thing_entries}
use Rattle.sdr_stands.specs.Ties.{Ties, ties_of}
use Rattle.sdr_base.proofs.LinkedLemmas.{length-linked}
use Rattle.sdr_base.specs.Objects.{Heap}
use Rattle.sdr_base.specs.Section.{section}
use Rattle.sdr_base.specs.ZcoObjects as objects
use Rattle.sdr_base.specs.declared.account.Acct.{Acct}
use Rattle.law_steps.proofs.ChargeLemmas.{count_none}
use Rattle.law_steps.proofs.SourceViews.{NoSpare, fits_from, sum_by-with_at}
use Rattle.sdr_model.proofs.SumLemmas.{counted_at}
use Rattle.sdr_model.specs.Accounts.{is_same_account}
use Rattle.sdr_model.specs.Things.{with_at}
use Rattle.sdr_model.specs.Valid.{FitTogether}
use Rattle.sdr_model.specs.World.{World, thing_at}
use Rattle.sdr_model.specs.Zco.{as_object, count_of, naming, source_at, uses_in}
use Rattle.sdr_model.specs.declared.things.Thing.{Thing}
use Rattle.sdr_model.specs.declared.things.Thing.TheVariants as things
use Rattle.sdr_model.specs.declared.zco.Extent.{Extent}
use Rattle.sdr_model.specs.declared.zco.ZcoObject.{ZcoObject}

-- how often a test holds
abbrev weight : Bool → ℕ
weight b = cond b 1 0

-- one extent more
naming-cons : (source : ℕ) (e : Extent) (es : List Extent) →
    naming source (e ∷ es) ≡ cond (e.source == source) 1 0 + naming source es
naming-cons source e es = sum_by-cons (λ (x : Extent). if x.source == source then 1 else 0) e es

at_most_one : (b : Bool) → cond b 1 0 ≤ 1
at_most_one true = omega arith
at_most_one false = omega arith

-- no more extents name a source than there are
naming_few : (source : ℕ) (es : List Extent) → naming source es ≤ length es
naming_few source [] = omega arith
naming_few source (e ∷ es) =
    let ih = naming_few source es in
    let s = naming-cons source e es in
    let one = at_most_one (e.source == source) in omega (arith, ih, s, one)

-- an object has a block for each extent
object_few : (source addr : ℕ) (acct : Acct) (ties : Ties) (z : ZcoObject) (b : Bool) →
    cond b (naming source z.extents) 0 ≤ length (thing_entries ties addr (things.Object z))
object_few source addr acct ties z true =
    let hs = objects.capsule_entries (map capsule_row z.headers) in
    let es = objects.extent_entries (map extent_row z.extents) in
    let ts = objects.capsule_entries (map capsule_row z.trailers) in
    let few = naming_few source z.extents in
    let chain = length-linked objects.extent_addr objects.extent_block 0 0 (map extent_row z.extents) in
    let same = length-map z.extents extent_row in
    let one = length-append (hs ++ es) ts in
    let two = length-append hs es in omega (arith, few, chain, same, one, two)
object_few source addr acct ties z false = omega arith

-- no thing names a source more often than it has blocks
thing_few : (source : ℕ) (acct : Acct) (ties : Ties) (addr : ℕ) (thing : Thing) →
    uses_in source acct thing ≤ length (thing_entries ties addr thing)
thing_few source acct ties addr (things.Object z) = object_few source addr acct ties z (is_same_account acct z.account)
thing_few source acct ties addr thing = omega arith

-- so it is for all things
uses_few : (source : ℕ) (acct : Acct) (ties : Ties) (es : List (ℕ × Thing)) →
    sum_by (λ e. uses_in source acct e.1) es ≤ length (flat_map (λ e. thing_entries ties e.0 e.1) es)
uses_few source acct ties [] = omega arith
uses_few source acct ties (e ∷ es) =
    let ih = uses_few source acct ties es in
    let s = sum_by-cons (λ (x : ℕ × Thing). uses_in source acct x.1) e es in
    let l = length-append (thing_entries ties e.0 e.1) (flat_map (λ e. thing_entries ties e.0 e.1) es) in
    let few = thing_few source acct ties e.0 e.1 in omega (arith, ih, s, l, few)

-- a heap has few
pub counts_small : (heap : Heap) (w : World) (source : ℕ) (acct : Acct) → HeapStandsFor heap w → IsSmall heap →
    count_of w source acct < 2 ^ 62
counts_small heap w source acct s small =
    let uses = uses_few source acct (ties_of w) (finite.entries w.things) in
    let all = length-append (section (thing_entries (ties_of w)) w.things) (other_entries w) in
    let few = small.few.few (entries_of w) s.blocks in
    let most = small.small in omega (arith, uses, all, few, most)

-- no extent names a source that isn't there
pub none_counted : (w : World) (source : ℕ) (acct : Acct) → FitTogether w → source_at w source ≡ None →
    count_of w source acct ≡ 0
none_counted w source acct fits none = count_none NoSpare w.things (fits_from w fits) acct source none

-- what is put at an address, or was there, and is no object, names no source
pub same_counts : (w : World) (addr : ℕ) (o : Option Thing) (source : ℕ) (acct : Acct) → as_object (thing_at w addr) ≡ None →
    as_object o ≡ None → count_of (record w { things = with_at w.things addr o }) source acct ≡ count_of w source acct
same_counts w addr o source acct was is =
    let sums = sum_by-with_at (λ (e : ℕ × Thing). uses_in source acct e.1) w.things addr o in
    let a = no_object (thing_at w addr) was in
    let b = no_object o is in omega (arith, sums, a, b)
  where
    no_object : (o : Option Thing) → as_object o ≡ None → counted_at (λ (e : ℕ × Thing). uses_in source acct e.1) addr o ≡ 0
    no_object None none = refl
    no_object (Some (things.Object z)) none = absurd cc
    no_object (Some thing) none = refl
