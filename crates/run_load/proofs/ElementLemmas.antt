-- Where an element of a list stands in a valid world.
use Rattle.std.proofs.Common.{◌≡◌, ◌∙◌, ◌==◌, ◌<◌, ◌≤◌, ◌+◌, ℕ, zero, suc, List, [], ◌∷◌, ◌++◌, Bool, true, cond, map, length, get_or, nat_eq, position, Option, None, Some, refl, sym, ap, arith}
use Rattle.std.specs.FinMap as finite
use Rattle.std.specs.Cmp.{nat_eq_equiv}
use Rattle.std.specs.List.{count_by, flat_map}
use Rattle.std.specs.Option.{option_map, option_or}
use Rattle.std.specs.Ordering.{is_eq, nat_cmp}
use Rattle.std.proofs.lemmas.List.Quantifiers.{position-Some}
use Rattle.std.proofs.lemmas.List.Sums.{sum_by-append}
use Rattle.std.proofs.lemmas.Option.{slice_get-get_or}
use Rattle.run_load.specs.Listed.{list_at}
use Rattle.law_steps.proofs.DistinctLemmas.{count_by-cons, on_test, once, weight, weight_of}
use Rattle.law_steps.proofs.EditLemmas.{count_by-map, no_position}
use Rattle.law_steps.proofs.ListShapes.{no_element}
use Rattle.law_steps.proofs.ThingLemmas.{list_is}
use Rattle.sdr_model.proofs.ThingsLemmas.{same_address}
use Rattle.sdr_model.specs.Accounts.{ticket_blocks}
use Rattle.sdr_model.specs.Blocks.{blocks_of, thing_blocks}
use Rattle.sdr_model.specs.ListSteps.{element_addr, element_addr_or_zero}
use Rattle.sdr_model.specs.Things.{Spot, block_for_element, block_for_name, own_block, spot_among, spot_in_thing}
use Rattle.sdr_model.specs.Valid.{IsValid}
use Rattle.sdr_model.specs.World.{World, spot_of, thing_at}
use Rattle.sdr_model.specs.declared.things.Element.{Element}
use Rattle.sdr_model.specs.declared.things.SdrList.{SdrList}
use Rattle.sdr_model.specs.declared.things.UsedBlock.{UsedBlock}
use Rattle.sdr_model.specs.declared.things.Thing.{Thing}
use Rattle.sdr_model.specs.declared.things.Thing.TheVariants as things

-- one that passes counts
counts_at : {X : Type 0} (p : X → Bool) (xs : List X) (i : ℕ) (d : X) → i < length xs → p (get_or xs i d) ≡ true → 1 ≤ count_by p xs
counts_at p [] i d within passes = absurd (omega arith)
counts_at p (x ∷ xs) zero d within passes = omega (arith, count_by-cons p x xs, weight_of passes)
counts_at p (x ∷ xs) (suc i) d within passes = omega (arith, count_by-cons p x xs, counts_at p xs i d (omega (arith, within)) passes)

-- where one passes at most, two that pass stand at one place
one_place : {X : Type 0} (p : X → Bool) (xs : List X) (i j : ℕ) (d : X) → i < length xs → j < length xs → p (get_or xs i d) ≡ true
    → p (get_or xs j d) ≡ true → count_by p xs ≤ 1 → i ≡ j
one_place p [] i j d before within first second few = absurd (omega arith)
one_place p (x ∷ xs) zero zero d before within first second few = refl
one_place p (x ∷ xs) zero (suc j) d before within first second few =
    absurd (omega (arith, few, count_by-cons p x xs, weight_of first, counts_at p xs j d (omega (arith, within)) second))
one_place p (x ∷ xs) (suc i) zero d before within first second few =
    absurd (omega (arith, few, count_by-cons p x xs, weight_of second, counts_at p xs i d (omega (arith, before)) first))
one_place p (x ∷ xs) (suc i) (suc j) d before within first second few =
    ap suc (one_place p xs i j d (omega (arith, before)) (omega (arith, within)) first second (omega (arith, few, count_by-cons p x xs)))

-- so its place is found
only_position : {X : Type 0} (p : X → Bool) (xs : List X) (i : ℕ) (d : X) → i < length xs → p (get_or xs i d) ≡ true → count_by p xs ≤ 1
    → position p xs ≡ Some i
only_position {X} p xs i d within passes few = by (position p xs) refl
  where
    by : (o : Option ℕ) → position p xs ≡ o → position p xs ≡ Some i
    by None none = absurd (omega (arith, no_position p xs none, counts_at p xs i d within passes))
    by (Some j) found =
        let there = position-Some p xs j d found in
        found ∙ ap Some (one_place p xs j i d there.0 within there.1 passes few)

module _ (addr : ℕ) where
  abbrev is_there : Element → Bool
  is_there e = e.block == addr

  abbrev begins_there : UsedBlock → Bool
  begins_there b = b.addr == addr

  abbrev all_blocks : List (ℕ × Thing) → List UsedBlock
  all_blocks es = flat_map (λ e. thing_blocks e.0 e.1) es

  -- the elements of a list that begin there are as many as its blocks inside
  inside_counts : (elements : List Element) → count_by begins_there (map block_for_element elements) ≡ count_by is_there elements
  inside_counts elements = count_by-map block_for_element begins_there elements

  -- blocks of one thing more
  more_counts : (e : ℕ × Thing) (es : List (ℕ × Thing))
      → count_by begins_there (all_blocks (e ∷ es)) ≡ count_by begins_there (thing_blocks e.0 e.1) + count_by begins_there (all_blocks es)
  more_counts e es = sum_by-append (λ b. weight (begins_there b)) (thing_blocks e.0 e.1) (all_blocks es)

  -- blocks of a list count
  list_counts : (list : ℕ) (row : SdrList) → count_by is_there row.elements ≤ count_by begins_there (thing_blocks list (things.List row))
  list_counts list row =
      omega (
        arith,
        count_by-cons begins_there (own_block list (things.List row)) (map block_for_element row.elements),
        inside_counts row.elements,
      )

  -- so do those of a list among things
  among_counts : (list : ℕ) (row : SdrList) (es : List (ℕ × Thing)) → finite.find nat_cmp list es ≡ Some (things.List row)
      → count_by is_there row.elements ≤ count_by begins_there (all_blocks es)
  among_counts list row [] found = let none : None ≡ Some (things.List row) = found in cc
  among_counts list row (e ∷ es) found =
      on_test (is_eq (nat_cmp list e.0))
      (λ here.
      let same : Some e.1 ≡ Some (things.List row) = sym (ap (λ b. cond b (Some e.1) (finite.find nat_cmp list es)) here) ∙ found in
      let thing : things.List row ≡ e.1 = cc in
      omega (arith, more_counts e es, list_counts e.0 row, ap (λ (t : Thing). count_by begins_there (thing_blocks e.0 t)) thing))
      (λ apart.
      omega (
        arith,
        more_counts e es,
        among_counts list row es (sym (ap (λ b. cond b (Some e.1) (finite.find nat_cmp list es)) apart) ∙ found),
      ))

  -- where none of a thing's blocks begins there, no element of it does
  none_in_thing : (k : ℕ) (thing : Thing) → count_by begins_there (thing_blocks k thing) ≡ 0 → spot_in_thing addr k (Some thing) ≡ None
  none_in_thing k (things.List row) none = by (position is_there row.elements) refl
    where
      by : (o : Option ℕ) → position is_there row.elements ≡ o
          → option_map {U = Spot} (λ place. record { list = k; row = row; place = place }) (position is_there row.elements) ≡ None
      by None at = ap (option_map {U = Spot} (λ place. record { list = k; row = row; place = place })) at
      by (Some place) at =
          let there = position-Some is_there row.elements place no_element at in
          absurd (omega (arith, none, list_counts k row, counts_at is_there row.elements place no_element there.0 there.1))
  none_in_thing k thing none = refl

  -- the element of a list among things is found at its place
  found_among : (list : ℕ) (row : SdrList) (i : ℕ) (es : List (ℕ × Thing)) → finite.find nat_cmp list es ≡ Some (things.List row)
      → i < length row.elements → is_there (get_or row.elements i no_element) ≡ true → count_by begins_there (all_blocks es) ≤ 1
      → spot_among addr es ≡ Some (record { list = list; row = row; place = i })
  found_among list row i [] found within here few = let none : None ≡ Some (things.List row) = found in cc
  found_among list row i (e ∷ es) found within here few =
      let counts = more_counts e es in
      let rest = found_among list row i es in
      on_test (is_eq (nat_cmp list e.0))
      (λ first.
      let same : Some e.1 ≡ Some (things.List row) = sym (ap (λ b. cond b (Some e.1) (finite.find nat_cmp list es)) first) ∙ found in
      let thing : e.1 ≡ things.List row = cc in
      let at : e.0 ≡ list = sym (same_address list e.0 first) in
      let own : count_by begins_there (thing_blocks e.0 e.1) ≤ 1 = omega (arith, few, counts) in
      let one : count_by is_there row.elements ≤ 1 =
      omega (arith, own, list_counts e.0 row, ap (λ (t : Thing). count_by begins_there (thing_blocks e.0 t)) thing) in
      let place = only_position is_there row.elements i no_element within here one in
      ap (λ (t : Thing). option_or (spot_in_thing addr e.0 (Some t)) (spot_among addr es)) thing
      ∙ ap (λ (o : Option ℕ). option_or (option_map {U = Spot} (λ place. record { list = e.0; row = row; place = place }) o) (spot_among addr es)) place
      ∙ ap (λ (k : ℕ). let spot : Spot = record { list = k; row = row; place = i } in Some spot) at)
      (λ apart.
      let later = sym (ap (λ b. cond b (Some e.1) (finite.find nat_cmp list es)) apart) ∙ found in
      let some : 1 ≤ count_by begins_there (all_blocks es) =
      omega (arith, counts_at is_there row.elements i no_element within here, among_counts list row es later) in
      let none : count_by begins_there (thing_blocks e.0 e.1) ≡ 0 = omega (arith, few, counts, some) in
      ap (λ (o : Option Spot). option_or o (spot_among addr es)) (none_in_thing e.0 e.1 none) ∙ rest later within here (omega (arith, few, counts)))

  -- of a valid world's blocks in things one at most begins there
  few_there : (w : World) → IsValid w → count_by begins_there (all_blocks (finite.entries w.things)) ≤ 1
  few_there w valid =
      let es = finite.entries w.things in
      let other_way : (λ (b : UsedBlock). nat_eq addr b.addr) ≡ begins_there = λ i b. nat_eq_equiv.symm addr b.addr i in
      omega (
        arith,
        once nat_eq_equiv _ valid.distinct_addresses addr,
        count_by-map (λ (b : UsedBlock). b.addr) (nat_eq addr) (blocks_of w),
        ap (λ p. count_by p (blocks_of w)) other_way,
        sum_by-append (λ b. weight (begins_there b)) (all_blocks es ++ map block_for_name w.names) (ticket_blocks w.accounts),
        sum_by-append (λ b. weight (begins_there b)) (all_blocks es) (map block_for_name w.names),
      )

-- the address of an element within a list
element_addr_at : (elements : List Element) (i : ℕ) → i < length elements → element_addr elements i ≡ (get_or elements i no_element).block
element_addr_at elements i within = ap element_addr_or_zero (slice_get-get_or elements i no_element within)

-- an element of a list of a valid world stands at its place of it
pub element_stands : (w : World) → IsValid w → (list : ℕ) (row : SdrList) → list_at w list ≡ Some row → (i : ℕ) → i < length row.elements
    → spot_of w (element_addr row.elements i) ≡ Some (record { list = list; row = row; place = i })
element_stands w valid list row there i within =
    let e = get_or row.elements i no_element in
    let addr : element_addr row.elements i ≡ e.block = element_addr_at row.elements i within in
    ap (λ (a : ℕ). spot_of w a) addr
    ∙ found_among e.block list row i (finite.entries w.things) (sym (finite.get-entries w.things list) ∙ list_is (thing_at w list) row there) within
    (nat_eq_equiv.refl e.block) (few_there e.block w valid)
