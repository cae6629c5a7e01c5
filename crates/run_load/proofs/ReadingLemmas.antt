-- A list of a heap that is read element by element.
use Rattle.std.proofs.Common.{◌≡◌, ◌∙◌, ◌<◌, ◌≤◌, ◌+◌, ◌^◌, ℕ, List, [], Option, None, Some, true, false, length, get_or, take, refl, sym, ap, subst, arith, add-one, true≢false}
use Rattle.std.specs.Option.{option_map, option_map_or}
use Rattle.std.specs.Prelude.{IfSome, is_some}
use Rattle.std.proofs.Math.Seq.{take-suc}
use Rattle.std.proofs.lemmas.List.{take_all}
use Rattle.std.proofs.lemmas.List.Sums.{sum_by_push}
use Rattle.std.proofs.lemmas.Option.{slice_get-get_or}
use Rattle.run_load.proofs.AskingLemmas.{asks_then}
use Rattle.run_load.proofs.ElementLemmas.{element_stands}
use Rattle.run_load.specs.Asking.{AsksOnly, ShowsOther}
use Rattle.run_load.specs.Listed.{bytes_named, elements_at, list_at, raw_bytes_at}
use Rattle.run_load.specs.Reading.{HasList, ReadsTo}
use Rattle.law_steps.proofs.ListShapes.{no_element}
use Rattle.sdr_disk.specs.declared.disk.Disk.{Ghosts as DiskGhosts}
use Rattle.sdr_machine.specs.Serving.{SomeState}
use Rattle.sdr_machine.specs.Standing.{GroundState}
use Rattle.sdr_model.specs.Limits.{longest_raw}
use Rattle.sdr_model.specs.ListSteps.{datum_at, datum_of, element_addr}
use Rattle.sdr_model.specs.Things.{Spot}
use Rattle.sdr_model.specs.Valid.{IsValid, IsValidThing}
use Rattle.sdr_model.specs.World.{World, as_raw, spot_of, thing_at}
use Rattle.sdr_model.specs.declared.things.Element.{Element}
use Rattle.sdr_model.specs.declared.things.SdrList.{SdrList}
use Rattle.sdr_model.specs.declared.things.Thing.{Thing}
use Rattle.sdr_model.specs.declared.things.Thing.TheVariants as things
use Rattle.sdr_stands.proofs.ChangeLemmas.{apart}
use Rattle.sdr_station.specs.Grounded.{Grounded, StandsInMemory}
use Rattle.step_things.proofs.ListLemmas.{few_elements}
use Rattle.law_steps.proofs.ThingLemmas.{list_is}

-- the elements of a list are those at its address
elements_are : (w : World) (addr : ℕ) (row : SdrList) → list_at w addr ≡ Some row → elements_at w addr ≡ row.elements
elements_are w addr row there = ap (λ (o : Option SdrList). option_map_or (λ (r : SdrList). r.elements) o []) there

-- a list of a heap has few elements
pub few_in_list : {D M : Type 0} (g : Grounded D M) (v : GroundState) (list : ℕ) (row : SdrList) → StandsInMemory g v → list_at v.now.world list ≡ Some row
    → length row.elements ≤ 2 ^ 32
few_in_list g v list row at there =
    let h = at.stood in
    let a = apart list (things.List row) h.stands (list_is _ _ there) in
    let few = few_elements h.heap list row (record { few = h.few; small = h.small }) a in
    omega (arith, few, h.small)

-- where no raw object is there, it has no bytes
pub no_raw : (w : World) (addr : ℕ) → is_some (as_raw (thing_at w addr)) ≡ false → raw_bytes_at w addr ≡ 0
no_raw w addr none = by (as_raw (thing_at w addr)) none
  where
    by : (o : Option (List ℕ)) → is_some o ≡ false → option_map_or length o 0 ≡ 0
    by None none = refl
    by (Some bytes) none = absurd (true≢false none)

-- where one is there, it has as many bytes as were told of it in a world that shows others
pub raw_measured : (w w' : World) (addr told : ℕ) → w' ≡ record w { shown = w'.shown } → is_some (as_raw (thing_at w addr)) ≡ true
    → ((bytes : List ℕ) → as_raw (thing_at w' addr) ≡ Some bytes → told ≡ length bytes) → told ≡ raw_bytes_at w addr
raw_measured w w' addr told same raw long = by (as_raw (thing_at w addr)) refl raw
  where
    by : (o : Option (List ℕ)) → as_raw (thing_at w addr) ≡ o → is_some o ≡ true → told ≡ raw_bytes_at w addr
    by None at some = absurd (true≢false (sym some))
    by (Some bytes) at some =
        long bytes (ap (λ (x : World). as_raw (thing_at x addr)) same ∙ at) ∙ sym (ap (λ (o : Option (List ℕ)). option_map_or length o 0) at)

-- a raw object of a valid world is no longer than is allowed
pub raw_is_short : (w : World) (addr : ℕ) → IsValid w → raw_bytes_at w addr ≤ longest_raw
raw_is_short w addr valid = by (thing_at w addr) (valid.things addr)
  where
    by : (o : Option Thing) → IfSome o IsValidThing → option_map_or length (as_raw o) 0 ≤ longest_raw
    by None limits = omega arith
    by (Some (things.Raw bytes)) limits = limits
    by (Some thing) limits = omega arith

-- behind one place more
take_next : (w : World) (elements : List Element) (place : ℕ) → place < length elements
    → bytes_named w (take (place + 1) elements) ≡ bytes_named w (take place elements) + raw_bytes_at w (datum_at elements place)
take_next w elements place within =
    let e = get_or elements place no_element in
    let datum : datum_at elements place ≡ e.datum = ap datum_of (slice_get-get_or elements place no_element within) in
    ap (λ (n : ℕ). bytes_named w (take n elements)) (add-one place)
    ∙ ap (bytes_named w) (take-suc elements place no_element within)
    ∙ sum_by_push (λ (x : Element). raw_bytes_at w x.datum) (take place elements) e
    ∙ ap (λ (d : ℕ). bytes_named w (take place elements) + raw_bytes_at w d) (sym datum)

module _ {D M : Type 0} {d : DiskGhosts D} (list count : ℕ) (start now : Grounded D M) (place element bytes : ℕ)
    (reads : ReadsTo d list count place element bytes start now) (before : place < count) where
  -- the element at the place is found in whatever the heap stands for, and it stands for the same world as at the start
  record AtElement (v : GroundState) (row : SdrList) : Type 0 where
    within : place < length row.elements
    later : SomeState StandsInMemory now (ShowsOther v)
    spot : spot_of later.for.now.world element ≡ Some (record { list = list; row = row; place = place })

  at_element : (v : GroundState) → StandsInMemory start v → (has : HasList list count v.now.world) → AtElement v has.row
  at_element v at has =
      let here = reads.each v at has in
      let s = reads.asks.each v at in
      let is_later : list_at s.for.now.world list ≡ Some has.row = ap (λ (w : World). list_at w list) s.tells.now ∙ has.there in
      let within : place < length has.row.elements = omega (arith, before, has.long) in
      let first : element ≡ element_addr has.row.elements place = here.element_is ∙ ap (λ es. element_addr es place) (elements_are v.now.world list has.row has.there) in
      record {
        within = within;
        later = s;
        spot = ap (λ (a : ℕ). spot_of s.for.now.world a) first
            ∙ element_stands s.for.now.world s.holds.stood.whole.valid list has.row is_later place within;
      }

  -- behind the element at the place
  pub reads_next : (mid more new : Grounded D M) (datum length_of next : ℕ)
      → ((v : GroundState) (s : Spot) → StandsInMemory now v → spot_of v.now.world element ≡ Some s → datum ≡ datum_at s.row.elements s.place)
      → AsksOnly d now mid
      → ((v : GroundState) → StandsInMemory mid v → length_of ≡ raw_bytes_at v.now.world datum) → length_of ≤ longest_raw
      → AsksOnly d mid more
      → ((v : GroundState) (s : Spot) → StandsInMemory more v → spot_of v.now.world element ≡ Some s → next ≡ element_addr s.row.elements (s.place + 1))
      → AsksOnly d more new
      → ReadsTo d list count (place + 1) next (bytes + length_of) start new
  reads_next mid more new datum length_of next datum_told asked_data raw few asked_raw follows asked_next = record {
    asks = asks_then start now new reads.asks (asks_then now mid new asked_data (asks_then mid more new asked_raw asked_next));
    each = λ v at has.
        let a = at_element v at has in
        let row = has.row in
        let here = reads.each v at has in
        let s = a.later in
        let m = asked_data.each s.for s.holds in
        let n = asked_raw.each m.for m.holds in
        let es = elements_are v.now.world list row has.there in
        let datum_is : datum ≡ datum_at row.elements place = datum_told s.for _ s.holds a.spot in
        let raw_is : length_of ≡ raw_bytes_at v.now.world datum =
        raw m.for m.holds ∙ ap (λ (w : World). raw_bytes_at w datum) m.tells.now ∙ ap (λ (w : World). raw_bytes_at w datum) s.tells.now in
        let spot_now : spot_of n.for.now.world element ≡ Some (record { list = list; row = row; place = place }) =
        ap (λ (w : World). spot_of w element) n.tells.now ∙ ap (λ (w : World). spot_of w element) m.tells.now ∙ a.spot in
        record {
          element_is = follows n.for _ n.holds spot_now ∙ ap (λ xs. element_addr xs (place + 1)) (sym es);
          bytes_are =
              ap (λ (b : ℕ). b + length_of) (here.bytes_are ∙ ap (λ xs. bytes_named v.now.world (take place xs)) es)
              ∙ ap (λ (b : ℕ). bytes_named v.now.world (take place row.elements) + b) (raw_is ∙ ap (raw_bytes_at v.now.world) datum_is)
              ∙ sym (take_next v.now.world row.elements place a.within)
              ∙ ap (λ xs. bytes_named v.now.world (take (place + 1) xs)) (sym es);
        };
    few = omega (arith, reads.few, few);
  }

-- a count of elements that was read is small
pub few_counted : {D M : Type 0} (g : Grounded D M) (v : GroundState) (list : ℕ) → StandsInMemory g v → (told : Option ℕ)
    → told ≡ option_map (λ (row : SdrList). length row.elements) (list_at v.now.world list) → IfSome told (λ count. count ≤ 2 ^ 32)
few_counted g v list at told is = subst (λ (o : Option ℕ). IfSome o (λ count. count ≤ 2 ^ 32)) (sym is) (by (list_at v.now.world list) refl)
  where
    by : (o : Option SdrList) → list_at v.now.world list ≡ o → IfSome (option_map (λ (row : SdrList). length row.elements) o) (λ count. count ≤ 2 ^ 32)
    by None none = tt
    by (Some row) there = few_in_list g v list row at there

-- before the first place
pub reads_first : {D M : Type 0} {d : DiskGhosts D} (list count : ℕ) (start now : Grounded D M) (first : ℕ) → AsksOnly d start now
    → ((v : GroundState) (row : SdrList) → StandsInMemory start v → list_at v.now.world list ≡ Some row → first ≡ element_addr row.elements 0)
    → ReadsTo d list count 0 first 0 start now
reads_first list count start now first asks is = record {
  asks = asks;
  each = λ v at has. record {
    element_is = is v has.row at has.there ∙ ap (λ es. element_addr es 0) (sym (elements_are v.now.world list has.row has.there));
    bytes_are = refl;
  };
  few = omega arith;
}

-- behind the last place
pub reads_all : {D M : Type 0} {d : DiskGhosts D} (list count place element bytes : ℕ) (start now : Grounded D M) → ReadsTo d list count place element bytes start now
    → count ≤ place → (v : GroundState) → StandsInMemory start v → HasList list count v.now.world
    → bytes ≡ bytes_named v.now.world (elements_at v.now.world list)
reads_all list count place element bytes start now reads all v at has =
    let es = elements_are v.now.world list has.row has.there in
    let enough : length (elements_at v.now.world list) ≤ place = omega (arith, ap (λ (xs : List Element). length xs) es, has.long, all) in
    (reads.each v at has).bytes_are ∙ ap (bytes_named v.now.world) (take_all place (elements_at v.now.world list) enough)
