-- An item goes: from the list of its class, from the line, and then itself.
use Rattle.std.proofs.Common.{◌≡◌, ℕ, Bool, true, false, cond, List, [], ◌∷◌, ◌++◌, length, Some, None, refl, sym, ap, ◌∙◌, subst, arith, append_assoc}
use Rattle.std.specs.Prelude.{map, remove, slice_get}
use Rattle.std.proofs.lemmas.List.{map-append}
use Rattle.std.proofs.lemmas.List.Concat.{flat_map-append}
use Rattle.sdr_base.specs.Blocks.{Block, Blocks, Reaches, with_block}
use Rattle.sdr_base.specs.Entries.{BlocksAre, Changes, Entries}
use Rattle.sdr_base.specs.Lists.{ListElement, ListRow, list_entries}
use Rattle.sdr_base.specs.Making.{Made, gave}
use Rattle.sdr_base.specs.Objects.{Heap, with_given}
use Rattle.sdr_base.specs.Raws.{raw_block}
use Rattle.sdr_base.specs.Words.{HasWord, layout}
use Rattle.sdr_base.specs.declared.kind.Kind.TheVariants as kinds
use Rattle.sdr_base.specs.declared.moves.Move.TheVariants.{Gave}
use Rattle.sdr_base.proofs.GaveLemmas.{made_then, one_gave}
use Rattle.sdr_base.proofs.HeapLemmas.{given_blocks}
use Rattle.sdr_base.proofs.StandingLemmas.{went}
use Rattle.sdr_base.proofs.WritingLemmas.{block, reaches, word_is}
use Rattle.sdr_list.specs.Calls.{DeletesElement}
use Rattle.sdr_list.specs.Kept.{IsSpot, SomeSpot, Spot, without_element}
use Rattle.bp_queue.specs.Classes.{is_class}
use Rattle.bp_queue.specs.Kept.{FitQueue, KeepsQueues, Row, RowFits, class_element, class_row, four_lists, item_bytes, item_entries, items_entries, line_element, line_row, list_of, waiting_of}
use Rattle.bp_queue.specs.Removing.{IsItem, RemovesItem, SomeItem}
use Rattle.bp_queue.specs.States.{class_of, line_of, without}
use Rattle.bp_queue.specs.declared.class.Class.{Class}
use Rattle.bp_queue.specs.declared.queues.Queues.{Queues}
use Rattle.bp_queue.proofs.FitLemmas.{fit_filter, rows_apart, without_between}
use Rattle.bp_queue.proofs.FourLemmas.{around_more, before_more, class_changed, four_same, line_changed, with_class}
use Rattle.bp_queue.proofs.ItemLemmas.{item_block, item_found, item_words}
use Rattle.bp_queue.proofs.QueueLemmas.{class_list, closed, each_fits, line_few, line_fits, line_kept, list_small, opened}
use Rattle.bp_queue.proofs.SortingLemmas.{Among, Split, among_between, each_at}
use Rattle.bp_queue.proofs.StateLemmas.{among_class, among_line, apart_class, apart_line, class_is, class_of-without, keeps_but, line_of-without, other_class-without, split_object}

-- what stands between two parts of a list, and the list without it
pub here : {X : Type 0} (xs : List X) (x : X) (ys : List X) → slice_get (xs ++ (x ∷ ys)) (length xs) ≡ Some x
here [] x ys = refl
here (z ∷ xs) x ys = here xs x ys

gone : {X : Type 0} (xs : List X) (x : X) (ys : List X) → remove (xs ++ (x ∷ ys)) (length xs) ≡ xs ++ ys
gone [] x ys = refl
gone (z ∷ xs) x ys = ap (λ zs. z ∷ zs) (gone xs x ys)

-- one of some rows has its element in the list of these
module _ (el : Row → ListElement) {p : Row → Bool} {r : Row} {rows : List Row} (s : Split p r rows) where
  abbrev place_in : ℕ
  place_in = length (map el s.before)

  elements : map el rows ≡ map el s.before ++ (el r ∷ map el s.behind)
  elements = ap (map el) s.whole ∙ map-append el s.before (r ∷ s.behind)

  pub element_here : slice_get (map el rows) place_in ≡ Some (el r)
  element_here = ap (λ (xs : List ListElement). slice_get xs place_in) elements ∙ here (map el s.before) (el r) (map el s.behind)

  pub element_gone : remove (map el rows) place_in ≡ map el (s.before ++ s.behind)
  element_gone =
      ap (λ (xs : List ListElement). remove xs place_in) elements ∙ gone (map el s.before) (el r) (map el s.behind)
      ∙ sym (map-append el s.before s.behind)

-- the items of rows around one
items_around : (before behind : List Row) (r : Row) (rest : Entries) →
    items_entries (before ++ (r ∷ behind)) ++ rest ≡ items_entries before ++ (item_entries r ++ (items_entries behind ++ rest))
items_around before behind r rest =
    ap (λ (es : Entries). es ++ rest) (flat_map-append item_entries before (r ∷ behind))
    ∙ append_assoc (items_entries before) (item_entries r ++ items_entries behind) rest
    ∙ ap (λ (es : Entries). items_entries before ++ es) (append_assoc (item_entries r) (items_entries behind) rest)

items_without : (before behind : List Row) (rest : Entries) →
    items_entries (before ++ behind) ++ rest ≡ items_entries before ++ (items_entries behind ++ rest)
items_without before behind rest =
    ap (λ (es : Entries). es ++ rest) (flat_map-append item_entries before behind)
    ∙ append_assoc (items_entries before) (items_entries behind) rest

module _ {b : Blocks} {item : ℕ} {q : Queues} {next : ℕ} {before : List Row} {r : Row} {behind : List Row} {rest : Entries}
    (s : IsItem b item q next before r behind rest) where
  abbrev rows : List Row
  rows = before ++ (r ∷ behind)

  abbrev fewer : List Row
  fewer = before ++ behind

  among : Among r rows
  among = among_between before behind r

  fits_row : RowFits r
  fits_row = each_at RowFits r rows (each_fits rows s.keeps.fits.fits) among

  left : without waiting_of r.waiting.object rows ≡ fewer
  left = without_between before behind r (rows_apart s.keeps.fits)

  whole : Split (keeps_but waiting_of r.waiting.object) r rows
  whole = record { before = before; behind = behind; whole = refl; left = left }

  pub class_split : Split (keeps_but waiting_of r.waiting.object) r (class_of waiting_of r.waiting.class rows)
  class_split =
      split_object waiting_of r (class_of waiting_of r.waiting.class rows)
      (apart_class waiting_of r.waiting.class rows (rows_apart s.keeps.fits)) (among_class waiting_of r rows among)

  pub line_split : Split (keeps_but waiting_of r.waiting.object) r (line_of waiting_of rows)
  line_split =
      split_object waiting_of r (line_of waiting_of rows) (apart_line waiting_of rows (rows_apart s.keeps.fits))
      (among_line waiting_of r rows among)

  -- the item's block, and what its words say
  pub item_there : b item ≡ Some (block kinds.Raw (layout (item_words r) []))
  item_there =
      ap b (sym s.is)
      ∙ item_found b r (before_more q (class_row rows) (line_row next rows)) rows rest among
      (subst (λ (es : Entries). BlocksAre b es) (around_more q (class_row rows) (line_row next rows) (items_entries rows ++ rest)) (opened s.keeps))
      ∙ ap (λ (x : Block). Some x) (item_block r)

  pub item_reaches : Reaches (b item) 56
  item_reaches = reaches (b item) kinds.Raw (item_words r) [] 56 item_there (omega arith)

  pub deadline_is : {value : ℕ} → HasWord (b item) 1 value → value ≡ r.waiting.deadline
  deadline_is {value} h = word_is (b item) kinds.Raw (item_words r) [] 1 value item_there (omega arith) fits_row.deadline h

  pub object_is : {value : ℕ} → HasWord (b item) 4 value → value ≡ r.waiting.object
  object_is {value} h = word_is (b item) kinds.Raw (item_words r) [] 4 value item_there (omega arith) fits_row.object h

  pub in_class_is : {value : ℕ} → HasWord (b item) 5 value → value ≡ r.in_class
  in_class_is {value} h = word_is (b item) kinds.Raw (item_words r) [] 5 value item_there (omega arith) fits_row.in_class h

  pub in_line_is : {value : ℕ} → HasWord (b item) 6 value → value ≡ r.in_line
  in_line_is {value} h = word_is (b item) kinds.Raw (item_words r) [] 6 value item_there (omega arith) fits_row.in_line h

  -- its element in the list of its class
  abbrev class_spot : Spot
  class_spot = record {
    list = list_of q r.waiting.class;
    row = class_row rows r.waiting.class;
    place = place_in class_element class_split;
    datum = r.waiting.item;
  }

  is_class_spot : IsSpot b r.in_class class_spot
  is_class_spot = record {
    keeps = class_list s.keeps r.waiting.class;
    small = list_small q s.keeps.fits.lists r.waiting.class;
    here = element_here class_element class_split;
  }

  pub in_class_spot : SomeSpot b r.in_class
  in_class_spot = record { spot = class_spot; is = is_class_spot }

  -- the list of its class without it
  abbrev class_left : ListRow
  class_left = class_row fewer r.waiting.class

  class_gone : without_element (class_row rows r.waiting.class) (place_in class_element class_split) ≡ class_left
  class_gone =
      ap (λ (xs : List ListElement). record (class_row rows r.waiting.class) { elements = xs })
      (element_gone class_element class_split
      ∙ ap (map class_element)
      (sym class_split.left ∙ sym (class_of-without waiting_of r.waiting.class r.waiting.object rows)
      ∙ ap (class_of waiting_of r.waiting.class) left))

  -- where it was deleted there
  module _ {b1 : Blocks}
      (c : Changes b b1 (list_entries (list_of q r.waiting.class) (class_row rows r.waiting.class))
      (list_entries (list_of q r.waiting.class) (without_element (class_row rows r.waiting.class) (place_in class_element class_split)))) where
    abbrev lists : Class → ListRow
    lists = with_class r.waiting.class class_left (class_row rows)

    stands_first : BlocksAre b1 (four_lists q lists (line_row next rows) (items_entries rows ++ rest))
    stands_first =
        class_changed q (class_row rows) (line_row next rows) (items_entries rows ++ rest) (opened s.keeps) r.waiting.class class_left
        (subst (λ (row : ListRow). Changes b b1 (list_entries (list_of q r.waiting.class) (class_row rows r.waiting.class))
        (list_entries (list_of q r.waiting.class) row)) class_gone c)

    -- its element in the line
    abbrev line_spot : Spot
    line_spot = record {
      list = q.line;
      row = line_row next rows;
      place = place_in line_element line_split;
      datum = r.waiting.item;
    }

    is_line_spot : IsSpot b1 r.in_line line_spot
    is_line_spot =
        let bound = s.keeps.fits.bound in
        record {
          keeps =
              line_kept q lists (line_row next rows) (items_entries rows ++ rest) stands_first
              (line_few rows s.keeps.fits.few s.keeps.fits.fits)
              (line_fits rows s.keeps.fits.few s.keeps.fits.fits next (omega (arith, bound)));
          small = s.keeps.fits.lists.line;
          here = element_here line_element line_split;
        }

    pub in_line_spot : SomeSpot b1 r.in_line
    in_line_spot = record { spot = line_spot; is = is_line_spot }

    line_gone : without_element (line_row next rows) (place_in line_element line_split) ≡ line_row next fewer
    line_gone =
        ap (λ (xs : List ListElement). record (line_row next rows) { elements = xs })
        (element_gone line_element line_split
        ∙ ap (map line_element)
        (sym line_split.left ∙ sym (line_of-without waiting_of r.waiting.object rows) ∙ ap (line_of waiting_of) left))

    -- where it was deleted there too
    module _ {b2 : Blocks}
        (d : Changes b1 b2 (list_entries q.line (line_row next rows))
        (list_entries q.line (without_element (line_row next rows) (place_in line_element line_split)))) where
      stands_second : BlocksAre b2 (four_lists q lists (line_row next fewer) (items_entries rows ++ rest))
      stands_second =
          line_changed q lists (line_row next rows) (items_entries rows ++ rest) stands_first (line_row next fewer)
          (subst (λ (row : ListRow). Changes b1 b2 (list_entries q.line (line_row next rows)) (list_entries q.line row)) line_gone d)

      abbrev front : Entries
      front = before_more q lists (line_row next fewer)

      stands_around : BlocksAre b2 ((front ++ items_entries before) ++ (item_entries r ++ (items_entries behind ++ rest)))
      stands_around =
          subst (λ (es : Entries). BlocksAre b2 es)
          (around_more q lists (line_row next fewer) (items_entries rows ++ rest)
          ∙ ap (λ (es : Entries). front ++ es) (items_around before behind r rest)
          ∙ sym (append_assoc front (items_entries before) (item_entries r ++ (items_entries behind ++ rest)))) stands_second

      -- the item is there still
      pub still_used : Reaches (b2 item) 0
      still_used =
          reaches (b2 item) kinds.Raw (item_words r) [] 0
          (ap b2 (sym s.is)
          ∙ item_found b2 r front rows rest among
          (subst (λ (es : Entries). BlocksAre b2 es) (around_more q lists (line_row next fewer) (items_entries rows ++ rest)) stands_second)
          ∙ ap (λ (x : Block). Some x) (item_block r)) (omega arith)

      lists_same : (class : Class) → lists class ≡ class_row fewer class
      lists_same class =
          elim (is_class class r.waiting.class) as (λ v. is_class class r.waiting.class ≡ v →
          cond v class_left (class_row rows class) ≡ class_row fewer class) [
            | true ↦ λ e. ap (class_row fewer) (sym (class_is class r.waiting.class e))
            | false ↦ λ e.
                ap (λ (xs : List Row). record (class_row rows class) { elements = map class_element xs })
                (sym (other_class-without waiting_of class r rows whole e) ∙ ap (class_of waiting_of class) left)
          ] refl

      -- and then it goes
      pub item_goes : (new : Blocks) → new ≡ with_block b2 item None → KeepsQueues new q next fewer rest
      item_goes new is =
          closed
          (subst (λ (c : Blocks). BlocksAre c (four_lists q (class_row fewer) (line_row next fewer) (items_entries fewer ++ rest))) (sym is)
          (subst (λ (p : ℕ). BlocksAre (with_block b2 p None) (four_lists q (class_row fewer) (line_row next fewer) (items_entries fewer ++ rest))) s.is
          (subst (λ (es : Entries). BlocksAre (with_block b2 r.waiting.item None) es)
          (append_assoc front (items_entries before) (items_entries behind ++ rest)
          ∙ ap (λ (es : Entries). front ++ es) (sym (items_without before behind rest))
          ∙ sym (around_more q lists (line_row next fewer) (items_entries fewer ++ rest))
          ∙ four_same q lists (class_row fewer) (line_row next fewer) (items_entries fewer ++ rest) lists_same)
          (went b2 r.waiting.item (raw_block 0 (item_bytes r)) (front ++ items_entries before) (items_entries behind ++ rest) stands_around))))
          (subst (FitQueue q next) left (fit_filter (keeps_but waiting_of r.waiting.object) s.keeps.fits))

-- the calls one after another
module _ (item : ℕ) (old : Heap) (in_class in_line : ℕ) (at_class : HasWord (old.blocks item) 5 in_class)
    (at_line : HasWord (old.blocks item) 6 in_line) where
  -- the first deletion, as whichever queues keep the item see it
  module _ {first : Heap} (d : DeletesElement in_class old first) where
    pub line_there : SomeItem old.blocks item → SomeSpot first.blocks in_line
    line_there i =
        let s = i.stands in
        subst (SomeSpot first.blocks) (sym (in_line_is s at_line))
        (in_line_spot s
        (d.changes (class_spot s) (subst (λ (e : ℕ). IsSpot old.blocks e (class_spot s)) (sym (in_class_is s at_class)) (is_class_spot s))))

    -- and the second
    module _ {second : Heap} (e : DeletesElement in_line first second) where
      pub used_still : SomeItem old.blocks item → Reaches (second.blocks item) 0
      used_still i =
          let s = i.stands in
          let c = d.changes (class_spot s) (subst (λ (a : ℕ). IsSpot old.blocks a (class_spot s)) (sym (in_class_is s at_class)) (is_class_spot s)) in
          still_used s c
          (e.changes (line_spot s c) (subst (λ (a : ℕ). IsSpot first.blocks a (line_spot s c)) (sym (in_line_is s at_line)) (is_line_spot s c)))

      pub removes : {new : Heap} {object : ℕ} → HasWord (old.blocks item) 4 object → new ≡ with_given second item → RemovesItem item old new object
      removes {new} {object} at_object g = record {
        removes = λ q next before r behind rest s.
            let c = d.changes (class_spot s)
            (subst (λ (a : ℕ). IsSpot old.blocks a (class_spot s)) (sym (in_class_is s at_class)) (is_class_spot s)) in
            let f = e.changes (line_spot s c)
            (subst (λ (a : ℕ). IsSpot first.blocks a (line_spot s c)) (sym (in_line_is s at_line)) (is_line_spot s c)) in
            record {
              keeps = item_goes s c f new.blocks (given_blocks item second new g);
              made =
                  subst (λ (addrs : List ℕ). Made (gave addrs) old new)
                  (λ i. in_class_is s at_class i ∷ in_line_is s at_line i ∷ sym s.is i ∷ [])
                  (one_gave (in_class ∷ in_line ∷ []) item (made_then (Gave in_class ∷ []) (Gave in_line ∷ []) d.made e.made) g);
              named = object_is s at_object;
            };
      }
