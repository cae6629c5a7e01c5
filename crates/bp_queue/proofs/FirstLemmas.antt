-- The first one of a list, and what is told of it.
use Rattle.std.proofs.Common.{◌≡◌, ◌≢◌, ℕ, ◌<◌, ◌^◌, true, false, List, [], ◌∷◌, ◌++◌, Option, Some, None, refl, sym, ap, ◌∙◌, subst, inl, inr}
use Rattle.std.specs.Prelude.{is_some, length, map, option_map, slice_get}
use Rattle.std.specs.Option.{option_or}
use Rattle.sdr_base.specs.Blocks.{Block, Blocks}
use Rattle.sdr_base.specs.Entries.{BlocksAre, Entries}
use Rattle.sdr_base.specs.Linked.{first_of, last_of, linked}
use Rattle.sdr_base.specs.Lists.{KeepsList, ListElement, ListRow, addr_of, element_block, elements_between, list_block}
use Rattle.sdr_base.specs.Objects.{Misses, OnlyFault}
use Rattle.sdr_base.specs.Words.{HasWord, layout}
use Rattle.sdr_base.specs.declared.kind.Kind.TheVariants as kinds
use Rattle.sdr_base.specs.declared.stop.Stop.{Stop}
use Rattle.sdr_base.proofs.StandingLemmas.{nonzero}
use Rattle.sdr_list.specs.Calls.{TellsOfElement, TellsOfList}
use Rattle.sdr_list.specs.Kept.{IsSpot, SomeList, SomeSpot}
use Rattle.sdr_list.proofs.KeptLemmas.{element_there, spot_words}
use Rattle.bp_queue.specs.Calls.{Tells, TellsFirst, earliest_of, highest_item}
use Rattle.bp_queue.specs.Kept.{KeepsQueues, Row, SomeQueues, class_element, line_element, list_of, waiting_of}
use Rattle.bp_queue.specs.Removing.{IsItem, SomeItem}
use Rattle.bp_queue.specs.Sorting.{first}
use Rattle.bp_queue.specs.States.{class_of, line_of}
use Rattle.bp_queue.specs.declared.class.Class.{Class}
use Rattle.bp_queue.specs.declared.class.Class.TheVariants as classes
use Rattle.bp_queue.specs.declared.queues.Queues.{Queues}
use Rattle.bp_queue.proofs.QueueLemmas.{class_list, line_list, never_missed}
use Rattle.bp_queue.proofs.RemoveLemmas.{deadline_is}
use Rattle.bp_queue.proofs.SortingLemmas.{Among}
use Rattle.bp_queue.proofs.StateLemmas.{first_among, from_line}

-- the first element's address isn't 0
first_nonzero : (b : Blocks) (list : ℕ) (x : ListElement) (xs : List ListElement) (before rest : Entries) →
    BlocksAre b (before ++ (linked addr_of (element_block list) 0 0 (x ∷ xs) ++ rest)) → x.addr ≢ 0
unfolding linked
first_nonzero b list x xs before rest s =
    nonzero b x.addr (element_block list 0 (first_of addr_of 0 xs) x) before (linked addr_of (element_block list) x.addr 0 xs ++ rest) s

-- where it is 0, there is none
none_by : (b : Blocks) (list : ℕ) (head : Block) (rest : Entries) (xs : List ListElement) →
    BlocksAre b ((list, head) ∷ (elements_between list 0 0 xs ++ rest)) → first_of addr_of 0 xs ≡ 0 → xs ≡ []
none_by b list head rest [] s z = refl
none_by b list head rest (x ∷ xs) s z = absurd (first_nonzero b list x xs ((list, head) ∷ []) rest s z)

pub none_first : {b : Blocks} {list : ℕ} {row : ListRow} → KeepsList b list row → first_of addr_of 0 row.elements ≡ 0 → row.elements ≡ []
none_first {b} {list} {row} k e =
    none_by b list (list_block row.user (length row.elements) (first_of addr_of 0 row.elements) (last_of addr_of 0 row.elements)) k.rest
    row.elements k.stands e

-- else it is that of the first
some_by : (xs : List ListElement) → first_of addr_of 0 xs ≢ 0 → (x : ListElement) × (slice_get xs 0 ≡ Some x) × (first_of addr_of 0 xs ≡ x.addr)
some_by [] n = absurd (n refl)
some_by (x ∷ xs) n = (x, refl, refl)

-- the first of a list, of which a number is told
module _ {b : Blocks} {list value : ℕ} (t : TellsOfList list (λ row. first_of addr_of 0 row.elements) b value) where
  pub tells_none : value ≡ 0 → TellsFirst list b None
  tells_none z = record {
    tells = λ row k. sym (ap (λ (xs : List ListElement). option_map (λ (x : ListElement). x.datum) (first xs)) (none_first k (sym (t.tells row k) ∙ z)));
  }

  module _ (n : value ≢ 0) (small : list < 2 ^ 64) where
    -- its place
    spot_of : (row : ListRow) → KeepsList b list row → (x : ListElement) → slice_get row.elements 0 ≡ Some x → first_of addr_of 0 row.elements ≡ x.addr →
        IsSpot b value (record { list = list; row = row; place = 0; datum = x.datum })
    spot_of row k x here at = record {
      keeps = k;
      small = small;
      here = here ∙ ap (λ (a : ℕ). Some (record { addr = a; datum = x.datum })) (sym (t.tells row k ∙ at));
    }

    pub first_spot : SomeList b list → SomeSpot b value
    first_spot k =
        let s = some_by k.row.elements (λ z. n (t.tells k.row k.keeps ∙ z)) in
        record { spot = record { list = list; row = k.row; place = 0; datum = s.0.datum }; is = spot_of k.row k.keeps s.0 s.1 s.2 }

    pub element_only : SomeList b list → (stop : Stop) → Misses (b value) value kinds.Element stop → OnlyFault stop
    element_only k stop m =
        let s = first_spot k in
        never_missed (b value) value kinds.Element (layout (spot_words s.spot) []) (element_there s.is) stop m

    pub tells_some : {datum : ℕ} → TellsOfElement value (λ spot. spot.datum) b datum → TellsFirst list b (Some datum)
    tells_some {datum} d = record {
      tells = λ row k.
          let s = some_by row.elements (λ z. n (t.tells row k ∙ z)) in
          ap (λ (v : ℕ). Some v) (d.tells (record { list = list; row = row; place = 0; datum = s.0.datum }) (spot_of row k s.0 s.1 s.2))
          ∙ by row.elements s.0 s.1;
    }
      where
        by : (xs : List ListElement) (x : ListElement) → slice_get xs 0 ≡ Some x →
            Some x.datum ≡ option_map (λ (y : ListElement). y.datum) (first xs)
        by [] x e = absurd (let f : None ≡ Some x = e in cc)
        by (y ∷ ys) x e = let f : Some y ≡ Some x = e in let g : y ≡ x = cc in ap (λ (z : ListElement). Some z.datum) (sym g)

-- the first element's datum is the first row's item
first_datum : (el : Row → ListElement) → ((r : Row) → (el r).datum ≡ r.waiting.item) → (rows : List Row) →
    option_map (λ (x : ListElement). x.datum) (first (map el rows)) ≡ option_map (λ (r : Row). r.waiting.item) (first rows)
first_datum el is [] = refl
first_datum el is (r ∷ rows) = ap (λ (v : ℕ). Some v) (is r)

-- a row among others is between two parts of them
pub split_among : (r : Row) (xs : List Row) → Among r xs → (before : List Row) × (behind : List Row) × (xs ≡ before ++ (r ∷ behind))
split_among r [] a = absurd a
split_among r (y ∷ ys) (inl same) = ([], ys, ap (λ (z : Row). z ∷ ys) same)
split_among r (y ∷ ys) (inr a) =
    let s = split_among r ys a in (y ∷ s.0, s.1, ap (λ (zs : List Row). y ∷ zs) s.2)

module _ {b : Blocks} {q : Queues} {next : ℕ} {rows : List Row} {rest : Entries} (k : KeepsQueues b q next rows rest) where
  pub line_first : {item : Option ℕ} → TellsFirst q.line b item → item ≡ option_map (λ (r : Row). r.waiting.item) (first (line_of waiting_of rows))
  line_first t = t.tells _ (line_list k) ∙ first_datum line_element (λ r. refl) (line_of waiting_of rows)

  pub class_first : {item : Option ℕ} (class : Class) → TellsFirst (list_of q class) b item →
      item ≡ option_map (λ (r : Row). r.waiting.item) (first (class_of waiting_of class rows))
  class_first class t = t.tells _ (class_list k class) ∙ first_datum class_element (λ r. refl) (class_of waiting_of class rows)

  pub is_item : {item : ℕ} (r : Row) (a : Among r rows) → item ≡ r.waiting.item →
      (let s = split_among r rows a in IsItem b item q next s.0 r s.1 rest)
  is_item {item} r a e =
      let s = split_among r rows a in
      record { keeps = subst (λ (xs : List Row). KeepsQueues b q next xs rest) s.2 k; is = sym e }

  pub some_item : {item : ℕ} (r : Row) → Among r rows → item ≡ r.waiting.item → SomeItem b item
  some_item {item} r a e =
      let s = split_among r rows a in
      record { q = q; next = next; before = s.0; row = r; behind = s.1; rest = rest; stands = is_item r a e }

-- the row whose item is told as the first one of some
pub some_row : (o : Option Row) (item : ℕ) → Some item ≡ option_map (λ (r : Row). r.waiting.item) o → (r : Row) × (o ≡ Some r) × (item ≡ r.waiting.item)
some_row None item e = absurd (let f : Some item ≡ None = e in cc)
some_row (Some r) item e = (r, refl, (let f : Some item ≡ Some r.waiting.item = e in cc))

pub no_row : (o : Option Row) → None ≡ option_map (λ (r : Row). r.waiting.item) o → o ≡ None
no_row None e = refl
no_row (Some r) e = absurd (let f : None ≡ Some r.waiting.item = e in cc)

-- the first one of the highest class, class by class
or_map : (o p : Option Row) →
    option_map (λ (r : Row). r.waiting.item) (option_or o p)
    ≡ option_or (option_map (λ (r : Row). r.waiting.item) o) (option_map (λ (r : Row). r.waiting.item) p)
or_map None p = refl
or_map (Some r) p = refl

or_some : (o p : Option ℕ) (item : ℕ) → o ≡ Some item → option_or o p ≡ Some item
or_some o p item e = ap (λ (x : Option ℕ). option_or x p) e

or_none : (o p : Option ℕ) → o ≡ None → option_or o p ≡ p
or_none o p e = ap (λ (x : Option ℕ). option_or x p) e

abbrev of_class : Class → List Row → Option ℕ
of_class class rows = option_map (λ (r : Row). r.waiting.item) (first (class_of waiting_of class rows))

classes_of : (rows : List Row) →
    highest_item rows ≡ option_or (of_class classes.Urgent rows) (option_or (of_class classes.Normal rows) (of_class classes.Bulk rows))
classes_of rows =
    or_map (first (class_of waiting_of classes.Urgent rows))
    (option_or (first (class_of waiting_of classes.Normal rows)) (first (class_of waiting_of classes.Bulk rows)))
    ∙ ap (option_or (of_class classes.Urgent rows))
    (or_map (first (class_of waiting_of classes.Normal rows)) (first (class_of waiting_of classes.Bulk rows)))

-- what is told of the first of the line
module _ {b : Blocks} {q : Queues} where
  module _ {item : ℕ} (t : TellsFirst q.line b (Some item)) where
    pub row_of_line : {next : ℕ} {rows : List Row} {rest : Entries} (k : KeepsQueues b q next rows rest) →
        (r : Row) × (first (line_of waiting_of rows) ≡ Some r) × (item ≡ r.waiting.item)
    row_of_line {next} {rows} k = some_row (first (line_of waiting_of rows)) item (line_first k t)

    pub among_of_line : {next : ℕ} {rows : List Row} {rest : Entries} (k : KeepsQueues b q next rows rest) → Among (row_of_line k).0 rows
    among_of_line {next} {rows} k =
        let f = row_of_line k in from_line waiting_of f.0 rows (first_among f.0 (line_of waiting_of rows) f.1)

    pub line_item : SomeQueues b q → SomeItem b item
    line_item s = let f = row_of_line s.keeps in some_item s.keeps f.0 (among_of_line s.keeps) f.2

    pub line_deadline : {deadline : ℕ} → HasWord (b item) 1 deadline → {next : ℕ} {rows : List Row} {rest : Entries} →
        (k : KeepsQueues b q next rows rest) → deadline ≡ (row_of_line k).0.waiting.deadline
    line_deadline h k = let f = row_of_line k in deadline_is (is_item k f.0 (among_of_line k) f.2) h

    pub tells_deadline : {deadline : ℕ} → HasWord (b item) 1 deadline → Tells q earliest_of b (Some deadline)
    tells_deadline {deadline} h = record {
      tells = λ next rows rest k.
          let f = row_of_line k in
          ap (λ (v : ℕ). Some v) (line_deadline h k) ∙ sym (ap (option_map (λ (r : Row). r.waiting.deadline)) f.1);
    }

  pub no_line : TellsFirst q.line b None → {next : ℕ} {rows : List Row} {rest : Entries} → KeepsQueues b q next rows rest →
      first (line_of waiting_of rows) ≡ None
  no_line t {next} {rows} k = no_row (first (line_of waiting_of rows)) (line_first k t)

  pub tells_no_deadline : TellsFirst q.line b None → Tells q earliest_of b None
  tells_no_deadline t = record {
    tells = λ next rows rest k. sym (ap (option_map (λ (r : Row). r.waiting.deadline)) (no_line t k));
  }

  -- where the urgent class has one, that is it
  pub highest_urgent : {o : Option ℕ} → TellsFirst q.urgent b o → is_some o ≡ true → Tells q highest_item b o
  highest_urgent {o = None} t some = absurd (let f : false ≡ true = some in cc)
  highest_urgent {o = Some item} t some = record {
    tells = λ next rows rest k.
        let u = class_first k classes.Urgent t in
        sym (classes_of rows ∙ or_some (of_class classes.Urgent rows) _ item (sym u));
  }

  pub highest_normal : {o p : Option ℕ} → TellsFirst q.urgent b o → is_some o ≡ false → TellsFirst q.normal b p → is_some p ≡ true →
      Tells q highest_item b p
  highest_normal {o = Some item} u no_one t some = absurd (let f : true ≡ false = no_one in cc)
  highest_normal {o = None} {p = None} u no_one t some = absurd (let f : false ≡ true = some in cc)
  highest_normal {o = None} {p = Some item} u no_one t some = record {
    tells = λ next rows rest k.
        let none = class_first k classes.Urgent u in
        let n = class_first k classes.Normal t in
        sym (classes_of rows ∙ or_none (of_class classes.Urgent rows) _ (sym none)
        ∙ or_some (of_class classes.Normal rows) (of_class classes.Bulk rows) item (sym n));
  }

  pub highest_bulk : {o p r : Option ℕ} → TellsFirst q.urgent b o → is_some o ≡ false → TellsFirst q.normal b p → is_some p ≡ false →
      TellsFirst q.bulk b r → Tells q highest_item b r
  highest_bulk {o = Some item} u no_one n no_other t = absurd (let f : true ≡ false = no_one in cc)
  highest_bulk {o = None} {p = Some item} u no_one n no_other t = absurd (let f : true ≡ false = no_other in cc)
  highest_bulk {o = None} {p = None} u no_one n no_other t = record {
    tells = λ next rows rest k.
        let one = class_first k classes.Urgent u in
        let two = class_first k classes.Normal n in
        sym (classes_of rows ∙ or_none (of_class classes.Urgent rows) _ (sym one)
        ∙ or_none (of_class classes.Normal rows) (of_class classes.Bulk rows) (sym two) ∙ sym (class_first k classes.Bulk t));
  }
