-- One more is put: its item comes into its lists, and says so.
use Rattle.std.proofs.Common.{◌≡◌, ℕ, ◌+◌, ◌*◌, ◌≤◌, ◌<◌, ◌^◌, Bool, true, false, not, cond, List, [], ◌∷◌, ◌++◌, length, set, Some, refl, sym, ap, ◌∙◌, subst, arith, append_assoc, length-append}
use Rattle.std.specs.Prelude.{filter, map}
use Rattle.std.specs.List.{AllByRecursion as Each}
use Rattle.std.specs.Ordering.{is_gt}
use Rattle.std.specs.declared.cmp.Ordering.{Ordering}
use Rattle.std.proofs.lemmas.List.Concat.{flat_map-append}
use Rattle.std.proofs.lemmas.List.Elements.{All-push}
use Rattle.byteorder.specs.Endian.{big_bytes}
use Rattle.sdr_base.specs.Blocks.{Block, Blocks, Reaches, overwritten, with_block}
use Rattle.sdr_base.specs.Entries.{BlocksAre, Changes, Entries, Few}
use Rattle.sdr_base.specs.Lists.{KeepsList, ListElement, ListRow, list_entries}
use Rattle.sdr_base.specs.Making.{MakesThing, besides}
use Rattle.sdr_base.specs.Objects.{Heap, OnlyUnmoved}
use Rattle.sdr_base.specs.Raws.{raw_block}
use Rattle.sdr_base.specs.Words.{layout, with_word}
use Rattle.sdr_base.specs.declared.kind.Kind.TheVariants as kinds
use Rattle.sdr_base.specs.declared.moves.Move.TheVariants.{Took}
use Rattle.sdr_base.specs.declared.stop.Stop.{Stop}
use Rattle.sdr_base.proofs.GaveLemmas.{made_then}
use Rattle.sdr_base.proofs.HeapLemmas.{heap_blocks}
use Rattle.sdr_base.proofs.StandingLemmas.{found, moved}
use Rattle.sdr_base.proofs.WritingLemmas.{block, reaches, word_set}
use Rattle.sdr_list.specs.Calls.{InsertsInList, SetsInList}
use Rattle.sdr_list.specs.Kept.{SomeList, with_element}
use Rattle.sdr_list.specs.Orders.{ordered_place, sort_key}
use Rattle.bp_queue.specs.Classes.{is_class}
use Rattle.bp_queue.specs.Kept.{KeepsQueues, Row, RowFits, class_element, class_row, four_lists, item_bytes, item_entries, items_entries, line_element, line_row, list_of, queue_entries, waiting_of}
use Rattle.bp_queue.specs.Keys.{ByDeadline, ByOrdinal}
use Rattle.bp_queue.specs.Lacking.{LacksRoom}
use Rattle.bp_queue.specs.Putting.{Admits, Enlists, KeepsListed, KeepsUnlisted, NotesElements, SomeUnlisted, nowhere, row_of}
use Rattle.bp_queue.specs.States.{Waiting, class_of, line_of}
use Rattle.bp_queue.specs.declared.class.Class.{Class}
use Rattle.bp_queue.specs.declared.putting.Elements.{Elements}
use Rattle.bp_queue.specs.declared.putting.Wanted.{Wanted}
use Rattle.bp_queue.specs.declared.queues.Queues.{Queues}
use Rattle.bp_queue.proofs.FitLemmas.{fit_push}
use Rattle.bp_queue.proofs.FourLemmas.{around_more, before_more, class_changed, four_same, line_changed, with_class}
use Rattle.bp_queue.proofs.ItemLemmas.{due_test, item_block, item_found, item_key, item_words, rank_test}
use Rattle.bp_queue.proofs.LackLemmas.{all_lack}
use Rattle.bp_queue.proofs.PlaceLemmas.{insert_place}
use Rattle.bp_queue.proofs.QueueLemmas.{class_list, closed, each_fits, line_few, line_fits, line_kept, opened}
use Rattle.bp_queue.proofs.SortingLemmas.{each_among, each_at, each_filter, each_sorted, sorted_order}
use Rattle.bp_queue.proofs.StateLemmas.{class_is, class_of-push, due, due_order, in_class, line_of-push, other_class-push, rank_order, ranked, same_class}

-- Blocks where the items of rows stand, and one more, behind others.
module _ (b : Blocks) (front : Entries) (rows : List Row) (r : Row) (rest : Entries)
    (s : BlocksAre b (front ++ (items_entries rows ++ (item_entries r ++ rest)))) where
  new_there : b r.waiting.item ≡ Some (raw_block 0 (item_bytes r))
  new_there =
      found b r.waiting.item (raw_block 0 (item_bytes r)) (front ++ items_entries rows) rest
      (subst (λ (es : Entries). BlocksAre b es) (sym (append_assoc front (items_entries rows) (item_entries r ++ rest))) s)

  -- what a comparison says of the keys of each of them and of the one more
  pub tests : (order : List ℕ → List ℕ → Ordering) (may : Waiting → Waiting → Bool) →
      ((y : Row) → RowFits y → not (is_gt (order (item_bytes y) (item_bytes r))) ≡ may y.waiting r.waiting) → Each RowFits rows →
      Each (λ y. not (is_gt (order (sort_key b y.waiting.item) (sort_key b r.waiting.item))) ≡ may y.waiting r.waiting) rows
  tests order may says f =
      each_among (λ y. not (is_gt (order (sort_key b y.waiting.item) (sort_key b r.waiting.item))) ≡ may y.waiting r.waiting) rows
      (λ y a.
      ap (λ (key : List ℕ). not (is_gt (order key (sort_key b r.waiting.item))))
      (item_key b y (item_found b y front rows (item_entries r ++ rest) a s))
      ∙ ap (λ (key : List ℕ). not (is_gt (order (item_bytes y) key))) (item_key b r new_there)
      ∙ says y (each_at RowFits y rows f a))

module _ {q : Queues} {w : Wanted} {item next : ℕ} {rows : List Row} {rest : Entries} {old : Blocks}
    (k : KeepsUnlisted old q w item next rows rest) (at : Elements) where
  abbrev unlisted : Row
  unlisted = row_of w item nowhere

  abbrev listed : Row
  listed = row_of w item at

  abbrev more : List Row
  more = rows ++ (listed ∷ [])

  abbrev behind : Entries
  behind = items_entries rows ++ (item_entries unlisted ++ rest)

  fits_rows : Each RowFits rows
  fits_rows = each_fits rows k.keeps.fits.fits

  -- its place in the list of its class
  module _ (order : List ℕ → List ℕ → Ordering) (falls : ByOrdinal order) where
    class_tests : Each (λ y. not (is_gt (order (sort_key old y.waiting.item) (sort_key old item))) ≡ ranked waiting_of y listed)
        (class_of waiting_of w.class rows)
    class_tests =
        let P : Row → Type 0 = λ y. not (is_gt (order (sort_key old y.waiting.item) (sort_key old item))) ≡ ranked waiting_of y listed in
        each_sorted (ranked waiting_of) P [] (filter (in_class waiting_of w.class) rows) tt
        (each_filter P (in_class waiting_of w.class) rows
        (tests old (before_more q (class_row rows) (line_row next rows)) rows unlisted rest
        (subst (λ (es : Entries). BlocksAre old es) (around_more q (class_row rows) (line_row next rows) behind) (opened k.keeps))
        order (λ a b. ranked (λ x. x) a b) (λ y f. rank_test order falls y unlisted f k.fits) fits_rows))

    class_placed :
        with_element (class_row rows w.class) (ordered_place order old item (class_row rows w.class)) at.in_class item
        ≡ class_row more w.class
    class_placed =
        ap (λ (xs : List ListElement). record (class_row rows w.class) { elements = xs })
        (insert_place class_element (λ other. not (is_gt (order (sort_key old other) (sort_key old item)))) (ranked waiting_of)
        (rank_order waiting_of) listed (class_of waiting_of w.class rows)
        (sorted_order (ranked waiting_of) (rank_order waiting_of) (filter (in_class waiting_of w.class) rows)) class_tests
        ∙ sym (ap (map class_element) (class_of-push waiting_of w.class rows listed (same_class w.class))))

    -- where it has come there
    module _ {mid : Blocks} (c : Changes old mid (list_entries (list_of q w.class) (class_row rows w.class))
        (list_entries (list_of q w.class)
        (with_element (class_row rows w.class) (ordered_place order old item (class_row rows w.class)) at.in_class item))) where
      abbrev lists : Class → ListRow
      lists = with_class w.class (class_row more w.class) (class_row rows)

      pub stands_in_class : BlocksAre mid (four_lists q lists (line_row next rows) behind)
      stands_in_class =
          class_changed q (class_row rows) (line_row next rows) behind (opened k.keeps) w.class (class_row more w.class)
          (subst (λ (row : ListRow). Changes old mid (list_entries (list_of q w.class) (class_row rows w.class))
          (list_entries (list_of q w.class) row)) class_placed c)

      pub line_still : KeepsList mid q.line (line_row next rows)
      line_still =
          let bound = k.keeps.fits.bound in
          line_kept q lists (line_row next rows) behind stands_in_class (line_few rows k.keeps.fits.few k.keeps.fits.fits)
          (line_fits rows k.keeps.fits.few k.keeps.fits.fits next (omega (arith, bound)))

      lists_same : (class : Class) → lists class ≡ class_row more class
      lists_same class =
          elim (is_class class w.class) as (λ v. is_class class w.class ≡ v →
          cond v (class_row more w.class) (class_row rows class) ≡ class_row more class) [
            | true ↦ λ e. ap (class_row more) (sym (class_is class w.class e))
            | false ↦ λ e.
                ap (λ (xs : List Row). record (class_row rows class) { elements = map class_element xs })
                (sym (other_class-push waiting_of class rows listed e))
          ] refl

      -- its place in the line
      module _ (by : List ℕ → List ℕ → Ordering) (rises : ByDeadline by) where
        line_tests : Each (λ y. not (is_gt (by (sort_key mid y.waiting.item) (sort_key mid item))) ≡ due waiting_of y listed)
            (line_of waiting_of rows)
        line_tests =
            let P : Row → Type 0 = λ y. not (is_gt (by (sort_key mid y.waiting.item) (sort_key mid item))) ≡ due waiting_of y listed in
            each_sorted (due waiting_of) P [] rows tt
            (tests mid (before_more q lists (line_row next rows)) rows unlisted rest
            (subst (λ (es : Entries). BlocksAre mid es) (around_more q lists (line_row next rows) behind) stands_in_class)
            by (λ a b. due (λ x. x) a b) (λ y f. due_test by rises y unlisted f k.fits) fits_rows)

        line_placed :
            with_element (line_row next rows) (ordered_place by mid item (line_row next rows)) at.in_line item ≡ line_row next more
        line_placed =
            ap (λ (xs : List ListElement). record (line_row next rows) { elements = xs })
            (insert_place line_element (λ other. not (is_gt (by (sort_key mid other) (sort_key mid item)))) (due waiting_of)
            (due_order waiting_of) listed (line_of waiting_of rows) (sorted_order (due waiting_of) (due_order waiting_of) rows) line_tests
            ∙ sym (ap (map line_element) (line_of-push waiting_of rows listed)))

        pub stands_listed : {new : Blocks} → Changes mid new (list_entries q.line (line_row next rows))
            (list_entries q.line (with_element (line_row next rows) (ordered_place by mid item (line_row next rows)) at.in_line item)) →
            BlocksAre new (four_lists q (class_row more) (line_row next more) behind)
        stands_listed {new} d =
            subst (λ (es : Entries). BlocksAre new es) (four_same q lists (class_row more) (line_row next more) behind lists_same)
            (line_changed q lists (line_row next rows) behind stands_in_class (line_row next more)
            (subst (λ (row : ListRow). Changes mid new (list_entries q.line (line_row next rows)) (list_entries q.line row)) line_placed d))

-- its numbers fit once its elements are known
fits_listed : (w : Wanted) (item : ℕ) (at : Elements) → RowFits (row_of w item nowhere) → at.in_class < 2 ^ 32 → at.in_line < 2 ^ 32 →
    RowFits (row_of w item at)
fits_listed w item at f c l = record {
  ordinal = f.ordinal;
  deadline = f.deadline;
  item = f.item;
  object = f.object;
  some = f.some;
  in_class = omega (arith, c);
  in_line = omega (arith, l);
}

-- the item has come into both lists
module _ {q : Queues} {w : Wanted} {item : ℕ} {old mid : Heap} (order : List ℕ → List ℕ → Ordering) (falls : ByOrdinal order)
    {class_at : ℕ} (i : InsertsInList (list_of q w.class) (ordered_place order old.blocks item) item class_at old mid) where
  pub line_list_still : SomeUnlisted old.blocks q w item → SomeList mid.blocks q.line
  line_list_still u =
      let at : Elements = record { in_class = class_at; in_line = 0 } in
      record {
        row = line_row u.next u.rows;
        keeps = line_still u.keeps at order falls (i.adds _ (class_list u.keeps.keeps w.class)).changes;
      }

  pub enlists : {new : Heap} {line_at : ℕ} (by : List ℕ → List ℕ → Ordering) → ByDeadline by → SomeUnlisted old.blocks q w item →
      InsertsInList q.line (ordered_place by mid.blocks item) item line_at mid new →
      Enlists q w item old new (record { in_class = class_at; in_line = line_at })
  enlists {new} {line_at} by rises u j =
      let at : Elements = record { in_class = class_at; in_line = line_at } in
      let small_class = (i.adds _ (class_list u.keeps.keeps w.class)).small in
      let small_line = (j.adds _ (line_still u.keeps at order falls (i.adds _ (class_list u.keeps.keeps w.class)).changes)).small in
      record {
        enlists = λ next rows rest k.
            let c = (i.adds _ (class_list k.keeps w.class)).changes in
            record {
              stands = stands_listed k at order falls c by rises (j.adds _ (line_still k at order falls c)).changes;
              fits = k.keeps.fits;
              row = fits_listed w item at k.fits small_class small_line;
            };
        made = made_then (Took 32 class_at ∷ []) (Took 32 line_at ∷ []) i.made j.made;
        in_class = small_class;
        in_line = small_line;
      }

-- there are fewer rows than blocks
length-items : (rows : List Row) → length (items_entries rows) ≡ length rows
length-items [] = refl
length-items (r ∷ rows) = let ih = length-items rows in omega (arith, ih)

pub few_rows : {size : ℕ} {b : Blocks} (front : Entries) (rows : List Row) (rest : Entries) → Few size b → size ≤ 64 * 262144 →
    BlocksAre b (front ++ (items_entries rows ++ rest)) → length rows + 1 < 2 ^ 32
few_rows front rows rest f small s =
    let n = f.few (front ++ (items_entries rows ++ rest)) s in
    let a = length-append front (items_entries rows ++ rest) in
    let b = length-append (items_entries rows) rest in
    let c = length-items rows in
    omega (arith, n, a, b, c, small)

-- the item says where its elements are
module _ {q : Queues} {w : Wanted} {item : ℕ} {at : Elements} {next : ℕ} {rows : List Row} {rest : Entries} {b : Blocks}
    (k : KeepsListed b q w item at next rows rest) where
  abbrev all : List Row
  all = rows ++ (row_of w item at ∷ [])

  abbrev before : Entries
  before = before_more q (class_row all) (line_row next all) ++ items_entries rows

  abbrev raw : List ℕ → Block
  raw words = block kinds.Raw (layout words [])

  item_stands : BlocksAre b (before ++ ((item, raw (item_words (row_of w item nowhere))) ∷ rest))
  item_stands =
      subst (λ (x : Block). BlocksAre b (before ++ ((item, x) ∷ rest))) (item_block (row_of w item nowhere))
      (subst (λ (es : Entries). BlocksAre b es)
      (around_more q (class_row all) (line_row next all) (items_entries rows ++ (item_entries (row_of w item nowhere) ++ rest))
      ∙ sym (append_assoc (before_more q (class_row all) (line_row next all)) (items_entries rows) (item_entries (row_of w item nowhere) ++ rest)))
      k.stands)

  pub listed_reaches : Reaches (b item) 56
  listed_reaches =
      reaches (b item) kinds.Raw (item_words (row_of w item nowhere)) [] 56
      (found b item (raw (item_words (row_of w item nowhere))) before rest item_stands) (omega arith)

  module _ {b1 : Blocks} (one : b1 ≡ with_block b item (overwritten (b item) 40 (big_bytes 8 at.in_class))) where
    first_stands : BlocksAre b1 (before ++ ((item, raw (set (item_words (row_of w item nowhere)) 5 at.in_class)) ∷ rest))
    first_stands = word_set b b1 item kinds.Raw (item_words (row_of w item nowhere)) [] 5 at.in_class before rest one (omega arith) item_stands

    pub first_reaches : Reaches (b1 item) 56
    first_reaches =
        reaches (b1 item) kinds.Raw (set (item_words (row_of w item nowhere)) 5 at.in_class) [] 56
        (found b1 item (raw (set (item_words (row_of w item nowhere)) 5 at.in_class)) before rest first_stands) (omega arith)

    module _ {b2 : Blocks} (two : b2 ≡ with_block b1 item (overwritten (b1 item) 48 (big_bytes 8 at.in_line))) where
      second_stands : BlocksAre b2 (before ++ ((item, raw (item_words (row_of w item at))) ∷ rest))
      second_stands =
          word_set b1 b2 item kinds.Raw (set (item_words (row_of w item nowhere)) 5 at.in_class) [] 6 at.in_line before rest two
          (omega arith) first_stands

      noted : BlocksAre b2 (four_lists q (class_row all) (line_row next all) (items_entries rows ++ (item_entries (row_of w item at) ++ rest)))
      noted =
          subst (λ (es : Entries). BlocksAre b2 es)
          (append_assoc (before_more q (class_row all) (line_row next all)) (items_entries rows) (item_entries (row_of w item at) ++ rest)
          ∙ sym (around_more q (class_row all) (line_row next all) (items_entries rows ++ (item_entries (row_of w item at) ++ rest))))
          (subst (λ (x : Block). BlocksAre b2 (before ++ ((item, x) ∷ rest))) (sym (item_block (row_of w item at))) second_stands)

      module _ {size : ℕ} (f : Few size b) (small : size ≤ 64 * 262144) where
        few_all : length all < 2 ^ 32
        few_all =
            let n =
            few_rows (before_more q (class_row all) (line_row next all)) rows (item_entries (row_of w item nowhere) ++ rest) f small
            (subst (λ (es : Entries). BlocksAre b es)
            (around_more q (class_row all) (line_row next all) (items_entries rows ++ (item_entries (row_of w item nowhere) ++ rest))) k.stands) in
            let l = length-append rows (row_of w item at ∷ []) in omega (arith, n, l)

        pub noted_line : KeepsList b2 q.line (line_row next all)
        noted_line =
            let bound = k.fits.bound in
            line_kept q (class_row all) (line_row next all) (items_entries rows ++ (item_entries (row_of w item at) ++ rest)) noted
            (line_few all few_all (All-push RowFits rows (row_of w item at) k.fits.fits k.row))
            (line_fits all few_all (All-push RowFits rows (row_of w item at) k.fits.fits k.row) next (omega (arith, bound)))

        pub counted : {b3 : Blocks} → Changes b2 b3 (list_entries q.line (line_row next all))
            (list_entries q.line (record (line_row next all) { user = w.number + 1 })) →
            BlocksAre b3 (four_lists q (class_row all) (line_row (w.number + 1) all) (items_entries rows ++ (item_entries (row_of w item at) ++ rest)))
        counted c =
            line_changed q (class_row all) (line_row next all) (items_entries rows ++ (item_entries (row_of w item at) ++ rest)) noted
            (line_row (w.number + 1) all) c

pub notes : {q : Queues} {w : Wanted} {item : ℕ} {at : Elements} {old one two new : Heap} → Few old.size old.blocks → old.size ≤ 64 * 262144 →
    one ≡ with_word old item 5 at.in_class → two ≡ with_word one item 6 at.in_line →
    SetsInList q.line (λ row. record row { user = w.number + 1 }) two new → NotesElements q w item at old new
notes {q} {w} {item} {at} {old} {one} {two} {new} f small first second s = record {
  notes = λ next rows rest k.
      counted k (heap_blocks first) (heap_blocks second) f small
      (s.changes _ (noted_line k (heap_blocks first) (heap_blocks second) f small));
  same = s.same ∙ ap besides second ∙ ap besides first;
}

-- an item was made beside the queues
module _ {q : Queues} {w : Wanted} {item : ℕ} {old mid : Heap} (m : MakesThing 56 item (item_entries (row_of w item nowhere)) old mid)
    (fits : RowFits (row_of w item nowhere)) where
  pub beside : {next : ℕ} {rows : List Row} {rest : Entries} → KeepsQueues old.blocks q next rows rest →
      KeepsUnlisted mid.blocks q w item next rows rest
  beside {next} {rows} {rest} k = record {
    keeps = record {
      stands =
          moved (item_entries (row_of w item nowhere)) (queue_entries q next rows) rest
          (m.adds.changes.kept (queue_entries q next rows ++ rest) k.stands);
      fits = k.fits;
    };
    fits = fits;
  }

  -- it is in its lists and says so: it waits
  pub admits : {last new : Heap} {at : Elements} → Few old.size old.blocks → old.size ≤ 64 * 262144 → w.number < 2 ^ 40 →
      Enlists q w item mid last at → NotesElements q w item at last new → Admits q w item old new
  admits {last} {new} {at} f small number e n = record {
    at = at;
    admits = λ rows rest k unnamed some.
        let listed = e.enlists w.number rows rest (beside k) in
        let all = rows ++ (row_of w item at ∷ []) in
        let few =
        few_rows (before_more q (class_row rows) (line_row w.number rows)) rows rest f small
        (subst (λ (es : Entries). BlocksAre old.blocks es)
        (around_more q (class_row rows) (line_row w.number rows) (items_entries rows ++ rest)) (opened k)) in
        closed
        (subst (λ (es : Entries). BlocksAre new.blocks (four_lists q (class_row all) (line_row (w.number + 1) all) es))
        (sym (append_assoc (items_entries rows) (item_entries (row_of w item at)) rest)
        ∙ ap (λ (es : Entries). es ++ rest) (sym (flat_map-append item_entries rows (row_of w item at ∷ []))))
        (n.notes w.number rows rest listed))
        (fit_push (row_of w item at) k.fits refl number few unnamed listed.row);
    made = record {
      all = n.same ∙ (made_then (Took 56 item ∷ []) (Took 32 at.in_class ∷ Took 32 at.in_line ∷ []) m.made e.made).all;
    };
  }

-- an item was made and listed, and then there was no log room, or a fault
pub listed_lacks : {q : Queues} {w : Wanted} {item : ℕ} {old mid last : Heap} {at : Elements} (new : Heap) (stop : Stop) →
    MakesThing 56 item (item_entries (row_of w item nowhere)) old mid → Enlists q w item mid last at → OnlyUnmoved last new stop →
    LacksRoom (56 ∷ 32 ∷ 32 ∷ []) old new stop
listed_lacks {q} {w} {item} {old} {mid} {last} {at} new stop m e u =
    all_lack (record { need = 56; addr = item } ∷ record { need = 32; addr = at.in_class } ∷ record { need = 32; addr = at.in_line } ∷ [])
    (made_then (Took 56 item ∷ []) (Took 32 at.in_class ∷ Took 32 at.in_line ∷ []) m.made e.made) new stop u
