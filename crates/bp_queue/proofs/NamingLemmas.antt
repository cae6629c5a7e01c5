-- The line is walked in search of the item that names an object.
use Rattle.std.proofs.Common.{◌≡◌, ◌≢◌, ℕ, suc, ◌+◌, ◌<◌, List, [], ◌∷◌, ◌++◌, length, drop, Some, None, refl, sym, ap, ◌∙◌, subst, arith, append_assoc, length-append, inl, inr, add-one, append-nil}
use Rattle.std.specs.Prelude.{Any, map, slice_get}
use Rattle.std.specs.List.{AllByRecursion as Each}
use Rattle.std.proofs.lemmas.List.{length-map, map-append}
use Rattle.std.proofs.lemmas.List.Elements.{All-from_recursion}
use Rattle.sdr_base.specs.Blocks.{Blocks}
use Rattle.sdr_base.specs.Entries.{Entries}
use Rattle.sdr_base.specs.Linked.{first_of}
use Rattle.sdr_base.specs.Lists.{ListElement, addr_of}
use Rattle.sdr_base.specs.Objects.{Misses, OnlyFault}
use Rattle.sdr_base.specs.Words.{HasWord, layout}
use Rattle.sdr_base.specs.declared.kind.Kind.TheVariants as kinds
use Rattle.sdr_base.specs.declared.stop.Stop.{Stop}
use Rattle.sdr_list.specs.Calls.{TellsOfElement, TellsOfList}
use Rattle.sdr_list.specs.Kept.{IsSpot, SomeSpot, Spot, addr_from}
use Rattle.sdr_list.proofs.KeptLemmas.{element_there, spot_words}
use Rattle.bp_queue.specs.Kept.{KeepsQueues, Row, SomeQueues, line_element, line_row, waiting_of}
use Rattle.bp_queue.specs.Putting.{FindsItem}
use Rattle.bp_queue.specs.Removing.{SomeItem}
use Rattle.bp_queue.specs.States.{line_of}
use Rattle.bp_queue.specs.declared.queues.Queues.{Queues}
use Rattle.bp_queue.proofs.FirstLemmas.{is_item, some_item}
use Rattle.bp_queue.proofs.QueueLemmas.{line_list, never_missed}
use Rattle.bp_queue.proofs.RemoveLemmas.{here, object_is}
use Rattle.bp_queue.proofs.SortingLemmas.{Among, among_between, each_among, each_at}
use Rattle.bp_queue.proofs.StateLemmas.{among_line, from_line}

-- some first rows of the line were seen, and none of them names the object; the cursor is at the next one
pub record SawRows (object : ℕ) (line : List Row) (element i : ℕ) : Type 0 where
  pub seen : List Row
  pub left : List Row
  pub whole : line ≡ seen ++ left
  pub passed : length seen ≡ i
  pub cursor : element ≡ first_of addr_of 0 (map line_element left)
  pub none : Each (λ r. r.waiting.object ≢ object) seen

-- so it is in whichever queues are kept
pub record WalksLine (q : Queues) (object : ℕ) (blocks : Blocks) (element i : ℕ) : Type 0 where
  pub walks : (next : ℕ) (rows : List Row) (rest : Entries) → KeepsQueues blocks q next rows rest →
      SawRows object (line_of waiting_of rows) element i

any_among : {X : Type 0} (P : X → Type 0) (x : X) (xs : List X) → Among x xs → P x → Any P xs
any_among P x [] a h = absurd a
any_among P x (y ∷ ys) (inl same) h = (0, x, omega arith, same, h)
any_among P x (y ∷ ys) (inr a) h =
    let t = any_among P x ys a h in
    (suc t.0, t.1, (let l = t.2 in omega (arith, l)), t.3, t.4)

dropped : {X : Type 0} (xs : List X) (x : X) (ys : List X) → drop (suc (length xs)) (xs ++ (x ∷ ys)) ≡ ys
dropped [] x ys = refl
dropped (z ∷ xs) x ys = dropped xs x ys

each_push : {X : Type 0} (P : X → Type 0) (xs : List X) (x : X) → Each P xs → P x → Each P (xs ++ (x ∷ []))
each_push P [] x e h = (h, tt)
each_push P (y ∷ ys) x e h = (e.0, each_push P ys x e.1 h)

module _ {q : Queues} {object : ℕ} {b : Blocks} where
  pub naming_begun : {element : ℕ} → TellsOfList q.line (λ row. first_of addr_of 0 row.elements) b element → WalksLine q object b element 0
  naming_begun t = record {
    walks = λ next rows rest k. record {
      seen = [];
      left = line_of waiting_of rows;
      whole = refl;
      passed = refl;
      cursor = t.tells _ (line_list k);
      none = tt;
    };
  }

  module _ {element i count : ℕ} (w : WalksLine q object b element i)
      (counted : TellsOfList q.line (λ row. length row.elements) b count) where
    rows_counted : {next : ℕ} {rows : List Row} {rest : Entries} → KeepsQueues b q next rows rest → count ≡ length (line_of waiting_of rows)
    rows_counted {next} {rows} k = counted.tells _ (line_list k) ∙ length-map (line_of waiting_of rows) line_element

    module _ (more : i < count) where
      -- the row at the cursor
      at_row : {next : ℕ} {rows : List Row} {rest : Entries} (k : KeepsQueues b q next rows rest) →
          (r : Row) × (left : List Row) × ((w.walks next rows rest k).left ≡ r ∷ left)
      at_row {next} {rows} {rest} k = by s.left refl
        where
          s : SawRows object (line_of waiting_of rows) element i
          s = w.walks next rows rest k

          by : (left : List Row) → s.left ≡ left → (r : Row) × (rest' : List Row) × (s.left ≡ r ∷ rest')
          by [] e =
              let c = rows_counted k in
              let l = ap (length {A = Row}) s.whole in
              let a = length-append s.seen s.left in
              let z = ap (length {A = Row}) e in
              let p = s.passed in
              absurd (omega (arith, c, l, a, z, p, more))
          by (r ∷ left) e = (r, left, e)

      module _ {next : ℕ} {rows : List Row} {rest : Entries} (k : KeepsQueues b q next rows rest) where
        abbrev saw : SawRows object (line_of waiting_of rows) element i
        saw = w.walks next rows rest k

        abbrev row : Row
        row = (at_row k).0

        abbrev others : List Row
        others = (at_row k).1

        line_is : line_of waiting_of rows ≡ saw.seen ++ (row ∷ others)
        line_is = saw.whole ∙ ap (λ (xs : List Row). saw.seen ++ xs) (at_row k).2

        elements_are : map line_element (line_of waiting_of rows) ≡ map line_element saw.seen ++ (line_element row ∷ map line_element others)
        elements_are = ap (map line_element) line_is ∙ map-append line_element saw.seen (row ∷ others)

        at_cursor : element ≡ row.in_line
        at_cursor = saw.cursor ∙ ap (λ (xs : List Row). first_of addr_of 0 (map line_element xs)) (at_row k).2

        abbrev spot : Spot
        spot = record {
          list = q.line;
          row = line_row next rows;
          place = length (map line_element saw.seen);
          datum = row.waiting.item;
        }

        is_spot : IsSpot b element spot
        is_spot = record {
          keeps = line_list k;
          small = k.fits.lists.line;
          here =
              ap (λ (xs : List ListElement). slice_get xs (length (map line_element saw.seen))) elements_are
              ∙ here (map line_element saw.seen) (line_element row) (map line_element others)
              ∙ ap (λ (a : ℕ). Some (record { addr = a; datum = row.waiting.item })) (sym at_cursor);
        }

        row_among : Among row rows
        row_among =
            from_line waiting_of row rows
            (subst (Among row) (sym line_is) (among_between saw.seen others row))

        -- its item, and what that names
        module _ {item : ℕ} (d : TellsOfElement element (λ s. s.datum) b item) where
          item_is : item ≡ row.waiting.item
          item_is = d.tells spot is_spot

          there : SomeItem b item
          there = some_item k row row_among item_is

          names_it : {named : ℕ} → HasWord (b item) 4 named → named ≡ row.waiting.object
          names_it h = object_is (is_item k row row_among item_is) h

      pub naming_spot : SomeQueues b q → SomeSpot b element
      naming_spot s = record { spot = spot s.keeps; is = is_spot s.keeps }

      pub naming_only : SomeQueues b q → (stop : Stop) → Misses (b element) element kinds.Element stop → OnlyFault stop
      naming_only s stop m =
          never_missed (b element) element kinds.Element (layout (spot_words (spot s.keeps)) []) (element_there (is_spot s.keeps)) stop m

      module _ {item : ℕ} (d : TellsOfElement element (λ s. s.datum) b item) where
        pub naming_item : SomeQueues b q → SomeItem b item
        naming_item s = there s.keeps d

        module _ {named : ℕ} (h : HasWord (b item) 4 named) where
          -- it names the object
          pub naming_found : named ≡ object → FindsItem q object b (Some item)
          naming_found e = record {
            finds = λ next rows rest k.
                any_among (λ r. (r.waiting.object ≡ object) × (r.waiting.item ≡ item)) (row k) rows (row_among k)
                (sym (names_it k d h) ∙ e, sym (item_is k d));
          }

          -- it doesn't, and the next one is at the cursor
          pub naming_on : {following : ℕ} → named ≢ object → TellsOfElement element (λ s. addr_from s.row (s.place + 1)) b following →
              WalksLine q object b following (i + 1)
          naming_on {following} unless t = record {
            walks = λ next rows rest k.
                let s = saw k in
                let p = s.passed in
                record {
                  seen = s.seen ++ (row k ∷ []);
                  left = others k;
                  whole = line_is k ∙ sym (append_assoc s.seen (row k ∷ []) (others k));
                  passed = let l = length-append s.seen (row k ∷ []) in omega (arith, l, p);
                  cursor =
                      t.tells (spot k) (is_spot k)
                      ∙ ap (λ (xs : List ListElement). first_of addr_of 0 (drop (length (map line_element s.seen) + 1) xs)) (elements_are k)
                      ∙ ap (λ (n : ℕ). first_of addr_of 0 (drop n (map line_element s.seen ++ (line_element (row k) ∷ map line_element (others k)))))
                      (add-one (length (map line_element s.seen)))
                      ∙ ap (first_of addr_of 0) (dropped (map line_element s.seen) (line_element (row k)) (map line_element (others k)));
                  none = each_push (λ r. r.waiting.object ≢ object) s.seen (row k) s.none (λ e. unless (names_it k d h ∙ e));
                };
          }

    -- the whole line was walked
    pub naming_none : i ≡ count → FindsItem q object b None
    naming_none done = record {
      finds = λ next rows rest k.
          let s = w.walks next rows rest k in
          let all : s.left ≡ [] =
          empty s.left
          (let c = rows_counted k in let l = ap (length {A = Row}) s.whole in let a = length-append s.seen s.left in let p = s.passed in
          omega (arith, c, l, a, p, done)) in
          All-from_recursion (λ r. r.waiting.object ≢ object) rows
          (each_among (λ r. r.waiting.object ≢ object) rows
          (λ r m. each_at (λ (x : Row). x.waiting.object ≢ object) r s.seen s.none
          (subst (Among r) (s.whole ∙ ap (λ (xs : List Row). s.seen ++ xs) all ∙ append-nil s.seen) (among_line waiting_of r rows m))));
    }
      where
        empty : (xs : List Row) → length xs ≡ 0 → xs ≡ []
        empty [] z = refl
        empty (x ∷ xs) z = absurd (omega (arith, z))
