-- An element is taken out of its list, or is given another datum.
use Rattle.std.proofs.Common.{◌≡◌, ℕ, suc, ◌+◌, ◌-◌, ◌≤◌, ◌<◌, List, [], ◌∷◌, ◌++◌, length, take, drop}
use Rattle.std.proofs.Common.{sym, ap, ◌∙◌, arith, subst, length-append}
use Rattle.std.proofs.lemmas.List.{set_split}
use Rattle.sdr_base.specs.Blocks.{Block, Blocks, IsKind, Reaches}
use Rattle.sdr_base.specs.Entries.{Entries, BlocksAre}
use Rattle.sdr_base.specs.Linked.{first_of, last_of}
use Rattle.sdr_base.specs.Lists.{ListElement, KeepsList, addr_of, elements_between, list_block, list_entries}
use Rattle.sdr_base.specs.Making.{Made, besides}
use Rattle.sdr_base.specs.Objects.{Heap, with_given}
use Rattle.sdr_base.specs.Words.{HasWord, with_word}
use Rattle.sdr_base.specs.declared.kind.Kind.TheVariants as kinds
use Rattle.sdr_base.specs.declared.moves.Move.TheVariants.{Gave}
use Rattle.sdr_base.proofs.HeapLemmas.{heap_blocks}
use Rattle.sdr_base.proofs.WritingLemmas.{word_set}
use Rattle.sdr_list.specs.Calls.{DeletesElement, SetsInElement}
use Rattle.sdr_list.specs.Gaps.{Gap, IsBetween, LinksNext, LinksPrevious, Opened, Unlinks}
use Rattle.sdr_list.specs.Kept.{IsSpot, Spot, addr_before, addr_from, with_datum, without_element}
use Rattle.sdr_list.proofs.GapLemmas.{between_reaches, filled, filled_is, given_between, recounted, row_of, shut, shut_is}
use Rattle.sdr_list.proofs.KeptLemmas.{length_is, next_is, owner_is, parted, place_within, previous_is, words}

-- the list of a spot as it is opened around its element
abbrev pub gap_around : Spot → ℕ → Gap
gap_around spot element =
    filled spot.list spot.row.user (take spot.place spot.row.elements) (record { addr = element; datum = spot.datum })
    (drop (suc spot.place) spot.row.elements)

-- the element stands at its place; what is linked there from either side, and the count
pub record Deleting (b : Blocks) (element : ℕ) (spot : Spot) (link back count : ℕ) (rest : Entries) : Type 0 where
  pub opened : Opened b spot.list (record (gap_around spot element) { next = link; previous = back; count = count }) rest

-- how many elements the parts around the element have, with it
abbrev pub count_around : Spot → ℕ → ℕ
count_around spot element =
    length (take spot.place spot.row.elements ++ (record { addr = element; datum = spot.datum } ∷ drop (suc spot.place) spot.row.elements))

-- the list is opened around its element
pub around : {b : Blocks} {element : ℕ} {spot : Spot} (rest : Entries) → IsSpot b element spot →
    {b' : Blocks} → BlocksAre b' (list_entries spot.list spot.row ++ rest) →
    Deleting b' element spot element element (count_around spot element) rest
around {b} {element} {spot} rest is {b'} s = record {
  opened = record {
    stands =
        subst (λ (es : Entries). BlocksAre b' es)
        (filled_is spot.list spot.row.user (take spot.place spot.row.elements) (record { addr = element; datum = spot.datum })
        (drop (suc spot.place) spot.row.elements) rest)
        (subst (λ (xs : List ListElement). BlocksAre b' (list_entries spot.list (row_of spot.row.user xs) ++ rest)) (parted is) s);
  };
}

-- the one before is linked past it
pub linked_past : {list prev next element back count : ℕ} {b b' : Blocks} {spot : Spot} {rest : Entries} → list ≡ spot.list →
    prev ≡ addr_before spot.row spot.place → LinksNext b b' list prev next →
    Deleting b element spot element back count rest → Deleting b' element spot next back count rest
linked_past {prev = prev} {next = next} {b = b} {b' = b'} {spot = spot} e p l s =
    let here : LinksNext b b' spot.list prev next = subst (λ k. LinksNext b b' k prev next) e l in
    record { opened = here.links _ _ p s.opened }

-- and the one behind
pub linked_past_back : {list prev next element link count : ℕ} {b b' : Blocks} {spot : Spot} {rest : Entries} → list ≡ spot.list →
    next ≡ addr_from spot.row (spot.place + 1) → LinksPrevious b b' list next prev →
    Deleting b element spot link element count rest → Deleting b' element spot link prev count rest
linked_past_back {prev = prev} {next = next} {b = b} {b' = b'} {spot = spot} e n l s =
    let here : LinksPrevious b b' spot.list next prev = subst (λ k. LinksPrevious b b' k next prev) e l in
    let one : spot.place + 1 ≡ suc spot.place = omega arith in
    record { opened = here.links _ _ (n ∙ ap (λ p. addr_from spot.row p) one) s.opened }

-- the one behind is the first of the part behind
pub next_at : {b : Blocks} {list prev next element : ℕ} {spot : Spot} → IsBetween b list prev next element spot →
    next ≡ first_of addr_of 0 (drop (suc spot.place) spot.row.elements)
next_at {spot = spot} p = let one : spot.place + 1 ≡ suc spot.place = omega arith in p.at_next ∙ ap (λ k. addr_from spot.row k) one

-- the count was set
pub counted_down : {list element link back count : ℕ} {spot : Spot} {rest : Entries} (old new : Heap) (n : ℕ) → list ≡ spot.list →
    new ≡ with_word old list 1 n → Deleting old.blocks element spot link back count rest →
    Deleting new.blocks element spot link back n rest
counted_down old new n e w s = record { opened = recounted old new n (subst (λ k. new ≡ with_word old k 1 n) e w) s.opened }

-- the element is there until it is given back
pub element_used : {b : Blocks} {element link back count : ℕ} {spot : Spot} {rest : Entries} →
    Deleting b element spot link back count rest → Reaches (b element) 0
element_used {element = element} {link = link} {back = back} {count = count} {spot = spot} s =
    between_reaches (record (gap_around spot element) { next = link; previous = back; count = count }) s.opened

-- with the count lowered, and the element given back, the list is without it
closed_up : {element prev next n : ℕ} {spot : Spot} {rest : Entries} (old new : Heap) → {b : Blocks} → IsSpot b element spot →
    n ≡ length spot.row.elements →
    prev ≡ addr_before spot.row spot.place → next ≡ addr_from spot.row (spot.place + 1) → new ≡ with_given old element →
    Deleting old.blocks element spot next prev (n - 1) rest →
    BlocksAre new.blocks (list_entries spot.list (without_element spot.row spot.place) ++ rest)
closed_up {element} {prev} {next} {n} {spot} {rest} old new {b} is are p q g s =
    let xs = take spot.place spot.row.elements in
    let ys = drop (suc spot.place) spot.row.elements in
    let x : ListElement = record { addr = element; datum = spot.datum } in
    let one : spot.place + 1 ≡ suc spot.place = omega arith in
    let next_is : next ≡ first_of addr_of 0 ys = q ∙ ap (λ k. addr_from spot.row k) one in
    let whole = ap (length {A = ListElement}) (parted is) in
    let l = length-append xs ys in
    let m = length-append xs (x ∷ ys) in
    let less : n - 1 ≡ length (xs ++ ys) = omega (arith, are, whole, l, m) in
    let gone = given_between old new (record (gap_around spot element) { next = next; previous = prev; count = n - 1 }) g s.opened in
    subst (λ (es : Entries). BlocksAre new.blocks es) (sym (shut_is spot.list spot.row.user xs ys rest))
    (subst (λ k. Opened new.blocks spot.list (record (shut spot.row.user xs ys) { next = k }) rest) next_is
    (subst (λ k. Opened new.blocks spot.list (record (shut spot.row.user xs ys) { next = next; previous = k }) rest) p
    (subst (λ k. Opened new.blocks spot.list (record (shut spot.row.user xs ys) { next = next; previous = prev; count = k }) rest) less
    gone))).stands

-- the count of a list that has an element is not 0
pub counts_one : {b : Blocks} {list prev next element n : ℕ} {spot : Spot} → HasWord (b list) 1 n → IsBetween b list prev next element spot →
    1 ≤ n
counts_one {b} {list} {prev} {next} {element} {n} {spot} h p =
    let are = length_is h (subst (λ l. KeepsList b l spot.row) (sym p.in_list) p.is.keeps) in
    let whole = ap (length {A = ListElement}) (parted p.is) in
    let m = length-append (take spot.place spot.row.elements)
    (record { addr = element; datum = spot.datum } ∷ drop (suc spot.place) spot.row.elements) in
    omega (arith, are, whole, m)

-- the whole deletion
pub unlinked : {list prev next element : ℕ} {one : Blocks} (old two three four : Heap) (n : ℕ) → HasWord (old.blocks list) 1 n →
    LinksNext old.blocks one list prev next → LinksPrevious one two.blocks list next prev →
    three ≡ with_word two list 1 (n - 1) → four ≡ with_given three element →
    Unlinks old.blocks four.blocks list prev next element
unlinked {list} old two three four n h l m w g = record {
  changes = λ spot p. record {
    kept = λ rest s.
        closed_up three four p.is (length_is h (subst (λ l. KeepsList old.blocks l spot.row) (sym p.in_list) p.is.keeps))
        p.at_prev p.at_next g
        (counted_down two three (n - 1) p.in_list w
        (linked_past_back p.in_list p.at_next m
        (linked_past p.in_list p.at_prev l (around rest p.is s))));
  };
}

-- a deletion by the element's address
pub deletes : {list prev next element : ℕ} (old new : Heap) → IsKind (old.blocks element) kinds.Element →
    HasWord (old.blocks element) 0 list → HasWord (old.blocks element) 1 prev → HasWord (old.blocks element) 2 next →
    Unlinks old.blocks new.blocks list prev next element → Made (Gave element ∷ []) old new → DeletesElement element old new
deletes old new kind h p n u m = record {
  kind = kind;
  changes = λ spot s. u.changes spot (record { is = s; in_list = owner_is h s; at_prev = previous_is p s; at_next = next_is n s });
  made = m;
}

-- the datum was set
pub datum_set : {element : ℕ} (old new : Heap) (datum : ℕ) → IsKind (old.blocks element) kinds.Element →
    new ≡ with_word old element 3 datum →
    SetsInElement element (λ spot. with_datum spot.row spot.place element datum) old new
datum_set {element} old new datum kind w = record {
  kind = kind;
  changes = λ spot is. record {
    kept = λ rest s.
        let xs = take spot.place spot.row.elements in
        let ys = drop (suc spot.place) spot.row.elements in
        let x : ListElement = record { addr = element; datum = spot.datum } in
        let y : ListElement = record { addr = element; datum = datum } in
        let l = length-append xs (x ∷ ys) in
        let m = length-append xs (y ∷ ys) in
        let same : length (xs ++ (x ∷ ys)) ≡ length (xs ++ (y ∷ ys)) = omega (arith, l, m) in
        let within : spot.place < length spot.row.elements = place_within spot.row.elements spot.place x is.here in
        let H : ℕ × Block = (spot.list, list_block spot.row.user (length (xs ++ (x ∷ ys))) (first_of addr_of element xs) (last_of addr_of element ys)) in
        let put : Opened new.blocks spot.list (record (filled spot.list spot.row.user xs y ys) { count = length (xs ++ (x ∷ ys)) }) rest =
        record {
          stands =
              word_set old.blocks new.blocks element kinds.Element
              (words spot.list (last_of addr_of 0 xs) (first_of addr_of 0 ys) spot.datum) [] 3 datum
              (H ∷ elements_between spot.list 0 element xs) (elements_between spot.list element 0 ys ++ rest)
              (heap_blocks w) (omega arith) (around rest is s).opened.stands;
        } in
        subst (λ (zs : List ListElement). BlocksAre new.blocks
        (list_entries spot.list (row_of spot.row.user zs) ++ rest))
        (sym (set_split spot.row.elements spot.place y within))
        (subst (λ (es : Entries). BlocksAre new.blocks es) (sym (filled_is spot.list spot.row.user xs y ys rest))
        (subst (λ k. Opened new.blocks spot.list (record (filled spot.list spot.row.user xs y ys) { count = k }) rest) same put).stands);
  };
  same = ap besides w;
}
