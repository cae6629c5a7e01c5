-- An insertion at a place, step by step.
use Rattle.std.proofs.Common.{◌≡◌, ℕ, ◌+◌, List, [], ◌∷◌, ◌++◌, length, take, drop}
use Rattle.std.proofs.Common.{sym, ap, arith, subst, length-append}
use Rattle.std.proofs.lemmas.List.{take-append-drop}
use Rattle.sdr_base.specs.Blocks.{Blocks}
use Rattle.sdr_base.specs.Entries.{Adds, Entries, BlocksAre}
use Rattle.sdr_base.specs.Linked.{first_of, linked}
use Rattle.sdr_base.specs.Lists.{ListElement, ListRow, addr_of, list_entries}
use Rattle.sdr_base.specs.Making.{MakesThing}
use Rattle.sdr_base.specs.Objects.{Heap}
use Rattle.sdr_base.specs.Words.{HasWord, TakesBytes, layout, with_word}
use Rattle.sdr_base.specs.declared.kind.Kind.{Kind}
use Rattle.sdr_base.specs.declared.kind.Kind.TheVariants as kinds
use Rattle.sdr_base.proofs.LayoutLemmas.{length-layout}
use Rattle.sdr_base.proofs.MakingLemmas.{taken_makes}
use Rattle.sdr_base.proofs.WritingLemmas.{block}
use Rattle.sdr_list.specs.Gaps.{Gap, IsPlace, LinksNext, LinksPrevious, Opened}
use Rattle.sdr_list.specs.Kept.{addr_before, addr_from, with_element}
use Rattle.sdr_list.proofs.GapLemmas.{filled, filled_is, recounted, row_of, shut, shut_is, taken_between}
use Rattle.sdr_list.proofs.KeptLemmas.{length_is, words}

-- a block of four words that was taken is a thing that was made
pub four_made : {kind : Kind} {addr : ℕ} {old new : Heap} (a b c d : ℕ) → TakesBytes kind (layout (words a b c d) []) addr old new →
    MakesThing 32 addr ((addr, block kind (layout (words a b c d) [])) ∷ []) old new
four_made {kind} {addr} {old} {new} a b c d t =
    let n : length (layout (words a b c d) []) ≡ 32 = let l = length-layout (words a b c d) [] in omega (arith, l) in
    subst (λ n. MakesThing n addr ((addr, block kind (layout (words a b c d) [])) ∷ []) old new) n (taken_makes t)

-- the list as it is opened at a place
abbrev pub gap_at : ListRow → ℕ → Gap
gap_at row place = shut row.user (take place row.elements) (drop place row.elements)

-- a list is opened at a place, with nothing there
pub record AtPlace (b : Blocks) (list : ℕ) (row : ListRow) (place : ℕ) (rest : Entries) : Type 0 where
  pub opened : Opened b list (gap_at row place) rest

-- a new element stands at the place; what is linked there from either side, and the count
pub record Inserting (b : Blocks) (list prev next e datum : ℕ) (row : ListRow) (place link back count : ℕ) (rest : Entries) : Type 0 where
  pub opened : Opened b list (record (gap_at row place) {
    between = (e, block kinds.Element (layout (words list prev next datum) [])) ∷ [];
    next = link;
    previous = back;
    count = count;
  }) rest

pub at_place : {b : Blocks} {list : ℕ} (row : ListRow) (place : ℕ) (rest : Entries) → BlocksAre b (list_entries list row ++ rest) →
    AtPlace b list row place rest
at_place {b} {list} row place rest s = record {
  opened = record {
    stands =
        subst (λ (es : Entries). BlocksAre b es) (shut_is list row.user (take place row.elements) (drop place row.elements) rest)
        (subst (λ (xs : List ListElement). BlocksAre b (list_entries list (row_of row.user xs) ++ rest))
        (sym (take-append-drop place row.elements)) s);
  };
}

-- how many elements the parts at a place have
abbrev pub count_at : ListRow → ℕ → ℕ
count_at row place = length (take place row.elements ++ drop place row.elements)

-- the element is there, and linked from neither side
pub came_there : {list prev next e place : ℕ} {old new : Heap} {row : ListRow} {rest : Entries} (datum : ℕ) →
    TakesBytes kinds.Element (layout (words list prev next datum) []) e old new → AtPlace old.blocks list row place rest →
    Inserting new.blocks list prev next e datum row place (addr_from row place) (addr_before row place) (count_at row place) rest
came_there {list} {prev} {next} {place = place} {row = row} datum t s =
    record { opened = taken_between (words list prev next datum) (gap_at row place) t s.opened }

-- it is linked from the one before
pub linked_there : {list prev next e datum place link back count : ℕ} {b b' : Blocks} {row : ListRow} {rest : Entries} → prev ≡ addr_before row place →
    LinksNext b b' list prev e → Inserting b list prev next e datum row place link back count rest →
    Inserting b' list prev next e datum row place e back count rest
linked_there p l s = record { opened = l.links _ _ p s.opened }

-- and from the one behind
pub linked_back : {list prev next e datum place link back count : ℕ} {b b' : Blocks} {row : ListRow} {rest : Entries} → next ≡ addr_from row place →
    LinksPrevious b b' list next e → Inserting b list prev next e datum row place link back count rest →
    Inserting b' list prev next e datum row place link e count rest
linked_back p l s = record { opened = l.links _ _ p s.opened }

-- the count was set
pub counted : {list prev next e datum place link back count : ℕ} {row : ListRow} {rest : Entries} (old new : Heap) (n : ℕ) → new ≡ with_word old list 1 n →
    Inserting old.blocks list prev next e datum row place link back count rest →
    Inserting new.blocks list prev next e datum row place link back n rest
counted old new n w s = record { opened = recounted old new n w s.opened }

-- with the count raised it is one of the list
closed : {b : Blocks} {list prev next e datum place n : ℕ} {row : ListRow} {rest : Entries} → n ≡ length row.elements →
    prev ≡ addr_before row place → next ≡ addr_from row place →
    Inserting b list prev next e datum row place e e (n + 1) rest →
    BlocksAre b (list_entries list (with_element row place e datum) ++ rest)
closed {b} {list} {prev} {next} {e} {datum} {place} {n} {row} {rest} are p q s =
    let xs = take place row.elements in
    let ys = drop place row.elements in
    let x : ListElement = record { addr = e; datum = datum } in
    let whole = ap (length {A = ListElement}) (take-append-drop place row.elements) in
    let one = length-append xs ys in
    let more = length-append xs (x ∷ ys) in
    let more_is : n + 1 ≡ length (xs ++ (x ∷ ys)) = omega (arith, are, whole, one, more) in
    let placed : Opened b list (record (filled list row.user xs x ys) { count = n + 1 }) rest =
    subst (λ k. Opened b list (record (filled list row.user xs x ys) {
      between = (e, block kinds.Element (layout (words list k (first_of addr_of 0 ys) datum) [])) ∷ [];
      count = n + 1;
    }) rest) p
    (subst (λ k. Opened b list (record (filled list row.user xs x ys) {
      between = (e, block kinds.Element (layout (words list prev k datum) [])) ∷ [];
      count = n + 1;
    }) rest) q s.opened) in
    subst (λ (es : Entries). BlocksAre b es) (sym (filled_is list row.user xs x ys rest))
    (subst (λ k. Opened b list (record (filled list row.user xs x ys) { count = k }) rest) more_is placed).stands

-- the whole insertion
pub inserted : {list prev next e : ℕ} {old one three four : Heap} {two : Blocks} (datum n : ℕ) → HasWord (old.blocks list) 1 n →
    TakesBytes kinds.Element (layout (words list prev next datum) []) e old one → LinksNext one.blocks two list prev e →
    LinksPrevious two three.blocks list next e → four ≡ with_word three list 1 (n + 1) →
    (row : ListRow) (place : ℕ) → IsPlace old.blocks list prev next row place →
    Adds old.blocks four.blocks e (list_entries list row) (list_entries list (with_element row place e datum))
inserted {list} {prev} {next} {e} {old} {one} {three} {four} {two} datum n h t l m w row place p = record {
  nonzero = t.nonzero;
  small = t.small;
  fresh = t.fresh;
  changes = record {
    kept = λ rest s.
        closed (length_is h p.keeps) p.at_prev p.at_next
        (counted three four (n + 1) w
        (linked_back p.at_next m (linked_there p.at_prev l (came_there datum t (at_place row place rest s)))));
  };
}

-- a list without elements was made
pub empty_made : {list : ℕ} {old new : Heap} (user : ℕ) → TakesBytes kinds.List (layout (words user 0 0 0) []) list old new →
    MakesThing 32 list (list_entries list (record { user = user; elements = [] })) old new
unfolding linked
empty_made user t = four_made user 0 0 0 t
