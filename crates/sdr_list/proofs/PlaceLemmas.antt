-- The places at which the calls insert.
use Rattle.std.proofs.Common.{◌≡◌, ◌≢◌, ℕ, zero, suc, ◌+◌, ◌<◌, ◌^◌, List, [], ◌∷◌, ◌++◌, length, take, drop, Option, Some, None}
use Rattle.std.proofs.Common.{refl, sym, ap, ◌∙◌, arith, subst}
use Rattle.std.specs.Prelude.{slice_get}
use Rattle.std.specs.declared.cmp.Ordering.{Ordering}
use Rattle.std.proofs.lemmas.List.{length-take, take-append-drop, take_all}
use Rattle.std.proofs.lemmas.List.Elements.{All-drop}
use Rattle.sdr_base.specs.Blocks.{Block, Blocks, IsKind, Reaches}
use Rattle.sdr_base.specs.Linked.{first_of, last_of}
use Rattle.sdr_base.specs.Entries.{Adds, Entries, BlocksAre}
use Rattle.sdr_base.specs.Lists.{ElementFits, ListElement, ListRow, KeepsList, addr_of, element_block, elements_between, list_block, list_entries}
use Rattle.sdr_base.specs.Making.{Made}
use Rattle.sdr_base.specs.Objects.{Heap}
use Rattle.sdr_base.specs.Words.{HasWord, layout}
use Rattle.sdr_base.specs.declared.kind.Kind.TheVariants as kinds
use Rattle.sdr_base.specs.declared.moves.Move.TheVariants.{Took}
use Rattle.sdr_base.proofs.LinkedLemmas.{last_nonzero}
use Rattle.sdr_base.proofs.WritingLemmas.{block, word_is}
use Rattle.sdr_list.specs.Calls.{InsertsBeside, InsertsInList}
use Rattle.sdr_list.specs.Gaps.{FollowsIn, InsertsBetween, IsPlace, SomePlaceBehind}
use Rattle.sdr_list.specs.Kept.{IsSpot, SomeList, Spot, with_element}
use Rattle.sdr_list.specs.Orders.{FindsPlace, IsKey, ReadsKey, key_place}
use Rattle.sdr_base.proofs.ChainLemmas.{last_holds}
use Rattle.sdr_list.proofs.GapLemmas.{before_reaches}
use Rattle.sdr_list.proofs.InsertLemmas.{at_place, gap_at}
use Rattle.sdr_list.proofs.KeptLemmas.{first_fits, first_is, last_is, next_is, owner_is, previous_is, split_at, words}

drop_all : (xs : List ListElement) → drop (length xs) xs ≡ []
drop_all [] = refl
drop_all (x ∷ xs) = drop_all xs

-- the front of a list
pub front_place : {b : Blocks} {list first : ℕ} {row : ListRow} → HasWord (b list) 2 first → KeepsList b list row →
    IsPlace b list 0 first row 0
front_place h k = record { keeps = k; at_prev = refl; at_next = first_is h k }

-- the end of a list
pub end_place : {b : Blocks} {list last : ℕ} {row : ListRow} → HasWord (b list) 3 last → KeepsList b list row →
    IsPlace b list last 0 row (length row.elements)
end_place {row = row} h k = record {
  keeps = k;
  at_prev = last_is h k ∙ ap (last_of addr_of 0) (sym (take_all (length row.elements) row.elements (omega arith)));
  at_next = ap (first_of addr_of 0) (sym (drop_all row.elements));
}

-- the place before an element
pub before_place : {b : Blocks} {element list prev : ℕ} {spot : Spot} → HasWord (b element) 0 list → HasWord (b element) 1 prev →
    IsSpot b element spot → IsPlace b list prev element spot.row spot.place
before_place {b} {element} {list} {prev} {spot} h p s = record {
  keeps = subst (λ l. KeepsList b l spot.row) (sym (owner_is h s)) s.keeps;
  at_prev = previous_is p s;
  at_next = ap (first_of addr_of 0) (sym (split_at spot.row.elements spot.place (record { addr = element; datum = spot.datum }) s.here));
}

-- the last of the elements up to a place
last_upto : (prev : ℕ) (xs : List ListElement) (place : ℕ) (x : ListElement) → slice_get xs place ≡ Some x →
    last_of addr_of prev (take (suc place) xs) ≡ x.addr
last_upto prev [] place x e = let d : None ≡ Some x = e in cc
last_upto prev (y ∷ ys) zero x e = let s : Some y ≡ Some x = e in let t : y ≡ x = cc in ap (λ (z : ListElement). z.addr) t
last_upto prev (y ∷ ys) (suc place) x e = last_upto y.addr ys place x e

-- the place behind an element
pub behind_place : {b : Blocks} {element list next : ℕ} {spot : Spot} → HasWord (b element) 0 list → HasWord (b element) 2 next →
    IsSpot b element spot → IsPlace b list element next spot.row (spot.place + 1)
behind_place {b} {element} {list} {next} {spot} h n s =
    let one : suc spot.place ≡ spot.place + 1 = omega arith in
    record {
      keeps = subst (λ l. KeepsList b l spot.row) (sym (owner_is h s)) s.keeps;
      at_prev =
          sym (last_upto 0 spot.row.elements spot.place (record { addr = element; datum = spot.datum }) s.here)
          ∙ ap (λ p. last_of addr_of 0 (take p spot.row.elements)) one;
      at_next = next_is n s;
    }

-- an insertion into a list that is named
pub inserts_in : {list prev next addr datum : ℕ} (old new : Heap) (place : ListRow → ℕ) → IsKind (old.blocks list) kinds.List →
    ((row : ListRow) → KeepsList old.blocks list row → IsPlace old.blocks list prev next row (place row)) →
    InsertsBetween old.blocks new.blocks list prev next addr datum → Made (Took 32 addr ∷ []) old new →
    InsertsInList list place datum addr old new
inserts_in old new place kind at i m = record {
  kind = kind;
  adds = λ row k. i.adds row (place row) (at row k);
  made = m;
}

-- an insertion beside an element that is named
pub inserts_beside : {element list prev next addr datum : ℕ} (old new : Heap) (shift : ℕ → ℕ) → IsKind (old.blocks element) kinds.Element →
    HasWord (old.blocks element) 0 list →
    ((spot : Spot) → IsSpot old.blocks element spot → IsPlace old.blocks list prev next spot.row (shift spot.place)) →
    InsertsBetween old.blocks new.blocks list prev next addr datum → Made (Took 32 addr ∷ []) old new →
    InsertsBeside element shift datum addr old new
inserts_beside {element} {list} {addr = addr} {datum = datum} old new shift kind owner at i m = record {
  kind = kind;
  adds = λ spot s.
      subst (λ l. Adds old.blocks new.blocks addr (list_entries l spot.row)
      (list_entries l (with_element spot.row (shift spot.place) addr datum)))
      (owner_is owner s) (i.adds spot.row (shift spot.place) (at spot s));
  made = m;
}

none_before : (b : Blocks) (list first last user count next : ℕ) (xs : List ListElement) (more : Entries) → last_of addr_of 0 xs ≡ 0 →
    BlocksAre b ((list, list_block user count first last) ∷ (elements_between list 0 next xs ++ more)) → xs ≡ []
none_before b list first last user count next [] more e s = refl
none_before b list first last user count next (x ∷ xs) more e s =
    absurd (last_nonzero addr_of (element_block list) b ((list, list_block user count first last) ∷ []) more 0 next x xs s e)

-- behind the front stands the first one
pub first_follows : {b : Blocks} {list prev next : ℕ} → HasWord (b list) 2 next → prev ≡ 0 → FollowsIn b list prev next
first_follows {b} {list} h z = record {
  follows = λ row place k e.
      let xs = take place row.elements in
      let ys = drop place row.elements in
      let gap = gap_at row place in
      let none = none_before b list (first_of addr_of gap.next xs) (last_of addr_of gap.previous ys) row.user gap.count gap.next xs
      (elements_between list gap.previous 0 ys ++ k.rest) (sym e ∙ z) (at_place row place k.rest k.stands).opened.stands in
      first_is h k ∙ ap (first_of addr_of 0) (sym (take-append-drop place row.elements) ∙ ap (λ (t : List ListElement). t ++ ys) none);
}

after_last : (b : Blocks) (list prev next first last user count following : ℕ) (xs : List ListElement) (more : Entries) → prev ≡ last_of addr_of 0 xs → prev ≢ 0 →
    following < 2 ^ 64 → BlocksAre b ((list, list_block user count first last) ∷ (elements_between list 0 following xs ++ more)) →
    HasWord (b prev) 2 next → next ≡ following
after_last b list prev next first last user count following [] more e nz fits s h = absurd (nz e)
after_last b list prev next first last user count following (x ∷ xs) more e nz fits s h =
    last_holds addr_of (element_block list) (λ o. HasWord o 2 next → next ≡ following) b ((list, list_block user count first last) ∷ []) more 0 following x xs
    (λ p y w. word_is (Some (block kinds.Element (layout (words list p following y.datum) []))) kinds.Element (words list p following y.datum) [] 2 next refl (omega arith) fits w)
    s (subst (λ p. HasWord (b p) 2 next) e h)

-- behind an element stands the one that it names
pub next_follows : {b : Blocks} {list prev next : ℕ} → HasWord (b prev) 2 next → prev ≢ 0 → FollowsIn b list prev next
next_follows {b} {list} {prev} {next} h nz = record {
  follows = λ row place k e.
      let xs = take place row.elements in
      let ys = drop place row.elements in
      let gap = gap_at row place in
      after_last b list prev next (first_of addr_of gap.next xs) (last_of addr_of gap.previous ys) row.user gap.count gap.next xs
      (elements_between list gap.previous 0 ys ++ k.rest) e nz
      (first_fits 0 ys (omega arith) (All-drop ElementFits place row.elements k.fits.elements))
      (at_place row place k.rest k.stands).opened.stands h;
}

-- the block of the element before a place is there
pub place_reaches : {b : Blocks} {list prev : ℕ} → SomePlaceBehind b list prev → prev ≢ 0 → Reaches (b prev) 32
place_reaches p = before_reaches (at_place p.row p.place p.keeps.rest p.keeps.stands).opened p.at_prev

-- a key's place in a list that is kept
pub ordered_behind : {order : List ℕ → List ℕ → Ordering} {b : Blocks} {list prev : ℕ} {key : List ℕ} → FindsPlace order b list key prev → SomeList b list →
    SomePlaceBehind b list prev
ordered_behind {order} {b} {key = key} f k =
    record { row = k.row; place = key_place order b key k.row; keeps = k.keeps; at_prev = f.place k.row k.keeps }

-- it is between the element that was found and the one that follows
pub ordered_at : {order : List ℕ → List ℕ → Ordering} {b : Blocks} {list prev next : ℕ} {key : List ℕ} {row : ListRow} → FindsPlace order b list key prev →
    FollowsIn b list prev next → KeepsList b list row → IsPlace b list prev next row (key_place order b key row)
ordered_at {order} {b} {key = key} {row = row} f n k =
    let p = f.place row k in
    record { keeps = k; at_prev = p; at_next = n.follows row (key_place order b key row) k p }

-- a key that was read is one
pub key_short : {found : Option Block} {count : ℕ} {into : List ℕ} → ReadsKey found count into → IsKey (take count into)
key_short {count = count} {into = into} r = let l = length-take count into in let s = r.short in omega (arith, l, s)
