-- What the blocks of a kept list and of its elements say.
use Rattle.std.proofs.Common.{◌≡◌, ℕ, zero, suc, ◌+◌, ◌<◌, ◌^◌, List, [], ◌∷◌, ◌++◌, length, take, drop, Some, None}
use Rattle.std.proofs.Common.{sym, ap, ◌∙◌, arith, subst}
use Rattle.std.specs.Prelude.{All, slice_get, Result, Ok, Err, IfOk, OnOk}
use Rattle.std.proofs.lemmas.List.{take-append-drop}
use Rattle.std.proofs.lemmas.List.Elements.{All-head, All-tail, All-take, All-drop}
use Rattle.sdr_base.specs.Blocks.{Blocks, Reaches, IsKind}
use Rattle.sdr_base.specs.Entries.{BlocksAre}
use Rattle.sdr_base.specs.Linked.{first_of, last_of}
use Rattle.sdr_base.specs.Lists.{ElementFits, ListElement, ListRow, KeepsList, addr_of, element_block, elements_between}
use Rattle.sdr_base.specs.Making.{besides}
use Rattle.sdr_base.specs.Objects.{Heap}
use Rattle.sdr_base.specs.Words.{HasWord, layout, with_word}
use Rattle.sdr_base.specs.declared.kind.Kind.TheVariants as kinds
use Rattle.sdr_base.specs.declared.stop.Stop.{Stop}
use Rattle.sdr_base.proofs.LayoutLemmas.{number_at-layout}
use Rattle.sdr_base.proofs.StandingLemmas.{found}
use Rattle.sdr_base.proofs.HeapLemmas.{heap_blocks}
use Rattle.sdr_base.proofs.WritingLemmas.{block, reaches, word_is, word_set}
use Rattle.sdr_list.specs.Calls.{SetsInList, TellsOfElement, TellsOfList}
use Rattle.sdr_list.specs.Kept.{IsSpot, Spot, addr_before, addr_from, elements_in}
use Rattle.sdr_base.proofs.ChainLemmas.{linked_found}

-- the words of a list's block, or of an element's
abbrev pub words : ℕ → ℕ → ℕ → ℕ → List ℕ
words a b c d = a ∷ b ∷ c ∷ d ∷ []

-- the words of a list's block
abbrev pub list_words : ListRow → List ℕ
list_words row = words row.user (length row.elements) (first_of addr_of 0 row.elements) (last_of addr_of 0 row.elements)

-- the words of an element's block
abbrev pub spot_words : Spot → List ℕ
spot_words spot = words spot.list (addr_before spot.row spot.place) (addr_from spot.row (spot.place + 1)) spot.datum

pub list_there : {b : Blocks} {list : ℕ} {row : ListRow} → KeepsList b list row →
    b list ≡ Some (block kinds.List (layout (list_words row) []))
list_there {b} {list} {row} k =
    found b list (block kinds.List (layout (list_words row) [])) [] (elements_between list 0 0 row.elements ++ k.rest) k.stands

-- the number of elements in a list's block is that of any list that is kept there
pub elements_are : {b : Blocks} {list : ℕ} {row : ListRow} → KeepsList b list row → elements_in (b list) ≡ length row.elements
elements_are {b} {list} {row} k =
    let few = k.few in
    ap elements_in (list_there k)
    ∙ number_at-layout (list_words row) [] 1 (omega arith) (omega (arith, few))

pub list_reaches : {b : Blocks} {list : ℕ} {row : ListRow} → KeepsList b list row → Reaches (b list) 32
list_reaches {b} {list} {row} k =
    reaches (b list) kinds.List (list_words row) [] 32 (list_there k) (omega arith)

-- at a place stands what is found there
pub split_at : {X : Type 0} (xs : List X) (place : ℕ) (x : X) → slice_get xs place ≡ Some x →
    drop place xs ≡ x ∷ drop (suc place) xs
split_at [] place x e = let d : None ≡ Some x = e in cc
split_at (y ∷ ys) zero x e = ap (λ z. z ∷ ys) (let s : Some y ≡ Some x = e in cc)
split_at (y ∷ ys) (suc place) x e = split_at ys place x e

-- it is one of the places
pub place_within : {X : Type 0} (xs : List X) (place : ℕ) (x : X) → slice_get xs place ≡ Some x → place < length xs
place_within [] place x e = let d : None ≡ Some x = e in cc
place_within (y ∷ ys) zero x e = omega arith
place_within (y ∷ ys) (suc place) x e = let ih = place_within ys place x e in omega (arith, ih)

-- the elements before the place of one, it, and those behind
pub parted : {b : Blocks} {element : ℕ} {spot : Spot} → IsSpot b element spot →
    spot.row.elements
    ≡ take spot.place spot.row.elements
    ++ (record { addr = element; datum = spot.datum } ∷ drop (suc spot.place) spot.row.elements)
parted {b} {element} {spot} s =
    sym (take-append-drop spot.place spot.row.elements)
    ∙ ap (λ (ys : List ListElement). take spot.place spot.row.elements ++ ys)
    (split_at spot.row.elements spot.place (record { addr = element; datum = spot.datum }) s.here)

there_by : {b : Blocks} {element : ℕ} {spot : Spot} → IsSpot b element spot →
    b element ≡ Some (block kinds.Element (layout (words spot.list (addr_before spot.row spot.place) (addr_from spot.row (suc spot.place)) spot.datum) []))
there_by {b} {element} {spot} s =
    linked_found addr_of (element_block spot.list) b
    ((spot.list, block kinds.List (layout (list_words spot.row) [])) ∷ []) s.keeps.rest 0 0
    (take spot.place spot.row.elements) (record { addr = element; datum = spot.datum })
    (drop (suc spot.place) spot.row.elements)
    (subst (λ (xs : List ListElement). BlocksAre b
    ((spot.list, block kinds.List (layout (list_words spot.row) [])) ∷ (elements_between spot.list 0 0 xs ++ s.keeps.rest)))
    (parted s) s.keeps.stands)

pub element_there : {b : Blocks} {element : ℕ} {spot : Spot} → IsSpot b element spot →
    b element ≡ Some (block kinds.Element (layout (spot_words spot) []))
element_there {b} {element} {spot} s =
    let one : suc spot.place ≡ spot.place + 1 = omega arith in
    there_by s
    ∙ ap (λ p. Some (block kinds.Element (layout (words spot.list (addr_before spot.row spot.place) (addr_from spot.row p) spot.datum) []))) one

pub element_reaches : {b : Blocks} {element : ℕ} {spot : Spot} → IsSpot b element spot → Reaches (b element) 32
element_reaches {b} {element} {spot} s =
    reaches (b element) kinds.Element (spot_words spot) [] 32 (element_there s) (omega arith)

pub first_fits : (next : ℕ) (xs : List ListElement) → next < 2 ^ 64 → All ElementFits xs → first_of addr_of next xs < 2 ^ 64
first_fits next [] n f = n
first_fits next (x ∷ xs) n f = (All-head ElementFits x xs f).addr

pub last_fits : (prev : ℕ) (xs : List ListElement) → prev < 2 ^ 64 → All ElementFits xs → last_of addr_of prev xs < 2 ^ 64
last_fits prev [] p f = p
last_fits prev (x ∷ xs) p f =
    last_fits x.addr xs (All-head ElementFits x xs f).addr (All-tail ElementFits x xs f)

-- the number in a word of a list's block
pub user_is : {b : Blocks} {list value : ℕ} {row : ListRow} → HasWord (b list) 0 value → KeepsList b list row → value ≡ row.user
user_is {b} {list} {value} {row} h k =
    word_is (b list) kinds.List (list_words row) [] 0 value (list_there k) (omega arith) k.fits.user h

pub length_is : {b : Blocks} {list value : ℕ} {row : ListRow} → HasWord (b list) 1 value → KeepsList b list row →
    value ≡ length row.elements
length_is {b} {list} {value} {row} h k =
    let few = k.few in
    word_is (b list) kinds.List (list_words row) [] 1 value (list_there k) (omega arith) (omega (arith, few)) h

pub first_is : {b : Blocks} {list value : ℕ} {row : ListRow} → HasWord (b list) 2 value → KeepsList b list row →
    value ≡ first_of addr_of 0 row.elements
first_is {b} {list} {value} {row} h k =
    word_is (b list) kinds.List (list_words row) [] 2 value (list_there k) (omega arith)
    (first_fits 0 row.elements (omega arith) k.fits.elements) h

pub last_is : {b : Blocks} {list value : ℕ} {row : ListRow} → HasWord (b list) 3 value → KeepsList b list row →
    value ≡ last_of addr_of 0 row.elements
last_is {b} {list} {value} {row} h k =
    word_is (b list) kinds.List (list_words row) [] 3 value (list_there k) (omega arith)
    (last_fits 0 row.elements (omega arith) k.fits.elements) h

-- the number in a word of an element's block
pub owner_is : {b : Blocks} {element value : ℕ} {spot : Spot} → HasWord (b element) 0 value → IsSpot b element spot →
    value ≡ spot.list
owner_is {b} {element} {value} {spot} h s =
    word_is (b element) kinds.Element (spot_words spot) [] 0 value (element_there s) (omega arith) s.small h

pub previous_is : {b : Blocks} {element value : ℕ} {spot : Spot} → HasWord (b element) 1 value → IsSpot b element spot →
    value ≡ addr_before spot.row spot.place
previous_is {b} {element} {value} {spot} h s =
    word_is (b element) kinds.Element (spot_words spot) [] 1 value (element_there s) (omega arith)
    (last_fits 0 (take spot.place spot.row.elements) (omega arith)
    (All-take ElementFits spot.place spot.row.elements s.keeps.fits.elements)) h

pub next_is : {b : Blocks} {element value : ℕ} {spot : Spot} → HasWord (b element) 2 value → IsSpot b element spot →
    value ≡ addr_from spot.row (spot.place + 1)
next_is {b} {element} {value} {spot} h s =
    word_is (b element) kinds.Element (spot_words spot) [] 2 value (element_there s) (omega arith)
    (first_fits 0 (drop (spot.place + 1) spot.row.elements) (omega arith)
    (All-drop ElementFits (spot.place + 1) spot.row.elements s.keeps.fits.elements)) h

-- the element that is found at a place fits
here_fits : (xs : List ListElement) (place : ℕ) (x : ListElement) → slice_get xs place ≡ Some x → All ElementFits xs → ElementFits x
here_fits xs place x e f =
    All-head ElementFits x (drop (suc place) xs)
    (subst (All ElementFits) (split_at xs place x e) (All-drop ElementFits place xs f))

pub datum_is : {b : Blocks} {element value : ℕ} {spot : Spot} → HasWord (b element) 3 value → IsSpot b element spot →
    value ≡ spot.datum
datum_is {b} {element} {value} {spot} h s =
    word_is (b element) kinds.Element (spot_words spot) [] 3 value (element_there s) (omega arith)
    (here_fits spot.row.elements spot.place (record { addr = element; datum = spot.datum }) s.here s.keeps.fits.elements).datum h

-- the user's number was set
pub user_set : {list user : ℕ} {old new : Heap} → IsKind (old.blocks list) kinds.List → new ≡ with_word old list 0 user →
    SetsInList list (λ row. record row { user = user }) old new
user_set {list} {user} {old} {new} kind w = record {
  kind = kind;
  changes = λ row k. record {
    kept = λ rest s.
        word_set old.blocks new.blocks list kinds.List (list_words row) [] 0 user []
        (elements_between list 0 0 row.elements ++ rest) (heap_blocks w) (omega arith) s;
  };
  same = ap besides w;
}

-- a word of a list's block tells what it says of each list that is kept
pub told_of_list : {b : Blocks} {list : ℕ} (r : Result ℕ Stop) (field : ℕ) (of : ListRow → ℕ) →
    ((value : ℕ) → HasWord (b list) field value → (row : ListRow) → KeepsList b list row → value ≡ of row) →
    OnOk r (IsKind (b list) kinds.List) → IfOk r (HasWord (b list) field) → IfOk r (TellsOfList list of b)
told_of_list (Ok value) field of is kind h = record { kind = kind; tells = is value h }
told_of_list (Err stop) field of is kind h = tt

-- and one of an element's of each place that it has
pub told_of_element : {b : Blocks} {element : ℕ} (r : Result ℕ Stop) (field : ℕ) (of : Spot → ℕ) →
    ((value : ℕ) → HasWord (b element) field value → (spot : Spot) → IsSpot b element spot → value ≡ of spot) →
    OnOk r (IsKind (b element) kinds.Element) → IfOk r (HasWord (b element) field) → IfOk r (TellsOfElement element of b)
told_of_element (Ok value) field of is kind h = record { kind = kind; tells = is value h }
told_of_element (Err stop) field of is kind h = tt
