-- A list is walked, element by element.
use Rattle.std.proofs.Common.{◌≡◌, ℕ, suc, ◌+◌, ◌<◌, ◌^◌, ◌==◌, List, [], ◌∷◌, ◌++◌, length, take, drop, Some, None}
use Rattle.std.proofs.Common.{refl, sym, ap, ◌∙◌, arith, append_assoc, append-nil, length-append, Bool, true, false, cond, not}
use Rattle.std.specs.Prelude.{find, slice_get, ◌&&◌, if◌then◌else◌}
use Rattle.std.proofs.lemmas.Bool.{ne_eqb}
use Rattle.std.proofs.lemmas.List.{take-append-le, take_all}
use Rattle.sdr_base.specs.Blocks.{Blocks}
use Rattle.sdr_base.specs.Linked.{first_of, last_of}
use Rattle.sdr_base.specs.Lists.{ListElement, ListRow, KeepsList, addr_of}
use Rattle.sdr_base.proofs.LinkedLemmas.{last-append}
use Rattle.sdr_list.specs.Kept.{IsSpot, addr_before, addr_from}
use Rattle.sdr_list.specs.Orders.{found_addr, place_behind}
use Rattle.sdr_list.specs.Walks.{WalkedBack, WalkedOn}

pub take-append : {X : Type 0} (xs ys : List X) → take (length xs) (xs ++ ys) ≡ xs
take-append xs ys = take-append-le (length xs) xs ys (omega arith) ∙ take_all (length xs) xs (omega arith)

pub drop-append : {X : Type 0} (xs ys : List X) → drop (length xs) (xs ++ ys) ≡ ys
drop-append [] ys = refl
drop-append (x ∷ xs) ys = drop-append xs ys

drop-behind : {X : Type 0} (xs : List X) (x : X) (ys : List X) → drop (suc (length xs)) (xs ++ (x ∷ ys)) ≡ ys
drop-behind [] x ys = refl
drop-behind (z ∷ xs) x ys = drop-behind xs x ys

get-append : {X : Type 0} (xs : List X) (x : X) (ys : List X) → slice_get (xs ++ (x ∷ ys)) (length xs) ≡ Some x
get-append [] x ys = refl
get-append (z ∷ xs) x ys = get-append xs x ys

-- an element between two parts has its place
pub spot_between : {b : Blocks} {list cursor : ℕ} {row : ListRow} (xs : List ListElement) (x : ListElement) (ys : List ListElement) → KeepsList b list row → list < 2 ^ 64 →
    row.elements ≡ xs ++ (x ∷ ys) → cursor ≡ x.addr →
    IsSpot b cursor (record { list = list; row = row; place = length xs; datum = x.datum })
spot_between xs x ys k small whole at = record {
  keeps = k;
  small = small;
  here =
      ap (λ (zs : List ListElement). slice_get zs (length xs)) whole ∙ get-append xs x ys
      ∙ ap (λ a. Some (record { addr = a; datum = x.datum })) (sym at);
}

-- the elements on either side of it
pub before_it : (row : ListRow) (xs : List ListElement) (x : ListElement) (ys : List ListElement) → row.elements ≡ xs ++ (x ∷ ys) →
    addr_before row (length xs) ≡ last_of addr_of 0 xs
before_it row xs x ys whole =
    ap (λ (zs : List ListElement). last_of addr_of 0 (take (length xs) zs)) whole ∙ ap (last_of addr_of 0) (take-append xs (x ∷ ys))

pub behind_it : (row : ListRow) (xs : List ListElement) (x : ListElement) (ys : List ListElement) → row.elements ≡ xs ++ (x ∷ ys) →
    addr_from row (length xs + 1) ≡ first_of addr_of 0 ys
behind_it row xs x ys whole =
    let one : length xs + 1 ≡ suc (length xs) = omega arith in
    ap (λ p. addr_from row p) one
    ∙ ap (λ (zs : List ListElement). first_of addr_of 0 (drop (suc (length xs)) zs)) whole ∙ ap (first_of addr_of 0) (drop-behind xs x ys)

nothing : (left : List ListElement) → length left ≡ 0 → left ≡ []
nothing [] n = refl
nothing (x ∷ left) n = absurd (omega (arith, n))

-- what is left has a last one, or a first one
pub record HasLast (left : List ListElement) : Type 0 where
  pub init : List ListElement
  pub last : ListElement
  pub is : left ≡ init ++ (last ∷ [])

ends : (x : ListElement) (xs : List ListElement) → HasLast (x ∷ xs)
ends x [] = record { init = []; last = x; is = refl }
ends x (y ∷ ys) = let r = ends y ys in record { init = x ∷ r.init; last = r.last; is = ap (λ (t : List ListElement). x ∷ t) r.is }

has_last : (left : List ListElement) → 0 < length left → HasLast left
has_last [] n = absurd (omega (arith, n))
has_last (x ∷ xs) n = ends x xs

pub record HasFirst (left : List ListElement) : Type 0 where
  pub first : ListElement
  pub tail : List ListElement
  pub is : left ≡ first ∷ tail

has_first : (left : List ListElement) → 0 < length left → HasFirst left
has_first [] n = absurd (omega (arith, n))
has_first (x ∷ xs) n = record { first = x; tail = xs; is = refl }

-- where none of those behind passes, the place is among those before
place-none : (test : ℕ → Bool) (xs ys : List ListElement) → place_behind test ys ≡ 0 → place_behind test (xs ++ ys) ≡ place_behind test xs
place-none test [] ys e = e
place-none test (x ∷ xs) ys e =
    ap (λ place. if place == 0 && not (test x.datum) then 0 else place + 1) (place-none test xs ys e)

one_on : (v : Bool) (place n : ℕ) → place ≡ suc n → (if place == 0 && v then 0 else place + 1) ≡ suc (suc n)
one_on v place n e =
    ap (λ p. if p == 0 && v then 0 else p + 1) e
    ∙ ap (λ c. if c && v then 0 else suc n + 1) (ne_eqb (suc n) 0 (λ z. omega (arith, z))) ∙ omega arith

-- where the last one passes, the place is the end
place-last : (test : ℕ → Bool) (xs : List ListElement) (x : ListElement) → test x.datum ≡ true → place_behind test (xs ++ (x ∷ [])) ≡ suc (length xs)
place-last test [] x e = ap (λ v. if not v then 0 else 0 + 1) e
place-last test (y ∷ ys) x e =
    one_on (not (test y.datum)) (place_behind test (ys ++ (x ∷ []))) (length ys) (place-last test ys x e)

-- one more that doesn't pass
place-one : (test : ℕ → Bool) (x : ListElement) (xs : List ListElement) → test x.datum ≡ false → place_behind test xs ≡ 0 → place_behind test (x ∷ xs) ≡ 0
place-one test x xs e z =
    ap (λ place. if place == 0 && not (test x.datum) then 0 else place + 1) z ∙ ap (λ v. if not v then 0 else 0 + 1) e

module _ {test : ℕ → Bool} {cursor i : ℕ} (row : ListRow) (w : WalkedBack test row.elements cursor i) where
  pub back_more : i < length row.elements → HasLast w.left
  back_more more =
      let n = ap (length {A = ListElement}) w.whole in let l = length-append w.left w.seen in let p = w.passed in
      has_last w.left (omega (arith, n, l, p, more))

  cut_last : (e : HasLast w.left) → row.elements ≡ e.init ++ (e.last ∷ w.seen)
  cut_last e = w.whole ∙ ap (λ (t : List ListElement). t ++ w.seen) e.is ∙ append_assoc e.init (e.last ∷ []) w.seen

  last_addr : (e : HasLast w.left) → cursor ≡ e.last.addr
  last_addr e =
      w.at_cursor ∙ ap (last_of addr_of 0) e.is
      ∙ last-append addr_of (λ p n x. record { kind = Rattle.sdr_base.specs.declared.kind.Kind.TheVariants.Element; bytes = [] }) 0 e.init (e.last ∷ [])

  pub back_spot : {b : Blocks} {list : ℕ} → KeepsList b list row → list < 2 ^ 64 → (e : HasLast w.left) →
      IsSpot b cursor (record { list = list; row = row; place = length e.init; datum = e.last.datum })
  back_spot k small e = spot_between e.init e.last w.seen k small (cut_last e) (last_addr e)

  -- the last that is left passes
  pub back_found : (e : HasLast w.left) → test e.last.datum ≡ true → cursor ≡ addr_before row (place_behind test row.elements)
  back_found e passes =
      let size = length-append e.init (e.last ∷ []) in
      let all = ap (length {A = ListElement}) e.is in
      let place : place_behind test row.elements ≡ length w.left =
      ap (place_behind test) w.whole ∙ place-none test w.left w.seen w.none ∙ ap (place_behind test) e.is
      ∙ place-last test e.init e.last passes ∙ omega (arith, size, all) in
      w.at_cursor ∙ ap (last_of addr_of 0) (sym (take-append w.left w.seen))
      ∙ ap (λ (zs : List ListElement). last_of addr_of 0 (take (length w.left) zs)) (sym w.whole)
      ∙ ap (λ p. addr_before row p) (sym place)

  -- it doesn't, and the one before is next
  pub back_on : (following : ℕ) (e : HasLast w.left) → test e.last.datum ≡ false → following ≡ addr_before row (length e.init) →
      WalkedBack test row.elements following (i + 1)
  back_on following e fails f = record {
    left = e.init;
    seen = e.last ∷ w.seen;
    whole = cut_last e;
    passed = let p = w.passed in omega (arith, p);
    at_cursor = f ∙ before_it row e.init e.last w.seen (cut_last e);
    none = place-one test e.last w.seen fails w.none;
  }

  -- none is left
  pub back_end : i ≡ length row.elements → 0 ≡ addr_before row (place_behind test row.elements)
  back_end done =
      let n = ap (length {A = ListElement}) w.whole in let l = length-append w.left w.seen in let p = w.passed in
      let none : w.left ≡ [] = nothing w.left (omega (arith, n, l, p, done)) in
      let place : place_behind test row.elements ≡ 0 =
      ap (place_behind test) w.whole ∙ place-none test w.left w.seen w.none ∙ ap (place_behind test) none in
      ap (λ p. addr_before row p) (sym place)

-- none of those seen passes, so the first is among the others
find-none : (test : ListElement → Bool) (xs ys : List ListElement) → find test xs ≡ None → find test (xs ++ ys) ≡ find test ys
find-none test [] ys e = refl
find-none test (x ∷ xs) ys e =
    elim (test x) as (λ v. cond v (Some x) (find test xs) ≡ None → cond v (Some x) (find test (xs ++ ys)) ≡ find test ys) [
      | true ↦ λ k. let d : Some x ≡ None = k in cc
      | false ↦ λ k. find-none test xs ys k
    ] e

module _ {test : ListElement → Bool} {cursor i : ℕ} (row : ListRow) (w : WalkedOn test row.elements cursor i) where
  pub on_more : i < length row.elements → HasFirst w.left
  on_more more =
      let n = ap (length {A = ListElement}) w.whole in let l = length-append w.seen w.left in let p = w.passed in
      has_first w.left (omega (arith, n, l, p, more))

  cut_first : (e : HasFirst w.left) → row.elements ≡ w.seen ++ (e.first ∷ e.tail)
  cut_first e = w.whole ∙ ap (λ (t : List ListElement). w.seen ++ t) e.is

  first_addr : (e : HasFirst w.left) → cursor ≡ e.first.addr
  first_addr e = w.at_cursor ∙ ap (first_of addr_of 0) e.is

  pub on_spot : {b : Blocks} {list : ℕ} → KeepsList b list row → list < 2 ^ 64 → (e : HasFirst w.left) →
      IsSpot b cursor (record { list = list; row = row; place = length w.seen; datum = e.first.datum })
  on_spot k small e = spot_between w.seen e.first e.tail k small (cut_first e) (first_addr e)

  -- the first that is left passes
  pub on_found : (e : HasFirst w.left) → test e.first ≡ true → cursor ≡ found_addr (find test row.elements)
  on_found e passes =
      first_addr e
      ∙ ap found_addr (sym (ap (find test) (cut_first e) ∙ find-none test w.seen (e.first ∷ e.tail) w.none
      ∙ ap (λ v. cond v (Some e.first) (find test e.tail)) passes))

  -- it doesn't, and the one behind is next
  pub on_on : (following : ℕ) (e : HasFirst w.left) → test e.first ≡ false → following ≡ addr_from row (length w.seen + 1) →
      WalkedOn test row.elements following (i + 1)
  on_on following e fails f = record {
    seen = w.seen ++ (e.first ∷ []);
    left = e.tail;
    whole = cut_first e ∙ sym (append_assoc w.seen (e.first ∷ []) e.tail);
    passed = let p = w.passed in let l = length-append w.seen (e.first ∷ []) in omega (arith, p, l);
    at_cursor = f ∙ behind_it row w.seen e.first e.tail (cut_first e);
    none =
        find-none test w.seen (e.first ∷ []) w.none
        ∙ ap (λ v. cond v (Some e.first) None) fails;
  }

  -- none is left
  pub on_end : i ≡ length row.elements → 0 ≡ found_addr (find test row.elements)
  on_end done =
      let n = ap (length {A = ListElement}) w.whole in let l = length-append w.seen w.left in let p = w.passed in
      let none : w.left ≡ [] = nothing w.left (omega (arith, n, l, p, done)) in
      ap found_addr (sym (ap (find test) (w.whole ∙ ap (λ (t : List ListElement). w.seen ++ t) none ∙ append-nil w.seen) ∙ w.none))
