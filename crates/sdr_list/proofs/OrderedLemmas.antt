-- Whichever list is kept is walked in search of a key's place, or of an equal key.
use Rattle.std.proofs.Common.{◌≡◌, ℕ, ◌+◌, ◌<◌, ◌^◌, List, [], length}
use Rattle.std.proofs.Common.{refl, sym, ap, ◌∙◌, arith, append-nil, true, false, not}
use Rattle.std.specs.Ordering.{is_eq, is_gt}
use Rattle.std.specs.declared.cmp.Ordering.{Ordering}
use Rattle.sdr_base.specs.Blocks.{Blocks, Reaches}
use Rattle.sdr_base.specs.Lists.{ListRow, KeepsList}
use Rattle.sdr_base.specs.Words.{HasWord}
use Rattle.sdr_list.specs.Kept.{SomeList}
use Rattle.sdr_list.specs.Orders.{Compares, FindsEqual, FindsPlace, sort_key}
use Rattle.sdr_list.specs.Walks.{WalksBack, WalksOn}
use Rattle.sdr_list.proofs.KeptLemmas.{datum_is, element_reaches, first_is, last_is, length_is, next_is, previous_is}
use Rattle.sdr_list.proofs.WalkLemmas.{back_end, back_found, back_more, back_on, back_spot, on_end, on_found, on_more, on_on, on_spot}

-- the answer of a comparison with an element is that with its datum
answered : {order : List ℕ → List ℕ → Ordering} {b : Blocks} {cursor datum : ℕ} {key : List ℕ} {answer : Ordering} →
    Compares order b cursor key answer → ((value : ℕ) → HasWord (b cursor) 3 value → value ≡ datum) →
    answer ≡ order (sort_key b datum) key
answered {order} {b} {key = key} c is = c.is ∙ ap (λ d. order (sort_key b d) key) (is c.datum c.word)

-- there are more elements than were seen
within : {b : Blocks} {list i n : ℕ} {row : ListRow} → HasWord (b list) 1 n → i < n → KeepsList b list row → i < length row.elements
within h more k = let are = length_is h k in omega (arith, are, more)

module _ {order : List ℕ → List ℕ → Ordering} {b : Blocks} {list : ℕ} {key : List ℕ} where
  pub back_start : {last : ℕ} → HasWord (b list) 3 last → WalksBack order b list key last 0
  back_start h = record {
    walked = λ row k. record {
      left = row.elements;
      seen = [];
      whole = sym (append-nil row.elements);
      passed = refl;
      at_cursor = last_is h k;
      none = refl;
    };
  }

  pub on_start : {first : ℕ} → HasWord (b list) 2 first → WalksOn order b list key first 0
  on_start h = record {
    walked = λ row k. record {
      seen = [];
      left = row.elements;
      whole = refl;
      passed = refl;
      at_cursor = first_is h k;
      none = refl;
    };
  }

  module _ {cursor i n : ℕ} (small : list < 2 ^ 64) (h : HasWord (b list) 1 n) (more : i < n) where
    -- the element at the cursor is there
    pub back_reaches : SomeList b list → WalksBack order b list key cursor i → Reaches (b cursor) 32
    back_reaches k w =
        let p = w.walked k.row k.keeps in element_reaches (back_spot k.row p k.keeps small (back_more k.row p (within h more k.keeps)))

    pub on_reaches : SomeList b list → WalksOn order b list key cursor i → Reaches (b cursor) 32
    on_reaches k w =
        let p = w.walked k.row k.keeps in element_reaches (on_spot k.row p k.keeps small (on_more k.row p (within h more k.keeps)))

    -- it is of a greater key, and the one before is next
    pub back_next : {following : ℕ} {answer : Ordering} → WalksBack order b list key cursor i → Compares order b cursor key answer →
        is_gt answer ≡ true → HasWord (b cursor) 1 following → WalksBack order b list key following (i + 1)
    back_next {following} {answer} w c greater f = record {
      walked = λ row k.
          let p = w.walked row k in
          let e = back_more row p (within h more k) in
          let s = back_spot row p k small e in
          let a = answered c (λ value v. datum_is v s) in
          back_on row p following e (ap not (ap is_gt (sym a) ∙ greater)) (previous_is f s);
    }

    -- it is of another key, and the one behind is next
    pub on_next : {following : ℕ} {answer : Ordering} → WalksOn order b list key cursor i → Compares order b cursor key answer →
        is_eq answer ≡ false → HasWord (b cursor) 2 following → WalksOn order b list key following (i + 1)
    on_next {following} {answer} w c other f = record {
      walked = λ row k.
          let p = w.walked row k in
          let e = on_more row p (within h more k) in
          let s = on_spot row p k small e in
          let a = answered c (λ value v. datum_is v s) in
          on_on row p following e (ap is_eq (sym a) ∙ other) (next_is f s);
    }

    -- it is of a key that is less or equal: the place is behind it
    pub back_place : {answer : Ordering} → WalksBack order b list key cursor i → Compares order b cursor key answer → is_gt answer ≡ false →
        FindsPlace order b list key cursor
    back_place w c upto = record {
      place = λ row k.
          let p = w.walked row k in
          let e = back_more row p (within h more k) in
          let a = answered c (λ value v. datum_is v (back_spot row p k small e)) in
          back_found row p e (ap not (ap is_gt (sym a) ∙ upto));
    }

    -- it is of an equal key
    pub on_equal : {answer : Ordering} → WalksOn order b list key cursor i → Compares order b cursor key answer → is_eq answer ≡ true →
        FindsEqual order b list key cursor
    on_equal w c equal = record {
      equal = λ row k.
          let p = w.walked row k in
          let e = on_more row p (within h more k) in
          let a = answered c (λ value v. datum_is v (on_spot row p k small e)) in
          on_found row p e (ap is_eq (sym a) ∙ equal);
    }

  -- the whole list was walked
  pub back_none : {cursor i n : ℕ} → HasWord (b list) 1 n → i ≡ n → WalksBack order b list key cursor i → FindsPlace order b list key 0
  back_none h done w = record { place = λ row k. let are = length_is h k in back_end row (w.walked row k) (omega (arith, are, done)) }

  pub on_none : {cursor i n : ℕ} → HasWord (b list) 1 n → i ≡ n → WalksOn order b list key cursor i → FindsEqual order b list key 0
  on_none h done w = record { equal = λ row k. let are = length_is h k in on_end row (w.walked row k) (omega (arith, are, done)) }
