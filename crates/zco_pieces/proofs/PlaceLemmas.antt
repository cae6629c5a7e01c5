-- Which places are filled once a piece was added, and how many aren't.
use Rattle.std.proofs.Common.{◌≡◌, ◌≢◌, ◌+◌, ◌-◌, ◌≤◌, ◌<◌, ℕ, zero, suc, Bool, true, false, cond, List, [], ◌∷◌, ◌++◌, refl, sym, ap, ◌∙◌, subst, arith, append-nil, drop, drop-drop, eq-eqb, get_or, length, take, take-append-drop}
use Rattle.std.specs.Prelude.{◌||◌, not, max, min, nat_lt, count_by, flat_map, All, if◌then◌else◌}
use Rattle.std.specs.List.{range_with_len}
use Rattle.std.proofs.lemmas.Bool.{ne_eqb}
use Rattle.std.proofs.lemmas.List.{drop_all}
use Rattle.std.proofs.lemmas.List.Elements.{All-head, All-tail}
use Rattle.std.proofs.lemmas.List.Folds.{list_any-append}
use Rattle.std.proofs.lemmas.List.Sums.{sum_by-append, sum_by-cons}
use Rattle.zco_pieces.specs.Places.{AreInOrder, filled_length, first_missing, gap, is_filled, lies_in, opened}
use Rattle.zco_join.specs.declared.filled.Filled.{Filled}

-- a place lies in a range, or it doesn't
pub lies : (offset length place : ℕ) → offset ≤ place → place < offset + length → lies_in offset length place ≡ true
lies offset length place a b = grind arith

pub lies_before : (offset length place : ℕ) → place < offset → lies_in offset length place ≡ false
lies_before offset length place a = grind arith

pub lies_behind : (offset length place : ℕ) → offset + length ≤ place → lies_in offset length place ≡ false
lies_behind offset length place a = grind arith

-- what a gap fills between two places
pub gap_fills : (from to offset length place : ℕ) → from ≤ place → place < to → is_filled (gap from to offset length) place ≡ lies_in offset length place
gap_fills from to offset length place a b = grind arith

pub gap_behind : (from to offset length place : ℕ) → to ≤ place → is_filled (gap from to offset length) place ≡ false
gap_behind from to offset length place a = grind arith

-- no place before parts is filled
pub none_before : (from total : ℕ) (parts : List Filled) → AreInOrder from total parts → (place : ℕ) → place < from → is_filled parts place ≡ false
none_before from total [] order place before = refl
none_before from total (p ∷ ps) order place before =
    let a = order.0 in
    let first = lies_before p.offset p.length place (omega (arith, a, before)) in
    let others = none_before (p.offset + p.length) total ps order.2 place (omega (arith, a, before)) in
    ap (λ v. v || is_filled ps place) first ∙ others

-- gaps don't break the order
gap_before : (from to total offset length : ℕ) (parts : List Filled) → from ≤ to → AreInOrder to total parts →
    AreInOrder from total (gap from to offset length ++ parts)
gap_before from to total offset length parts le order =
    by (nat_lt (max from offset) (min to (offset + length))) refl
  where
    further : (from to : ℕ) (parts : List Filled) → from ≤ to → AreInOrder to total parts → AreInOrder from total parts
    further from to [] le order = omega (arith, le, order)
    further from to (p ∷ ps) le order = let a = order.0 in (omega (arith, a, le), order.1, order.2)

    by : (b : Bool) → nat_lt (max from offset) (min to (offset + length)) ≡ b → AreInOrder from total
        ((if b then record { offset = max from offset; length = min to (offset + length) - max from offset; object = 0 } ∷ [] else []) ++ parts)
    by false e = further from to parts le order
    by true e = (
      omega arith,
      (grind (arith, e)),
      further (max from offset + (min to (offset + length) - max from offset)) to parts (grind (arith, e)) order,
    )

pub opened_order : (from total : ℕ) (parts : List Filled) (offset length : ℕ) → AreInOrder from total parts →
    AreInOrder from total (opened from total parts offset length)
opened_order from total [] offset length order =
    subst (AreInOrder from total) (append-nil (gap from total offset length)) (gap_before from total total offset length [] order (omega arith))
opened_order from total (p ∷ ps) offset length order =
    gap_before from p.offset total offset length (p ∷ opened (p.offset + p.length) total ps offset length) order.0
    (omega arith, order.1, opened_order (p.offset + p.length) total ps offset length order.2)

-- once gaps are filled, the places are that were filled, and those of the piece
pub opened_fills : (from total : ℕ) (parts : List Filled) (offset length place : ℕ) → AreInOrder from total parts → from ≤ place → place < total →
    is_filled (opened from total parts offset length) place ≡ (is_filled parts place || lies_in offset length place)
opened_fills from total [] offset length place order a b = gap_fills from total offset length place a b
opened_fills from total (p ∷ ps) offset length place order a b =
    let before = gap from p.offset offset length in
    let behind = opened (p.offset + p.length) total ps offset length in
    let split = list_any-append (λ (x : Filled). lies_in x.offset x.length place) before (p ∷ behind) in
    split ∙ by (nat_lt place p.offset) refl (nat_lt place (p.offset + p.length)) refl
    (λ l. opened_fills (p.offset + p.length) total ps offset length place order.2 l b)
  where
    or_false : (x : Bool) → (x || false) ≡ x
    or_false true = refl
    or_false false = refl

    or_true : (x : Bool) → (x || true) ≡ true
    or_true true = refl
    or_true false = refl

    by : (u : Bool) → nat_lt place p.offset ≡ u → (v : Bool) → nat_lt place (p.offset + p.length) ≡ v →
        (p.offset + p.length ≤ place → is_filled (opened (p.offset + p.length) total ps offset length) place
        ≡ (is_filled ps place || lies_in offset length place)) →
        (is_filled (gap from p.offset offset length) place || (lies_in p.offset p.length place || is_filled (opened (p.offset + p.length) total ps offset length) place))
        ≡ ((lies_in p.offset p.length place || is_filled ps place) || lies_in offset length place)
    by true e v f later =
        let here : place < p.offset = grind (arith, e) in
        let g = gap_fills from p.offset offset length place a here in
        let one = lies_before p.offset p.length place here in
        let o = none_before (p.offset + p.length) total (opened (p.offset + p.length) total ps offset length)
        (opened_order (p.offset + p.length) total ps offset length order.2) place (omega (arith, here)) in
        let n = none_before (p.offset + p.length) total ps order.2 place (omega (arith, here)) in
        rw (g, one, o, n) (or_false (lies_in offset length place))
    by false e true f later =
        let one = lies p.offset p.length place (grind (arith, e)) (grind (arith, f)) in
        rw one (or_true (is_filled (gap from p.offset offset length) place))
    by false e false f later =
        let g = gap_behind from p.offset offset length place (grind (arith, e)) in
        let one = lies_behind p.offset p.length place (grind (arith, f)) in
        let ih = later (grind (arith, f)) in
        rw (g, one, ih) refl

-- numbers in a row, in two parts
range_split : (a i j : ℕ) → range_with_len a (i + j) ≡ range_with_len a i ++ range_with_len (a + i) j
range_split a zero j =
    let e : 0 + j ≡ j = omega arith in
    let f : a ≡ a + 0 = omega arith in
    ap (λ n. range_with_len a n) e ∙ ap (λ n. range_with_len n j) f
range_split a (suc i) j =
    let e : suc i + j ≡ suc (i + j) = omega arith in
    let f : a + 1 + i ≡ a + suc i = omega arith in
    ap (λ n. range_with_len a n) e
    ∙ ap (λ (xs : List ℕ). a ∷ xs) (range_split (a + 1) i j ∙ ap (λ n. range_with_len (a + 1) i ++ range_with_len n j) f)

-- whether a place is counted
abbrev once : (ℕ → Bool) → ℕ → ℕ
once p x = cond (p x) 1 0

count-append : (p : ℕ → Bool) (xs ys : List ℕ) → count_by p (xs ++ ys) ≡ count_by p xs + count_by p ys
count-append p xs ys = sum_by-append (once p) xs ys

count-cons : (p : ℕ → Bool) (x : ℕ) (xs : List ℕ) → count_by p (x ∷ xs) ≡ cond (p x) 1 0 + count_by p xs
count-cons p x xs = sum_by-cons (once p) x xs

-- as many are counted where the test is the same
pub count_same : (p q : ℕ → Bool) (a n : ℕ) → ((x : ℕ) → a ≤ x → x < a + n → p x ≡ q x) → count_by p (range_with_len a n) ≡ count_by q (range_with_len a n)
count_same p q a zero same = refl
count_same p q a (suc n) same =
    let ih = count_same p q (a + 1) n (λ x l h. same x (omega (arith, l)) (omega (arith, h))) in
    let c = count-cons p a (range_with_len (a + 1) n) in
    let d = count-cons q a (range_with_len (a + 1) n) in
    let e = ap (λ v. cond {A = ℕ} v 1 0) (same a (omega arith) (omega arith)) in
    omega (arith, ih, c, d, e)

count_all : (a n : ℕ) → count_by (λ x. true) (range_with_len a n) ≡ n
count_all a zero = refl
count_all a (suc n) =
    let ih = count_all (a + 1) n in let c = count-cons (λ x. true) a (range_with_len (a + 1) n) in omega (arith, ih, c)

count_none : (a n : ℕ) → count_by (λ x. false) (range_with_len a n) ≡ 0
count_none a zero = refl
count_none a (suc n) =
    let ih = count_none (a + 1) n in let c = count-cons (λ x. false) a (range_with_len (a + 1) n) in omega (arith, ih, c)

-- the parts have so many bytes at most
pub filled_most : (from total : ℕ) (parts : List Filled) → AreInOrder from total parts → from + filled_length parts ≤ total
filled_most from total [] order = omega (arith, order)
filled_most from total (p ∷ ps) order =
    let ih = filled_most (p.offset + p.length) total ps order.2 in
    let a = order.0 in
    let s = sum_by-cons (λ (x : Filled). x.length) p ps in
    omega (arith, ih, a, s)

-- and as many places are left
pub places_left : (from total : ℕ) (parts : List Filled) → AreInOrder from total parts → (n : ℕ) → from + n ≡ total →
    count_by (λ place. not (is_filled parts place)) (range_with_len from n) ≡ n - filled_length parts
places_left from total [] order n e = count_all from n ∙ omega arith
places_left from total (p ∷ ps) order n e =
    let a = order.0 in
    let m = filled_most (p.offset + p.length) total ps order.2 in
    let i = p.offset - from in
    let j = total - (p.offset + p.length) in
    let test : ℕ → Bool = λ place. not (is_filled (p ∷ ps) place) in
    let at : from + i ≡ p.offset = omega (arith, a) in
    let whole : n ≡ i + (p.length + j) = omega (arith, a, m, e) in
    let split : range_with_len from n ≡ range_with_len from i ++ (range_with_len p.offset p.length ++ range_with_len (p.offset + p.length) j) =
    ap (λ k. range_with_len from k) whole ∙ range_split from i (p.length + j)
    ∙ ap (λ k. range_with_len from i ++ range_with_len k (p.length + j)) at
    ∙ ap (λ (xs : List ℕ). range_with_len from i ++ xs) (range_split p.offset p.length j) in
    let one = count-append test (range_with_len from i) (range_with_len p.offset p.length ++ range_with_len (p.offset + p.length) j) in
    let two = count-append test (range_with_len p.offset p.length) (range_with_len (p.offset + p.length) j) in
    let before = count_same test (λ x. true) from i (λ x l h. ap not (none_before p.offset total (p ∷ ps) (omega arith, order.1, order.2) x (omega (arith, h, at)))) in
    let here = count_same test (λ x. false) p.offset p.length
    (λ x l h. ap (λ v. not (v || is_filled ps x)) (lies p.offset p.length x l h)) in
    let behind = count_same test (λ place. not (is_filled ps place)) (p.offset + p.length) j
    (λ x l h. ap (λ v. not (v || is_filled ps x)) (lies_behind p.offset p.length x l)) in
    let ih = places_left (p.offset + p.length) total ps order.2 j (omega (arith, m)) in
    let all = count_all from i in
    let none = count_none p.offset p.length in
    let s = sum_by-cons (λ (x : Filled). x.length) p ps in
    ap (count_by test) split ∙ omega (arith, one, two, before, here, behind, ih, all, none, s, whole)

-- where none is left, each part begins where the last ended
pub next_begins : (from total : ℕ) (p : Filled) (ps : List Filled) → AreInOrder from total (p ∷ ps) → from + filled_length (p ∷ ps) ≡ total →
    (p.offset ≡ from) × (p.offset + p.length + filled_length ps ≡ total)
next_begins from total p ps order all =
    let m = filled_most (p.offset + p.length) total ps order.2 in
    let a = order.0 in
    let s = sum_by-cons (λ (x : Filled). x.length) p ps in
    (omega (arith, m, a, s, all), omega (arith, m, a, s, all))

-- the bytes of a text from a place on, as parts have them that leave none out
module _ (bytes : ℕ → List ℕ) (text : List ℕ) where
  -- a part's clone has the bytes of the text in its place
  abbrev pub HasText : Filled → Type 0
  HasText p = bytes p.object ≡ take p.length (drop p.offset text)

  pub text_whole : (from : ℕ) (parts : List Filled) → AreInOrder from (length text) parts → from + filled_length parts ≡ length text →
      All HasText parts → flat_map (λ p. bytes p.object) parts ≡ drop from text
  text_whole from [] order all has = sym (drop_all from text (omega (arith, all)))
  text_whole from (p ∷ ps) order all has =
      let n = next_begins from (length text) p ps order all in
      let at = n.0 in
      let ih = text_whole (p.offset + p.length) ps order.2 n.1 (All-tail HasText p ps has) in
      let one = All-head HasText p ps has in
      ap (λ xs. xs ++ flat_map (λ q. bytes q.object) ps) one ∙ ap (λ xs. take p.length (drop p.offset text) ++ xs) ih
      ∙ ap (λ xs. take p.length (drop p.offset text) ++ xs) (sym (drop-drop p.length p.offset text))
      ∙ take-append-drop p.length (drop p.offset text) ∙ ap (λ k. drop k text) at

-- the first place that no part fills, where parts up to a place leave none out
pub first_is : (from : ℕ) (p : Filled) (ps : List Filled) → p.offset ≡ from → first_missing from (p ∷ ps) ≡ first_missing (p.offset + p.length) ps
first_is from p ps at = ap (λ v. if v then first_missing (p.offset + p.length) ps else from) (eq-eqb p.offset from at)

pub first_here : (from : ℕ) (p : Filled) (ps : List Filled) → p.offset ≢ from → first_missing from (p ∷ ps) ≡ from
first_here from p ps off = ap (λ v. if v then first_missing (p.offset + p.length) ps else from) (ne_eqb p.offset from off)

-- the part at a place among parts in order, and those behind it
pub order_at : (from total i : ℕ) (parts : List Filled) (d : Filled) → AreInOrder from total (drop i parts) → i < length parts →
    (from ≤ (get_or parts i d).offset) × ((get_or parts i d).offset + (get_or parts i d).length ≤ total)
    × AreInOrder ((get_or parts i d).offset + (get_or parts i d).length) total (drop (i + 1) parts)
order_at from total i [] d order less = absurd (omega (arith, less))
order_at from total zero (p ∷ ps) d order less = let m = filled_most (p.offset + p.length) total ps order.2 in (order.0, omega (arith, m), order.2)
order_at from total (suc i) (p ∷ ps) d order less =
    let o = order_at from total i ps d order (omega (arith, less)) in
    let e : suc (i + 1) ≡ suc i + 1 = omega arith in
    (o.0, o.1, subst (λ n. AreInOrder ((get_or ps i d).offset + (get_or ps i d).length) total (drop n (p ∷ ps))) e o.2)

pub opened_at : (from total i : ℕ) (parts : List Filled) (d : Filled) (offset length' : ℕ) → i < length parts →
    opened from total (drop i parts) offset length'
    ≡ gap from (get_or parts i d).offset offset length' ++ (get_or parts i d ∷ opened ((get_or parts i d).offset + (get_or parts i d).length) total (drop (i + 1) parts) offset length')
opened_at from total i [] d offset length' less = absurd (omega (arith, less))
opened_at from total zero (p ∷ ps) d offset length' less = refl
opened_at from total (suc i) (p ∷ ps) d offset length' less =
    let e : suc (i + 1) ≡ suc i + 1 = omega arith in
    opened_at from total i ps d offset length' (omega (arith, less))
    ∙ ap (λ n. gap from (get_or ps i d).offset offset length' ++ (get_or ps i d ∷ opened ((get_or ps i d).offset + (get_or ps i d).length) total (drop n (p ∷ ps)) offset length')) e
