-- Rows of groups by rising number rise, and nothing is there twice where nothing is twice in a group.
use Rattle.std.proofs.Common.{◌≡◌, ◌≤◌, ◌<◌, ◌+◌, ℕ, zero, suc, Bool, List, [], ◌∷◌, ◌++◌, false, true, length, map, arith}
use Rattle.std.specs.List.{All, AllByRecursion, IsDistinct, flat_map, range_with_len}
use Rattle.std.specs.List.Sorted.{IsNonDecreasingBy}
use Rattle.std.proofs.lemmas.Bool.{false_from_ne_true}
use Rattle.std.proofs.lemmas.List.Elements.{All-cons, All-head, All-nil, All-tail}

module _ {E K : Type 0} (h : E → K) (g : K → ℕ) where
  rise_nil : IsNonDecreasingBy g []
  rise_nil i j d le less = absurd (let e : j < 0 = less in omega (arith, e))

  rise_cons : (x : K) (xs : List K) → All (λ y. g x ≤ g y) xs → IsNonDecreasingBy g xs → IsNonDecreasingBy g (x ∷ xs)
  rise_cons x xs all rise zero zero d le less = omega arith
  rise_cons x xs all rise zero (suc j) d le less = all j d (let e : suc j < suc (length xs) = less in omega (arith, e))
  rise_cons x xs all rise (suc i) zero d le less = absurd (let e : suc i ≤ 0 = le in omega (arith, e))
  rise_cons x xs all rise (suc i) (suc j) d le less = rise i j d (omega (arith, le)) (let e : suc j < suc (length xs) = less in omega (arith, e))

  weaker : (k k' : ℕ) (xs : List K) → k ≤ k' → All (λ y. k' ≤ g y) xs → All (λ y. k ≤ g y) xs
  weaker k k' xs le all = λ i d less. let e = all i d less in omega (arith, e, le)

  -- elements of one group before others of no lower one
  front_above : (k : ℕ) (xs rest : List E) → All (λ e. g (h e) ≡ k) xs → All (λ y. k ≤ g y) (map h rest) → All (λ y. k ≤ g y) (map h (xs ++ rest))
  front_above k [] rest all above = above
  front_above k (x ∷ xs) rest all above =
      let here = All-head (λ e. g (h e) ≡ k) x xs all in
      All-cons (λ y. k ≤ g y) (h x) (map h (xs ++ rest)) (omega (arith, here)) (front_above k xs rest (All-tail (λ e. g (h e) ≡ k) x xs all) above)

  front_rise : (k : ℕ) (xs rest : List E) → All (λ e. g (h e) ≡ k) xs → All (λ y. k ≤ g y) (map h rest) → IsNonDecreasingBy g (map h rest) →
      IsNonDecreasingBy g (map h (xs ++ rest))
  front_rise k [] rest all above rise = rise
  front_rise k (x ∷ xs) rest all above rise =
      let here = All-head (λ e. g (h e) ≡ k) x xs all in
      let later = All-tail (λ e. g (h e) ≡ k) x xs all in
      rise_cons (h x) (map h (xs ++ rest)) (weaker (g (h x)) k (map h (xs ++ rest)) (omega (arith, here)) (front_above k xs rest later above))
      (front_rise k xs rest later above rise)

  module _ (group : ℕ → List E) where
    rows_above : (a n : ℕ) → ((k : ℕ) → a ≤ k → k < a + n → All (λ e. g (h e) ≡ k) (group k)) → All (λ y. a ≤ g y) (map h (flat_map group (range_with_len a n)))
    rows_above a zero grouped = All-nil (λ y. a ≤ g y)
    rows_above a (suc n) grouped =
        front_above a (group a) (flat_map group (range_with_len (a + 1) n)) (grouped a (omega arith) (omega arith))
        (weaker a (a + 1) (map h (flat_map group (range_with_len (a + 1) n))) (omega arith)
        (rows_above (a + 1) n (λ k low high. grouped k (omega (arith, low)) (omega (arith, high)))))

    -- groups by rising number rise
    pub rows_rise : (a n : ℕ) → ((k : ℕ) → a ≤ k → k < a + n → All (λ e. g (h e) ≡ k) (group k)) → IsNonDecreasingBy g (map h (flat_map group (range_with_len a n)))
    rows_rise a zero grouped = rise_nil
    rows_rise a (suc n) grouped =
        let rest = λ (k : ℕ) (low : a + 1 ≤ k) (high : k < a + 1 + n). grouped k (omega (arith, low)) (omega (arith, high)) in
        front_rise a (group a) (flat_map group (range_with_len (a + 1) n)) (grouped a (omega arith) (omega arith))
        (weaker a (a + 1) (map h (flat_map group (range_with_len (a + 1) n))) (omega arith) (rows_above (a + 1) n rest))
        (rows_rise (a + 1) n rest)

    -- where keys that a test takes for the same are in one group
    module _ (eq : K → K → Bool) (same : (x y : K) → eq x y ≡ true → g x ≡ g y) where
      -- a key of a group is that of none in later ones
      none_later : (k : ℕ) (x : K) (ys : List K) → g x ≡ k → All (λ y. k + 1 ≤ g y) ys → AllByRecursion (λ y. eq x y ≡ false) ys
      none_later k x [] here above = tt
      none_later k x (y ∷ ys) here above =
          let later = All-head (λ y. k + 1 ≤ g y) y ys above in (
            false_from_ne_true (eq x y) (λ is. let e = same x y is in absurd (omega (arith, e, here, later))),
            none_later k x ys here (All-tail (λ y. k + 1 ≤ g y) y ys above),
          )

      none_both : (x : K) (xs rest : List E) → AllByRecursion (λ y. eq x y ≡ false) (map h xs) →
          AllByRecursion (λ y. eq x y ≡ false) (map h rest) → AllByRecursion (λ y. eq x y ≡ false) (map h (xs ++ rest))
      none_both x [] rest here later = later
      none_both x (e ∷ es) rest (off, here) later = (off, none_both x es rest here later)

      front_distinct : (k : ℕ) (xs rest : List E) → All (λ e. g (h e) ≡ k) xs → All (λ y. k + 1 ≤ g y) (map h rest) →
          IsDistinct eq (map h xs) → IsDistinct eq (map h rest) → IsDistinct eq (map h (xs ++ rest))
      unfolding IsDistinct
      front_distinct k [] rest all above here later = later
      front_distinct k (x ∷ xs) rest all above (off, here) later = (
        none_both (h x) xs rest off (none_later k (h x) (map h rest) (All-head (λ e. g (h e) ≡ k) x xs all) above),
        front_distinct k xs rest (All-tail (λ e. g (h e) ≡ k) x xs all) above here later,
      )

      -- keys that are distinct in each group are so in all
      pub rows_distinct : (a n : ℕ) → ((k : ℕ) → a ≤ k → k < a + n → All (λ e. g (h e) ≡ k) (group k)) →
          ((k : ℕ) → a ≤ k → k < a + n → IsDistinct eq (map h (group k))) → IsDistinct eq (map h (flat_map group (range_with_len a n)))
      unfolding IsDistinct
      rows_distinct a zero grouped distinct = tt
      rows_distinct a (suc n) grouped distinct =
          let later = λ (k : ℕ) (low : a + 1 ≤ k) (high : k < a + 1 + n). grouped k (omega (arith, low)) (omega (arith, high)) in
          front_distinct a (group a) (flat_map group (range_with_len (a + 1) n)) (grouped a (omega arith) (omega arith))
          (rows_above (a + 1) n later) (distinct a (omega arith) (omega arith))
          (rows_distinct (a + 1) n later (λ k low high. distinct k (omega (arith, low)) (omega (arith, high))))
