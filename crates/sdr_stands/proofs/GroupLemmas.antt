-- Elements in the order of their groups are those of one group after another.
use Rattle.std.proofs.Common.{◌≡◌, ℕ, zero, suc, ◌+◌, ◌<◌, ◌≤◌, ◌==◌, List, [], ◌∷◌, ◌++◌, Bool, true, false, cond, map, refl, sym, ap, ◌∙◌, arith, eq-eqb}
use Rattle.std.proofs.lemmas.Bool.{eqb-true, ne_eqb}
use Rattle.std.specs.List.{All, AllByRecursion, filter, flat_map, range_with_len}

-- what holds at each place of a list of what a function gives holds of each that it is given
pub each_of : {X Y : Type 0} (h : X → Y) (P : Y → Type 0) (xs : List X) → All P (map h xs) →
    AllByRecursion (λ x. P (h x)) xs
each_of h P [] f = tt
each_of h P (x ∷ xs) f =
    (f 0 (h x) (omega arith), each_of h P xs (λ k d l. f (suc k) d (omega (arith, l))))

module _ {X : Type 0} (g : X → ℕ) where
  -- the elements of a group, and those of some groups, one after another
  abbrev pub group : ℕ → List X → List X
  group b xs = filter (λ x. g x == b) xs

  abbrev pub groups : ℕ → ℕ → List X → List X
  groups a n xs = flat_map (λ b. group b xs) (range_with_len a n)

  -- one of a lower group is in none of these
  passed : (x : X) (xs : List X) (a n : ℕ) → g x < a → groups a n (x ∷ xs) ≡ groups a n xs
  passed x xs a zero below = refl
  passed x xs a (suc n) below =
      ap (λ b. cond b (x ∷ group a xs) (group a xs) ++ groups (a + 1) n (x ∷ xs))
      (ne_eqb (g x) a (λ same. omega (arith, below, same)))
      ∙ ap (λ t. group a xs ++ t) (passed x xs (a + 1) n (omega (arith, below)))

  -- none is in a group below all
  none_below : (b k : ℕ) (xs : List X) → b < k → AllByRecursion (λ x. k ≤ g x) xs → group b xs ≡ []
  none_below b k [] lt above = refl
  none_below b k (x ∷ xs) lt above =
      let least : k ≤ g x = above.0 in
      ap (λ t. cond t (x ∷ group b xs) (group b xs)) (ne_eqb (g x) b (λ same. omega (arith, lt, least, same)))
      ∙ none_below b k xs lt above.1

  -- one before which no group is comes first
  in_front : (x : X) (xs : List X) (a n : ℕ) → a ≤ g x → g x < a + n → AllByRecursion (λ y. g x ≤ g y) xs →
      groups a n (x ∷ xs) ≡ x ∷ groups a n xs
  in_front x xs a zero least most above = absurd (omega (arith, least, most))
  in_front x xs a (suc n) least most above =
      by (g x == a) refl (λ next. in_front x xs (a + 1) n next (omega (arith, most)) above)
    where
      different : g x ≡ a → (g x == a) ≡ false → ⊥
      different same is = let t : true ≡ false = sym (eq-eqb (g x) a same) ∙ is in cc

      strict : (k a : ℕ) → a ≤ k → (k ≡ a → ⊥) → a + 1 ≤ k
      strict k a least apart = omega (arith, least, apart)

      by : (b : Bool) → (g x == a) ≡ b →
          (a + 1 ≤ g x → groups (a + 1) n (x ∷ xs) ≡ x ∷ groups (a + 1) n xs) →
          cond (g x == a) (x ∷ group a xs) (group a xs) ++ groups (a + 1) n (x ∷ xs)
          ≡ x ∷ (group a xs ++ groups (a + 1) n xs)
      by true is rest =
          let same : g x ≡ a = eqb-true (g x) a is in
          ap (λ b. cond b (x ∷ group a xs) (group a xs) ++ groups (a + 1) n (x ∷ xs)) is
          ∙ ap (λ t. x ∷ (group a xs ++ t)) (passed x xs (a + 1) n (omega (arith, same)))
      by false is rest =
          let apart = λ (same : g x ≡ a). different same is in
          let next = strict (g x) a least apart in
          let none = none_below a (g x) xs (omega (arith, next)) above in
          ap (λ b. cond b (x ∷ group a xs) (group a xs) ++ groups (a + 1) n (x ∷ xs)) is
          ∙ ap (λ t. t ++ groups (a + 1) n (x ∷ xs)) none
          ∙ rest (strict (g x) a least apart)
          ∙ ap (λ t. x ∷ (t ++ groups (a + 1) n xs)) (sym none)

  no_groups : (a n : ℕ) → groups a n [] ≡ []
  no_groups a zero = refl
  no_groups a (suc n) = no_groups (a + 1) n

  -- each is in no lower group than those before it
  abbrev pub Rise : List X → Type 0
  Rise [] = Unit {0}
  Rise (x ∷ xs) = AllByRecursion (λ y. g x ≤ g y) xs × Rise xs

  pub regrouped : (n : ℕ) (xs : List X) → Rise xs → AllByRecursion (λ x. g x < n) xs → groups 0 n xs ≡ xs
  regrouped n [] rise below = no_groups 0 n
  regrouped n (x ∷ xs) rise below =
      (let few : g x < n = below.0 in in_front x xs 0 n (omega arith) (omega (arith, few)) rise.0) ∙ ap (λ t. x ∷ t) (regrouped n xs rise.1 below.1)
