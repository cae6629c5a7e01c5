-- Rows of groups by rising number.
use Rattle.std.proofs.Common.{◌≡◌, ◌≤◌, ◌<◌, ◌+◌, ◌==◌, ℕ, zero, suc, Bool, List, [], ◌∷◌, ◌++◌, cond, map, arith, ap, ◌∙◌, refl, sym, inl, inr}
use Rattle.std.specs.Prelude.{filter}
use Rattle.std.specs.List.{All, flat_map, range_with_len}
use Rattle.std.proofs.lemmas.Bool.{cases_eq, eq-eqb, ne_eqb}
use Rattle.std.proofs.lemmas.List.Elements.{All-append, All-head, All-nil, All-tail, filter-append}

-- what two functions give alike at each of so many numbers, they give of all
pub map_alike : {X : Type 0} (f g : ℕ → X) (a n : ℕ) → ((k : ℕ) → a ≤ k → k < a + n → f k ≡ g k) → map f (range_with_len a n) ≡ map g (range_with_len a n)
map_alike f g a zero alike = refl
map_alike f g a (suc n) alike =
    (λ i. alike a (omega arith) (omega arith) i ∷ map_alike f g (a + 1) n (λ k low high. alike k (omega (arith, low)) (omega (arith, high))) i)

-- what holds of each of so many groups holds of all
pub all_groups : {X : Type 0} (P : X → Type 0) (group : ℕ → List X) (a n : ℕ) → ((k : ℕ) → a ≤ k → k < a + n → All P (group k)) →
    All P (flat_map group (range_with_len a n))
all_groups P group a zero holds = All-nil P
all_groups P group a (suc n) holds =
    All-append P (group a) (flat_map group (range_with_len (a + 1) n)) (holds a (omega arith) (omega arith))
    (all_groups P group (a + 1) n (λ k low high. holds k (omega (arith, low)) (omega (arith, high))))

module _ {X : Type 0} (g : X → ℕ) where
  -- elements of one group are all that passes the test for it
  same_group : (b : ℕ) (xs : List X) → All (λ x. g x ≡ b) xs → filter (λ x. g x == b) xs ≡ xs
  same_group b [] all = refl
  same_group b (x ∷ xs) all =
      ap (λ (t : Bool). cond t (x ∷ filter (λ x. g x == b) xs) (filter (λ x. g x == b) xs)) (eq-eqb (g x) b (All-head (λ x. g x ≡ b) x xs all))
      ∙ ap (λ (l : List X). x ∷ l) (same_group b xs (All-tail (λ x. g x ≡ b) x xs all))

  other_group : (b k : ℕ) (xs : List X) → (k ≡ b → ⊥) → All (λ x. g x ≡ k) xs → filter (λ x. g x == b) xs ≡ []
  other_group b k [] off all = refl
  other_group b k (x ∷ xs) off all =
      let here = All-head (λ x. g x ≡ k) x xs all in
      ap (λ (t : Bool). cond t (x ∷ filter (λ x. g x == b) xs) (filter (λ x. g x == b) xs)) (ne_eqb (g x) b (λ e. off (sym here ∙ e)))
      ∙ other_group b k xs off (All-tail (λ x. g x ≡ k) x xs all)

  module _ (group : ℕ → List X) where
    -- each element of so many groups is of its own
    abbrev pub AreGrouped : ℕ → ℕ → Type 0
    AreGrouped a n = (k : ℕ) → a ≤ k → k < a + n → All (λ x. g x ≡ k) (group k)

    none_of : (b a n : ℕ) → AreGrouped a n → b < a → filter (λ x. g x == b) (flat_map group (range_with_len a n)) ≡ []
    none_of b a zero grouped below = refl
    none_of b a (suc n) grouped below =
        filter-append (λ x. g x == b) (group a) (flat_map group (range_with_len (a + 1) n))
        ∙ (λ i.
        other_group b a (group a) (λ e. omega (arith, below, e)) (grouped a (omega arith) (omega arith)) i
        ++ none_of b (a + 1) n (λ k low high. grouped k (omega (arith, low)) (omega (arith, high))) (omega (arith, below)) i)

    append_none : (xs : List X) → xs ++ [] ≡ xs
    append_none [] = refl
    append_none (x ∷ xs) = ap (λ (l : List X). x ∷ l) (append_none xs)

    -- the elements of one of the groups, among those of all
    pub group_of : (b a n : ℕ) → AreGrouped a n → a ≤ b → b < a + n → filter (λ x. g x == b) (flat_map group (range_with_len a n)) ≡ group b
    group_of b a zero grouped low high = absurd (omega (arith, low, high))
    group_of b a (suc n) grouped low high =
        let rest : AreGrouped (a + 1) n = λ k low high. grouped k (omega (arith, low)) (omega (arith, high)) in
        filter-append (λ x. g x == b) (group a) (flat_map group (range_with_len (a + 1) n))
        ∙ elim (cases_eq b a) [
          | inl same ↦
              (λ i.
              filter (λ x. g x == same i) (group a)
              ++ none_of b (a + 1) n rest (omega (arith, same)) i)
              ∙ append_none (filter (λ x. g x == a) (group a)) ∙ same_group a (group a) (grouped a (omega arith) (omega arith)) ∙ ap group (sym same)
          | inr off ↦
              (λ i.
              other_group b a (group a) (λ e. off (sym e)) (grouped a (omega arith) (omega arith)) i
              ++ group_of b (a + 1) n rest (above b a low off) (omega (arith, high)) i)
        ]
      where
        above : (b a : ℕ) → a ≤ b → (b ≡ a → ⊥) → a + 1 ≤ b
        above b a low off = omega (arith, low, off)
