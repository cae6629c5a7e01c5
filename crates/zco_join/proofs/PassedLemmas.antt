-- Some first ones of parts were passed.
use Rattle.std.proofs.Common.{◌≡◌, ◌+◌, ◌≤◌, ◌<◌, ℕ, List, [], ◌∷◌, ◌++◌, length, get_or, refl, sym, ap, ◌∙◌, arith, append_assoc, append-nil, length-append}
use Rattle.zco_join.specs.declared.filled.Filled.{Filled}

-- so many were, and those are left
pub record PassedParts (parts : List Filled) (i : ℕ) : Type 0 where
  pub done : List Filled
  pub left : List Filled
  pub whole : parts ≡ done ++ left
  pub counted : i ≡ length done

abbrev pub passed_none : (parts : List Filled) → PassedParts parts 0
passed_none parts = record { done = []; left = parts; whole = refl; counted = refl }

module _ {parts : List Filled} {i : ℕ} (l : PassedParts parts i) where
  -- none is left
  pub none_left : length parts ≤ i → l.left ≡ []
  none_left over = by l.left refl
    where
      by : (xs : List Filled) → l.left ≡ xs → l.left ≡ []
      by [] e = e
      by (x ∷ xs) e =
          let a = ap (length {A = Filled}) l.whole in
          let b = length-append l.done l.left in
          let c = ap (length {A = Filled}) e in
          let p = l.counted in
          absurd (omega (arith, a, b, c, p, over))

  pub passed_all : length parts ≤ i → parts ≡ l.done
  passed_all over = l.whole ∙ ap (λ (xs : List Filled). l.done ++ xs) (none_left over) ∙ append-nil l.done

  module _ (more : i < length parts) where
    -- the next one
    pub next_part : (p : Filled) × (later : List Filled) × (l.left ≡ p ∷ later)
    next_part = by l.left refl
      where
        by : (xs : List Filled) → l.left ≡ xs → (p : Filled) × (later : List Filled) × (l.left ≡ p ∷ later)
        by [] e =
            let a = ap (length {A = Filled}) l.whole in
            let b = length-append l.done l.left in
            let c = ap (length {A = Filled}) e in
            let p = l.counted in
            absurd (omega (arith, a, b, c, p, more))
        by (p ∷ later) e = (p, later, e)

    pub passed_is : (d : Filled) → get_or parts i d ≡ next_part.0
    passed_is d =
        ap (λ xs. get_or xs i d) (l.whole ∙ ap (λ (xs : List Filled). l.done ++ xs) next_part.2)
        ∙ ap (λ n. get_or (l.done ++ (next_part.0 ∷ next_part.1)) n d) l.counted
        ∙ here l.done next_part.0 next_part.1
      where
        here : (xs : List Filled) (x : Filled) (ys : List Filled) → get_or (xs ++ (x ∷ ys)) (length xs) d ≡ x
        here [] x ys = refl
        here (y ∷ xs) x ys = here xs x ys

    abbrev pub passed_next : PassedParts parts (i + 1)
    passed_next = record {
      done = l.done ++ (next_part.0 ∷ []);
      left = next_part.1;
      whole = l.whole ∙ ap (λ (xs : List Filled). l.done ++ xs) next_part.2 ∙ sym (append_assoc l.done (next_part.0 ∷ []) next_part.1);
      counted = let a = length-append l.done (next_part.0 ∷ []) in let p = l.counted in omega (arith, a, p);
    }
