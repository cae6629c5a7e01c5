-- Numbers behind the last `=` of a word.
use Rattle.std.proofs.Common.{◌≡◌, ℕ, zero, suc, ◌+◌, ◌-◌, ◌%◌, ◌<◌, ◌≤◌, ◌^◌, ◌⊎◌, inl, inr, List, [], ◌∷◌, ◌++◌}
use Rattle.std.proofs.Common.{length, drop, get_or, refl, sym, ◌∙◌, ap, subst, arith, append_assoc, length-append}
use Rattle.std.proofs.Common.{Some, None, Result}
use Rattle.std.specs.Prelude.{codes, decimal}
use Rattle.std.specs.Result.{result_ok}
use Rattle.std.specs.Str.Parse.{ParsesUnsigned}
use Rattle.std.specs.Str.Pattern.{RFindsText, SplitsAroundMatch}
use Rattle.std.proofs.lemmas.Bool.{cases_lt}
use Rattle.std.proofs.lemmas.Fmt.{parse-decimal, decimal_by_steps}
use Rattle.std.proofs.lemmas.List.{drop_at, take-append-drop, get_or-drop, get_or_append_left, get_or-append_right}
use Rattle.sdr_system.specs.Place.{NamesNoSize, NamesSize}

-- digits that are printed are parsed
pub parsed-printed : {E : Type 0} (digits : List ℕ) (r : Result ℕ E) (n : ℕ) → ParsesUnsigned 64 10 digits r →
    n < 2 ^ 64 → digits ≡ decimal n → result_ok r ≡ Some n
parsed-printed digits r n parsed fits is = ap result_ok (parse-decimal 64 n digits r fits fits is parsed)

-- one byte below a bound, at any place
one_below : (b i : ℕ) → b < 58 → get_or (b ∷ []) i 0 < 58
one_below b zero lt = lt
one_below b (suc i) lt = omega arith

-- digits come before `=`
digits_below : (n : ℕ) → n < 2 ^ 64 → (i : ℕ) → get_or (decimal n) i 0 < 58
digits_below n fits =
    decimal_by_steps (λ (m : ℕ) (ds : List ℕ). (i : ℕ) → get_or ds i 0 < 58)
    (λ m lt i. one_below (48 + m) i (omega arith)) more n fits
  where
    more : (m : ℕ) (ds : List ℕ) → 10 ≤ m → ((i : ℕ) → get_or ds i 0 < 58) → (i : ℕ) →
        get_or (ds ++ (48 + m % 10) ∷ []) i 0 < 58
    more m ds ten below i = elim (cases_lt i (length ds)) [
      | inl lt ↦ subst (λ (b : ℕ). b < 58) (sym (get_or_append_left ds ((48 + m % 10) ∷ []) 0 i lt)) (below i)
      | inr ge ↦ subst (λ (b : ℕ). b < 58)
          (sym (get_or-append_right ds ((48 + m % 10) ∷ []) (length ds) i 0 refl ge))
          (one_below (48 + m % 10) (i - length ds) (omega arith))
    ]

-- A word that is a path, `=` and a number.
module _ (word path : List ℕ) (bytes : ℕ) (names : NamesSize word path bytes) where
  behind_path : drop (length path) word ≡ codes "=" ++ decimal bytes
  behind_path =
      ap (λ (l : List ℕ). drop (length path) l) (names.spelled ∙ append_assoc path (codes "=") (decimal bytes))
      ∙ drop_at path (codes "=" ++ decimal bytes) (length path) refl

  path_inside : length path ≤ length word
  path_inside = omega (
    arith,
    ap length (names.spelled ∙ append_assoc path (codes "=") (decimal bytes)),
    length-append path (codes "=" ++ decimal bytes),
  )

-- a word without `=` names no size
pub no_size : (word : List ℕ) → RFindsText (codes "=") word None → NamesNoSize word
no_size word lacks path bytes names =
    lacks (length path) (path_inside word path bytes names) (decimal bytes) (behind_path word path bytes names)

-- the two parts stand around the `=`
pub spelled : (word front back : List ℕ) → SplitsAroundMatch (RFindsText (codes "=")) word front back →
    word ≡ front ++ codes "=" ++ back
spelled word front back (i, j, found, front_is, back_is, order, front_long, back_long) =
    sym (take-append-drop i word)
    ∙ ap (λ (l : List ℕ). l ++ drop i word) (sym front_is)
    ∙ ap (λ (l : List ℕ). front ++ l) (found.1.split ∙ ap (λ (l : List ℕ). codes "=" ++ l) (sym back_is))
    ∙ sym (append_assoc front (codes "=") back)

-- a number behind some `=` stands behind the last
pub behind_last : (word front back : List ℕ) → SplitsAroundMatch (RFindsText (codes "=")) word front back →
    (path : List ℕ) (bytes : ℕ) → NamesSize word path bytes → back ≡ decimal bytes
behind_last word front back (i, j, found, front_is, back_is, order, front_long, back_long) path bytes names =
    at (cases_lt i (length path)) (cases_lt (length path) i)
  where
    behind : drop (length path) word ≡ 61 ∷ decimal bytes
    behind = behind_path word path bytes names

    at : (i < length path) ⊎ (length path ≤ i) → (length path < i) ⊎ (i ≤ length path) → back ≡ decimal bytes
    at (inl before) other = absurd (found.0 (length path) before (path_inside word path bytes names) (decimal bytes) behind)
    at (inr ge) (inr le) =
        let same : i ≡ length path = omega arith in
        let here : drop i word ≡ 61 ∷ decimal bytes = ap (λ (k : ℕ). drop k word) same ∙ behind in
        let split = found.1.split in
        let both : 61 ∷ drop j word ≡ 61 ∷ decimal bytes = sym split ∙ here in
        back_is ∙ ap (λ (l : List ℕ). drop 1 l) both
    at (inr ge) (inl lt) =
        let k = i - length path - 1 in
        let equals : get_or word i 0 ≡ 61 =
        ap (λ (n : ℕ). get_or word n 0) (omega arith)
        ∙ sym (get_or-drop i word 0 0)
        ∙ ap (λ (l : List ℕ). get_or l 0 0) found.1.split
        in
        let digit : get_or word i 0 ≡ get_or (decimal bytes) k 0 =
        ap (λ (n : ℕ). get_or word n 0) (omega arith)
        ∙ sym (get_or-drop (length path) word (suc k) 0)
        ∙ ap (λ (l : List ℕ). get_or l (suc k) 0) behind
        in
        absurd (omega (arith, equals, digit, digits_below bytes names.fits k))
