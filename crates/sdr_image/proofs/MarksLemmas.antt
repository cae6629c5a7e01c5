-- Marks of the lines of a heap region.
use Rattle.std.proofs.Common.{◌≡◌, ◌≤◌, ◌<◌, ◌∙◌, inl, inr, ℕ, zero, suc, ◌+◌, ◌-◌, ◌==◌, Bool, true, false, not, cond, List, [], ◌∷◌, ◌++◌}
use Rattle.std.proofs.Common.{length, take, drop, get_or, refl, sym, ap, subst, arith, true≢false}
use Rattle.std.specs.Prelude.{filter, map, replicate, slice_set, IsPermutation}
use Rattle.std.specs.List.{range_with_len}
use Rattle.std.proofs.lemmas.Bool.{cases_eq}
use Rattle.std.proofs.lemmas.Bool.Decides.{nat_tests}
use Rattle.std.proofs.lemmas.Grind.{common_steps}
use Rattle.std.proofs.lemmas.List.{drop_more, get_or-map}
use Rattle.std.proofs.lemmas.List.Sorted.{IsPermutation-cons, IsPermutation-to_front}
use Rattle.sdr_base.specs.Cells.{is_among}
use Rattle.sdr_log.specs.Log.{names_line}
use Rattle.sdr_log.specs.declared.record.Record.{Record}
use Rattle.sdr_image.specs.Marks.{is_clean, stand_at, stand_of, touched_from, touched_in}
use Rattle.sdr_image.specs.declared.marks.Stand.{Stand}
use Rattle.sdr_image.specs.declared.marks.Stand.TheVariants.{Clean, Buffered, Logged}

-- the first of the lines is below a bound of all, and so are the others
pub below_all : (n : ℕ) (lines after : List Record) (r : Record) → lines ≡ r ∷ after →
    ((line : ℕ) → names_line lines line ≡ true → line < n) →
    (r.line < n) × ((line : ℕ) → names_line after line ≡ true → line < n)
below_all n lines after r is below =
    let below' = subst (λ (l : List Record). (line : ℕ) → names_line l line ≡ true → line < n) is below in
    (below' r.line (grind (arith, nat_tests)), λ line named. below' line (grind (arith, nat_tests)))

-- one line more is put down
pub mark_one : (marks : List Stand) (stand : Stand) (r : Record) (after : List Record) (line : ℕ) →
    r.line < length marks →
    cond (names_line after line) stand (stand_at (slice_set marks r.line stand) line)
    ≡ cond (names_line (r ∷ after) line) stand (stand_at marks line)
mark_one marks stand r after line lt = elim (cases_eq r.line line) [
  | inl same ↦ grind (arith, nat_tests, common_steps)
  | inr other ↦ grind (arith, nat_tests, common_steps)
]

-- where the same lines are clean, the same are touched
pub touched-same : (first : ℕ) (a b : List Stand) → length a ≡ length b →
    ((line : ℕ) → is_clean (stand_at a line) ≡ is_clean (stand_at b line)) → touched_from first a ≡ touched_from first b
unfolding touched_from
touched-same first [] [] long same = refl
touched-same first [] (s ∷ b) long same = absurd (omega (arith, long))
touched-same first (s ∷ a) [] long same = absurd (omega (arith, long))
touched-same first (s ∷ a) (t ∷ b) long same =
    let rest = touched-same (suc first) a b (omega (arith, long)) (λ line. same (suc line)) in
    (λ i. cond (same 0 i) (rest i) (first ∷ rest i))

-- a line more is touched
pub touched-set : (first : ℕ) (marks : List Stand) (line : ℕ) (stand : Stand) → line < length marks →
    is_clean (stand_at marks line) ≡ true → is_clean stand ≡ false →
    IsPermutation (touched_from first marks ++ (first + line) ∷ []) (touched_from first (slice_set marks line stand))
unfolding touched_from
touched-set first [] line stand lt clean new = absurd (omega (arith, lt))
touched-set first (s ∷ marks) zero stand lt clean new =
    let rest = touched_from (suc first) marks in
    let at : first ≡ first + 0 = omega arith in
    subst (λ (b : Bool). IsPermutation (touched_from first (s ∷ marks) ++ (first + 0) ∷ []) (cond b rest (first ∷ rest)))
    (sym new)
    (subst (λ (b : Bool). IsPermutation (cond b rest (first ∷ rest) ++ (first + 0) ∷ []) (first ∷ rest)) (sym clean)
    (subst (λ (k : ℕ). IsPermutation (rest ++ k ∷ []) (first ∷ rest)) at (IsPermutation-to_front rest first)))
touched-set first (s ∷ marks) (suc line) stand lt clean new =
    let at : suc first + line ≡ first + suc line = omega arith in
    let more = touched-set (suc first) marks line stand (omega (arith, lt)) clean new in
    let rest = touched_from (suc first) marks in
    let rest' = touched_from (suc first) (slice_set marks line stand) in
    let more' : IsPermutation (rest ++ (first + suc line) ∷ []) rest' =
    subst (λ (k : ℕ). IsPermutation (rest ++ k ∷ []) rest') at more in
    elim (is_clean s) as (λ b. IsPermutation (cond b rest (first ∷ rest) ++ (first + suc line) ∷ [])
    (cond b rest' (first ∷ rest'))) [
      | true ↦ more'
      | false ↦ IsPermutation-cons first (rest ++ (first + suc line) ∷ []) rest' more'
    ]

-- a line is among those touched where it isn't clean
pub is_among-touched : (first : ℕ) (marks : List Stand) (line : ℕ) →
    is_among (touched_from first marks) (first + line) ≡ not (is_clean (stand_at marks line))
unfolding touched_from
is_among-touched first [] line = refl
is_among-touched first (s ∷ marks) zero =
    let behind = none_before (suc first) marks first (omega arith) in
    let here : first + 0 ≡ first = omega arith in
    elim (is_clean s) as (λ b. is_among (cond b (touched_from (suc first) marks) (first ∷ touched_from (suc first) marks))
    (first + 0) ≡ not b) [
      | true ↦ ap (is_among (touched_from (suc first) marks)) here ∙ behind
      | false ↦ let same : (first == first + 0) ≡ true = grind (arith, nat_tests) in grind (arith, nat_tests, same)
    ]
  where
    none_before : (first : ℕ) (marks : List Stand) (line : ℕ) → line < first →
        is_among (touched_from first marks) line ≡ false
    none_before first [] line lt = refl
    none_before first (s ∷ marks) line lt =
        let rest = none_before (suc first) marks line (omega (arith, lt)) in
        elim (is_clean s) as (λ b. is_among (cond b (touched_from (suc first) marks)
        (first ∷ touched_from (suc first) marks)) line ≡ false) [
          | true ↦ rest
          | false ↦ let other : (first == line) ≡ false = grind (arith, nat_tests, lt) in grind (arith, nat_tests, other, rest)
        ]
is_among-touched first (s ∷ marks) (suc line) =
    let rest = is_among-touched (suc first) marks line in
    let at : suc first + line ≡ first + suc line = omega arith in
    let here = subst (λ (k : ℕ). is_among (touched_from (suc first) marks) k ≡ not (is_clean (stand_at marks line))) at rest in
    elim (is_clean s) as (λ b. is_among (cond b (touched_from (suc first) marks) (first ∷ touched_from (suc first) marks))
    (first + suc line) ≡ not (is_clean (stand_at marks line))) [
      | true ↦ here
      | false ↦
          let other : (first == first + suc line) ≡ false = grind (arith, nat_tests) in
          grind (arith, nat_tests, other, here)
    ]

-- no more are touched than there are
pub length-touched : (first : ℕ) (marks : List Stand) → length (touched_from first marks) ≤ length marks
unfolding touched_from
length-touched first [] = omega arith
length-touched first (s ∷ marks) =
    let more = length-touched (suc first) marks in
    elim (is_clean s) as (λ b. length (cond b (touched_from (suc first) marks) (first ∷ touched_from (suc first) marks))
    ≤ length (s ∷ marks)) [ true ↦ omega (arith, more) | false ↦ omega (arith, more) ]

-- where all are clean, none is touched
pub touched-clean : (first n : ℕ) → touched_from first (replicate n Clean) ≡ []
unfolding touched_from
touched-clean first zero = refl
touched-clean first (suc n) = touched-clean (suc first) n

-- and each of them is
pub clean-replicate : (n line : ℕ) → stand_at (replicate n Clean) line ≡ Clean
clean-replicate zero line = refl
clean-replicate (suc n) zero = refl
clean-replicate (suc n) (suc line) = clean-replicate n line

-- where each is, they all are
pub replicate-clean : (marks : List Stand) → ((line : ℕ) → stand_at marks line ≡ Clean) →
    marks ≡ replicate (length marks) Clean
replicate-clean [] each = refl
replicate-clean (s ∷ marks) each =
    let rest = replicate-clean marks (λ line. each (suc line)) in
    (λ i. each 0 i ∷ rest i)

-- a line that isn't clean is named, and each that is named is put down as clean
pub put_clean : (named : Bool) (stand : Stand) → (is_clean stand ≡ false → named ≡ true) → cond named Clean stand ≡ Clean
put_clean true stand each = refl
put_clean false Clean each = refl
put_clean false (Buffered place) each = absurd (true≢false (sym (each refl)))
put_clean false Logged each = absurd (true≢false (sym (each refl)))

-- a byte and where its line stands
clean_byte : (byte : ℕ) → is_clean (stand_of byte) ≡ (byte == 0)
unfolding stand_of
clean_byte byte = elim (byte == 0) as (λ b. is_clean (cond b Clean (cond (byte == 65) Logged (Buffered (byte - 1)))) ≡ b) [
  | true ↦ refl
  | false ↦ elim (byte == 65) as (λ b. is_clean (cond b Logged (Buffered (byte - 1))) ≡ false) [ true ↦ refl | false ↦ refl ]
]

pub stand_byte : (bytes : List ℕ) (line : ℕ) → line < length bytes →
    stand_at (map stand_of bytes) line ≡ stand_of (get_or bytes line 0)
stand_byte bytes line lt = get_or-map stand_of bytes line 0 Clean lt

-- the clean lines of a run, counted
pub clean_lines : (bytes : List ℕ) (first n : ℕ) → first + n ≤ length bytes →
    length (filter (λ byte. byte == 0) (take n (drop first bytes)))
    ≡ length (filter (λ line. is_clean (stand_at (map stand_of bytes) line)) (range_with_len first n))
clean_lines bytes first zero le = refl
clean_lines bytes first (suc n) le =
    let byte = get_or bytes first 0 in
    let after = filter (λ b. b == 0) (take n (drop (first + 1) bytes)) in
    let is : (byte == 0) ≡ is_clean (stand_at (map stand_of bytes) first) =
    sym (ap is_clean (stand_byte bytes first (omega (arith, le))) ∙ clean_byte byte) in
    ap (λ (l : List ℕ). length (filter (λ b. b == 0) (take (suc n) l))) (drop_more bytes first 0 (omega (arith, le)))
    ∙ sym (counted (byte == 0) byte after)
    ∙ ap (λ (k : ℕ). cond (byte == 0) 1 0 + k) (clean_lines bytes (first + 1) n (omega (arith, le)))
    ∙ ap (λ (b : Bool). cond b 1 0 + length rest) is
    ∙ counted (is_clean (stand_at (map stand_of bytes) first)) first rest
  where
    rest : List ℕ
    rest = filter (λ line. is_clean (stand_at (map stand_of bytes) line)) (range_with_len (first + 1) n)

    counted : (b : Bool) (x : ℕ) (xs : List ℕ) → cond b 1 0 + length xs ≡ length (cond b (x ∷ xs) xs)
    counted b x xs = elim b as (λ v. cond v 1 0 + length xs ≡ length (cond v (x ∷ xs) xs))
        [ true ↦ omega arith | false ↦ omega arith ]

-- the bytes of clean lines
pub clean_bytes : (n : ℕ) → map stand_of (replicate n 0) ≡ replicate n Clean
unfolding stand_of
clean_bytes zero = refl
clean_bytes (suc n) = ap (λ (l : List Stand). Clean ∷ l) (clean_bytes n)

pub is_among-line : (marks : List Stand) (line : ℕ) →
    is_among (touched_in marks) line ≡ not (is_clean (stand_at marks line))
is_among-line marks line =
    let at : line ≡ 0 + line = omega arith in ap (is_among (touched_in marks)) at ∙ is_among-touched 0 marks line
