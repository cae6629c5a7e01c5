-- The lines that a transaction touches.
use Rattle.std.proofs.Common.{◌≡◌, ◌≤◌, ◌<◌, inl, inr, ℕ, zero, suc, ◌+◌, ◌-◌, ◌/◌, ◌%◌, Bool, true, false}
use Rattle.std.proofs.Common.{not, cond, ◌||◌, ◌==◌}
use Rattle.std.proofs.Common.{List, [], ◌∷◌, ◌++◌, length, refl, sym, ap, ◌∙◌, arith}
use Rattle.std.proofs.Common.{append-nil, append_assoc, length-append}
use Rattle.std.specs.Prelude.{filter}
use Rattle.std.specs.List.{range_with_len}
use Rattle.std.proofs.lemmas.List.Elements.{filter-append}
use Rattle.std.proofs.lemmas.List.Filters.{length-filter_both}
use Rattle.std.proofs.lemmas.List.Folds.{list_any-append}
use Rattle.std.proofs.lemmas.Bool.{cases_eq}
use Rattle.std.proofs.lemmas.Bool.Decides.{nat_tests}
use Rattle.sdr_base.specs.Cells.{lines_of, is_among, with_lines}
use Rattle.sdr_log.specs.Log.{names_line}
use Rattle.sdr_log.specs.declared.record.Record.{Record}
use Rattle.sdr_image.specs.Lines.{lines_named}

-- the lines that are named are those of the records
pub is_among-lines_named : (olds : List Record) (line : ℕ) → is_among (lines_named olds) line ≡ names_line olds line
is_among-lines_named [] line = refl
is_among-lines_named (r ∷ olds) line = ap (λ (b : Bool). r.line == line || b) (is_among-lines_named olds line)

-- a line that was touched already
pub with_lines-touched : (touched : List ℕ) (line : ℕ) → is_among touched line ≡ true → with_lines touched
    (line ∷ []) ≡ touched
unfolding with_lines
with_lines-touched touched line is =
    ap (λ (b : Bool). touched ++ cond (not b) (line ∷ []) []) is ∙ append-nil touched

-- a line that wasn't
pub with_lines-untouched : (touched : List ℕ) (line : ℕ) → is_among touched line ≡ false →
    with_lines touched (line ∷ []) ≡ touched ++ line ∷ []
unfolding with_lines
with_lines-untouched touched line is = ap (λ (b : Bool). touched ++ cond (not b) (line ∷ []) []) is

-- a line of a run of lines
is_among-range_with_len : (first n line : ℕ) → first ≤ line → line < first + n → is_among
    (range_with_len first n) line ≡ true
is_among-range_with_len first zero line ge lt = absurd (omega arith)
is_among-range_with_len first (suc n) line ge lt = elim (cases_eq first line) [
  | inl same ↦ grind (arith, nat_tests)
  | inr other ↦
      let rest = is_among-range_with_len (first + 1) n line (omega arith) (omega arith) in grind (arith, nat_tests)
]

-- the line of a byte that is written
pub is_among-lines_of : (place count i : ℕ) → place ≤ i → i < place + count → is_among (lines_of place count)
    (i / 64) ≡ true
unfolding lines_of
is_among-lines_of place count i ge lt =
    let n = (place + count - 1) / 64 + 1 - place / 64 in
    let some : (count == 0) ≡ false = grind (arith, nat_tests) in
    ap (λ (b : Bool). is_among (cond b [] (range_with_len (place / 64) n)) (i / 64)) some
    ∙ is_among-range_with_len (place / 64) n (i / 64) (omega arith) (omega arith)

-- the line of bytes that lie in one
pub lines_of-one : (place count : ℕ) → 0 < count → place % 64 + count ≤ 64 → lines_of place count ≡ (place / 64) ∷ []
unfolding lines_of
lines_of-one place count some one =
    let n = (place + count - 1) / 64 + 1 - place / 64 in
    let is : (count == 0) ≡ false = grind (arith, nat_tests) in
    let single : n ≡ 1 = omega arith in
    ap (λ (b : Bool). cond b [] (range_with_len (place / 64) n)) is ∙ ap (range_with_len (place / 64)) single

range_with_len-append : (first m n : ℕ) → range_with_len first (m + n) ≡ range_with_len first m ++ range_with_len
    (first + m) n
range_with_len-append first zero n =
    ap (λ (k : ℕ). range_with_len first k) (omega arith) ∙ ap (λ (k : ℕ). range_with_len k n) (omega arith)
range_with_len-append first (suc m) n =
    let one : suc m + n ≡ suc (m + n) = omega arith in
    ap (λ (k : ℕ). range_with_len first k) one
    ∙ ap (λ (l : List ℕ). first ∷ l) (range_with_len-append (first + 1) m n)
    ∙ ap (λ (k : ℕ). first ∷ range_with_len (first + 1) m ++ range_with_len k n) (omega arith)

-- a line behind a run of lines isn't among them, whichever are left out
behind_run : (keep : ℕ → Bool) (first n line : ℕ) → first + n ≤ line →
    is_among (filter keep (range_with_len first n)) line ≡ false
behind_run keep first zero line le = refl
behind_run keep first (suc n) line le =
    let rest = behind_run keep (first + 1) n line (omega arith) in
    elim (keep first) as (λ b. is_among (cond b (first ∷ filter keep (range_with_len (first + 1) n))
    (filter keep (range_with_len (first + 1) n))) line ≡ false) [
      | true ↦ let apart : (first == line) ≡ false = grind (arith, nat_tests) in grind (arith, nat_tests)
      | false ↦ rest
    ]

-- a run of lines, and the next one
pub with_lines-next : (touched : List ℕ) (first n : ℕ) →
    with_lines (with_lines touched (range_with_len first n)) ((first + n) ∷ []) ≡ with_lines touched
    (range_with_len first (n + 1))
unfolding with_lines
with_lines-next touched first n =
    let fresh : ℕ → Bool = λ line. not (is_among touched line) in
    let run = filter fresh (range_with_len first n) in
    let there : is_among (touched ++ run) (first + n) ≡ is_among touched (first + n) =
    list_any-append (λ other. other == first + n) touched run
    ∙ or_none (is_among touched (first + n)) (is_among run (first + n))
    (behind_run fresh first n (first + n) (omega arith)) in
    ap (λ (b : Bool). (touched ++ run) ++ cond (not b) ((first + n) ∷ []) []) there
    ∙ append_assoc touched run (cond (fresh (first + n)) ((first + n) ∷ []) [])
    ∙ ap (λ (l : List ℕ). touched ++ l) (sym (filter-append fresh (range_with_len first n) ((first + n) ∷ [])))
    ∙ ap (λ (l : List ℕ). touched ++ filter fresh l) (sym (range_with_len-append first n 1))
  where
    or_none : (a b : Bool) → b ≡ false → (a || b) ≡ a
    or_none true b is = refl
    or_none false b is = is

-- no line of a run
pub with_lines-none : (touched : List ℕ) (first : ℕ) → with_lines touched
    (range_with_len first (first - first)) ≡ touched
unfolding with_lines
with_lines-none touched first =
    let fresh : ℕ → Bool = λ line. not (is_among touched line) in
    let none : first - first ≡ 0 = omega arith in
    ap (λ (n : ℕ). touched ++ filter fresh (range_with_len first n)) none ∙ append-nil touched

-- with others there are as many at least
pub with_lines-least : (touched own : List ℕ) → length touched ≤ length (with_lines touched own)
unfolding with_lines
with_lines-least touched own =
    omega (arith, length-append touched (filter (λ line. not (is_among touched line)) own))

-- and at most so many more as there are others
pub with_lines-most : (touched own : List ℕ) → length (with_lines touched own) ≤ length touched + length own
unfolding with_lines
with_lines-most touched own =
    let fresh : ℕ → Bool = λ line. not (is_among touched line) in
    let both = length-filter_both fresh (λ line. not (fresh line)) (λ line. refl) own in
    omega (arith, length-append touched (filter fresh own), both)

-- fewer lines of a run
pub with_lines-fewer : (touched : List ℕ) (first m n : ℕ) → m ≤ n →
    length (with_lines touched (range_with_len first m)) ≤ length (with_lines touched (range_with_len first n))
unfolding with_lines
with_lines-fewer touched first m n le =
    let fresh : ℕ → Bool = λ line. not (is_among touched line) in
    let split : range_with_len first n ≡ range_with_len first m ++ range_with_len (first + m) (n - m) =
    ap (λ (k : ℕ). range_with_len first k) (omega arith) ∙ range_with_len-append first m (n - m) in
    let all = ap length (ap (filter fresh) split ∙ filter-append fresh (range_with_len first m)
    (range_with_len (first + m) (n - m))) in
    omega (
      arith,
      all,
      length-append touched (filter fresh (range_with_len first m)),
      length-append touched (filter fresh (range_with_len first n)),
      length-append (filter fresh (range_with_len first m)) (filter fresh (range_with_len (first + m) (n - m))),
    )

-- there is room for the next line of a run for all of which there is room
pub few_next : (touched : List ℕ) (first n end room : ℕ) → first + n < end →
    length (with_lines touched (range_with_len first (end - first))) ≤ room →
    is_among (with_lines touched (range_with_len first n)) (first + n) ≡ false →
    length (with_lines touched (range_with_len first n)) < room
few_next touched first n end room lt enough new =
    let so_far = with_lines touched (range_with_len first n) in
    let next = ap length (sym (with_lines-untouched so_far (first + n) new) ∙ with_lines-next touched first n) in
    omega (
      arith,
      next,
      enough,
      length-append so_far ((first + n) ∷ []),
      with_lines-fewer touched first (n + 1)
          (end - first) (omega arith),
    )

-- each line of a run is among those touched with it
pub is_among-with_lines : (touched own : List ℕ) (line : ℕ) → is_among own line ≡ true → is_among
    (with_lines touched own) line ≡ true
unfolding with_lines
is_among-with_lines touched own line is =
    let fresh : ℕ → Bool = λ other. not (is_among touched other) in
    list_any-append (λ other. other == line) touched (filter fresh own) ∙ either (is_among touched line) refl
  where
    left : (keep : ℕ → Bool) (own : List ℕ) → keep line ≡ true → is_among own line ≡ true → is_among
        (filter keep own) line ≡ true
    left keep [] kept is = is
    left keep (x ∷ xs) kept is = elim (cases_eq x line) [
      | inl same ↦
          let here : keep x ≡ true = ap keep same ∙ kept in
          ap (λ (b : Bool). is_among (cond b (x ∷ filter keep xs) (filter keep xs)) line) here ∙ grind
          (arith, nat_tests)
      | inr other ↦
          let rest = left keep xs kept (grind (arith, nat_tests)) in
          elim (keep x) as (λ b. is_among (cond b (x ∷ filter keep xs) (filter keep xs)) line ≡ true) [
            | true ↦ grind (arith, nat_tests)
            | false ↦ rest
          ]
    ]

    either : (b : Bool) → is_among touched line ≡ b →
        (is_among touched line || is_among (filter (λ other. not (is_among touched other)) own) line) ≡ true
    either true e = ap (λ (a : Bool). a || is_among (filter (λ other. not (is_among touched other)) own) line) e
    either false e =
        ap (λ (a : Bool). a || is_among (filter (λ other. not (is_among touched other)) own) line) e
        ∙ left (λ other. not (is_among touched other)) own (ap not e) is
