-- Records of lines in another order.
use Rattle.std.proofs.Common.{◌≡◌, ◌≤◌, ◌<◌, inl, inr, ℕ, zero, suc, ◌*◌, Bool, true, false, ◌||◌, ◌==◌, cond}
use Rattle.std.proofs.Common.{List, [], ◌∷◌, refl, sym, ap, ◌∙◌, arith}
use Rattle.std.specs.Prelude.{IsPermutation}
use Rattle.std.specs.List.{All, sum_by}
use Rattle.std.proofs.lemmas.Bool.{cases_eq}
use Rattle.std.proofs.lemmas.Bool.Decides.{nat_tests}
use Rattle.std.proofs.lemmas.List.Sorted.{All-permutation, IsPermutation-map, list_any-IsPermutation}
use Rattle.std.proofs.lemmas.List.Sorted.{sum_by-IsPermutation}
use Rattle.std.proofs.lemmas.List.Sums.{sum_by-cons}
use Rattle.sdr_base.specs.Parts.{part}
use Rattle.sdr_log.specs.Calls.{HoldLines}
use Rattle.sdr_log.specs.Log.{are_good, names_line}
use Rattle.sdr_log.specs.declared.record.Record.{Record}
use Rattle.sdr_log.proofs.RecordsLemmas.{are_good-cons}
use Rattle.sdr_image.specs.Lines.{lines_named}
use Rattle.sdr_image.proofs.TouchedLemmas.{is_among-lines_named}

-- Records in another order.

-- the record has its line's bytes
abbrev Holds : List ℕ → Record → Type 0
Holds heap r = r.bytes ≡ part (64 * r.line) 64 heap

pub HoldLines-permutation : (heap : List ℕ) (a b : List Record) → IsPermutation a b → HoldLines heap a → HoldLines heap b
HoldLines-permutation heap a b p own = back b (All-permutation (Holds heap) a b p (forth a own))
  where
    forth : (rs : List Record) → HoldLines heap rs → All (Holds heap) rs
    forth [] own k d lt = absurd (omega arith)
    forth (r ∷ rs) own zero d lt = own.0
    forth (r ∷ rs) own (suc k) d lt = forth rs own.1 k d (omega arith)

    back : (rs : List Record) → All (Holds heap) rs → HoldLines heap rs
    back [] all = tt
    back (r ∷ rs) all = (all 0 r (omega arith), back rs (λ k d lt. all (suc k) d (omega arith)))

pub names_line-permutation : (a b : List Record) (line : ℕ) → IsPermutation a b → names_line b line ≡ names_line a line
names_line-permutation a b line p =
    sym (is_among-lines_named b line)
    ∙ sym (list_any-IsPermutation (λ other. other == line) (lines_named a) (lines_named b)
    (IsPermutation-map (λ (r : Record). r.line) a b p))
    ∙ is_among-lines_named a line

-- how many times a record names the line: once or never
abbrev once : Bool → ℕ
once named = cond named 1 0

abbrev times : ℕ → Record → ℕ
times line r = once (r.line == line)

times-none : (rs : List Record) (line : ℕ) → names_line rs line ≡ false → sum_by (times line) rs ≡ 0
times-none [] line other = refl
times-none (r ∷ rs) line other =
    let first : (r.line == line) ≡ false = grind (arith, nat_tests) in
    let rest = times-none rs line (grind (arith, nat_tests)) in
    omega (arith, sum_by-cons (times line) r rs, ap once first, rest)

times-some : (rs : List Record) (line : ℕ) → names_line rs line ≡ true → 1 ≤ sum_by (times line) rs
times-some [] line is = absurd cc
times-some (r ∷ rs) line is = by (r.line == line) refl is (times-some rs line)
  where
    by : (b : Bool) → (r.line == line) ≡ b → (b || names_line rs line) ≡ true →
        (names_line rs line ≡ true → 1 ≤ sum_by (times line) rs) → 1 ≤ sum_by (times line) (r ∷ rs)
    by true same is rest = omega (arith, sum_by-cons (times line) r rs, ap once same)
    by false same is rest = omega (arith, sum_by-cons (times line) r rs, rest is)

times-good : (n : ℕ) (rs : List Record) (line : ℕ) → are_good n rs ≡ true → sum_by (times line) rs ≤ 1
times-good n [] line good = omega arith
times-good n (r ∷ rs) line good =
    let g = are_good-cons n r rs good in by (r.line == line) refl g.1 (times-good n rs line g.2)
  where
    by : (b : Bool) → (r.line == line) ≡ b → names_line rs r.line ≡ false → sum_by (times line) rs ≤ 1 →
        sum_by (times line) (r ∷ rs) ≤ 1
    by true same other le =
        let at : r.line ≡ line = grind (arith, nat_tests) in
        let none = times-none rs line (ap (names_line rs) (sym at) ∙ other) in
        omega (arith, sum_by-cons (times line) r rs, ap once same, none)
    by false same other le = omega (arith, sum_by-cons (times line) r rs, ap once same, le)

below-good : (n : ℕ) (rs : List Record) (line : ℕ) → are_good n rs ≡ true → names_line rs line ≡ true → line < n
below-good n [] line good is = absurd cc
below-good n (r ∷ rs) line good is =
    let g = are_good-cons n r rs good in
    elim (cases_eq r.line line) [
      | inl same ↦ omega (arith, g.0, same)
      | inr other ↦ below-good n rs line g.2 (grind (arith, nat_tests))
    ]

good-times : (n : ℕ) (rs : List Record) → ((line : ℕ) → names_line rs line ≡ true → line < n) →
    ((line : ℕ) → sum_by (times line) rs ≤ 1) → are_good n rs ≡ true
good-times n [] below few = refl
good-times n (r ∷ rs) below few =
    let first : r.line < n = below r.line (grind (arith, nat_tests)) in
    let rest = good-times n rs (λ line is. below line (or_true (r.line == line) is))
    (λ line. omega (arith, few line, sum_by-cons (times line) r rs)) in
    let new = apart (names_line rs r.line) refl in
    grind (arith, nat_tests, first, rest, new)
  where
    or_true : (b : Bool) {c : Bool} → c ≡ true → (b || c) ≡ true
    or_true b e = grind arith

    own : (k : ℕ) → (k == k) ≡ true
    own k = grind (arith, nat_tests)

    apart : (b : Bool) → names_line rs r.line ≡ b → names_line rs r.line ≡ false
    apart false is = is
    apart true is = absurd (omega (
      arith,
      few r.line,
      sum_by-cons (times r.line) r rs,
      ap once (own r.line),
      times-some rs r.line is,
    ))

pub are_good-permutation : (n : ℕ) (a b : List Record) → IsPermutation a b → are_good n a ≡ true → are_good n b ≡ true
are_good-permutation n a b p good =
    good-times n b (λ line is. below-good n a line good (sym (names_line-permutation a b line p) ∙ is))
    (λ line. omega (arith, sum_by-IsPermutation (times line) a b p, times-good n a line good))
