-- What lies in a part that begins in the first extent.
use Rattle.std.proofs.Common.{◌≡◌, ◌∙◌, ◌+◌, ◌-◌, ◌≤◌, ◌<◌, ℕ, List, [], ◌∷◌, ◌++◌, min, sym, ap, arith, append-nil}
use Rattle.std.specs.List.{AllByRecursion}
use Rattle.sdr_base.specs.ZcoObjects.{ExtentRow}
use Rattle.zco_strip.proofs.CutLaws.{empty_part, last_part, length-cons, some_first, whole_cut, within_part}
use Rattle.zco_strip.specs.Cuts.{cut, cut_all, left_out}
use Rattle.zco_obj.specs.Kept.{extents_length}

-- an extent with its first bytes alone
pub first_cut : (to : ℕ) (e : ExtentRow) → to < e.length → cut 0 to e ≡ record e { length = to }
first_cut to e lt =
    let offset : e.offset + min 0 e.length ≡ e.offset = omega arith in
    let length : min to e.length - min 0 e.length ≡ to = omega (arith, lt) in
    λ i. record { addr = e.addr; source = e.source; offset = offset i; length = length i }

module _ (a to : ℕ) (e : ExtentRow) (lt : a < e.length) where
  -- it ends where an extent does
  pub ends_between : (es out : List ExtentRow) → AllByRecursion (λ x. 1 ≤ x.length) es → extents_length (e ∷ es) ≡ to →
      (cut_all a to (e ∷ (es ++ out)) ≡ cut a to e ∷ es) × (left_out a to (e ∷ (es ++ out)) ≡ out)
  ends_between es out some is =
      let sum = length-cons e es in
      let first = some_first a to e (es ++ out) (omega (arith, lt, is, sum)) in
      let none : a - e.length ≡ 0 = omega (arith, lt) in
      let rest = within_part (to - e.length) es out some (omega (arith, is, sum)) in
      let end : to - e.length - extents_length es ≡ 0 = omega (arith, is, sum) in
      let empty = empty_part 0 out in (
        first.0 ∙ (λ i. cut a to e ∷ cut_all (none i) (to - e.length) (es ++ out))
            ∙ ap (λ (l : List ExtentRow). cut a to e ∷ l)
            (rest.0 ∙ (λ i. es ++ cut_all 0 (end i) out) ∙ ap (λ (l : List ExtentRow). es ++ l) empty.0 ∙ append-nil es),
        first.1 ∙ (λ i. left_out (none i) (to - e.length) (es ++ out)) ∙ rest.1 ∙ (λ i. left_out 0 (end i) out) ∙ empty.1,
      )

  -- it ends in another extent
  pub ends_in : (es : List ExtentRow) (last : ExtentRow) (out : List ExtentRow) (b : ℕ) → AllByRecursion (λ x. 1 ≤ x.length) es →
      1 ≤ b → b < last.length → extents_length (e ∷ es) + b ≡ to →
      (cut_all a to (e ∷ (es ++ (last ∷ out))) ≡ cut a to e ∷ (es ++ (cut 0 b last ∷ [])))
      × (left_out a to (e ∷ (es ++ (last ∷ out))) ≡ out)
  ends_in es last out b some one below is =
      let sum = length-cons e es in
      let first = some_first a to e (es ++ (last ∷ out)) (omega (arith, lt, is, sum)) in
      let none : a - e.length ≡ 0 = omega (arith, lt) in
      let rest = within_part (to - e.length) es (last ∷ out) some (omega (arith, is, sum)) in
      let end : to - e.length - extents_length es ≡ b = omega (arith, is, sum) in
      let ends = last_part b last out one below in (
        first.0 ∙ (λ i. cut a to e ∷ cut_all (none i) (to - e.length) (es ++ (last ∷ out)))
            ∙ ap (λ (l : List ExtentRow). cut a to e ∷ l)
            (rest.0 ∙ (λ i. es ++ cut_all 0 (end i) (last ∷ out))
            ∙ ap (λ (l : List ExtentRow). es ++ l) (ends.0 ∙ (λ i. sym (first_cut b last below) i ∷ []))),
        first.1 ∙ (λ i. left_out (none i) (to - e.length) (es ++ (last ∷ out))) ∙ rest.1
            ∙ (λ i. left_out 0 (end i) (last ∷ out)) ∙ ends.1,
      )

  -- it ends in the same one
  pub ends_within : (out : List ExtentRow) → a < to → to < e.length →
      (cut_all a to (e ∷ out) ≡ cut a to e ∷ []) × (left_out a to (e ∷ out) ≡ out)
  ends_within out some below =
      let first = some_first a to e out (omega (arith, some, below)) in
      let none : a - e.length ≡ 0 = omega (arith, lt) in
      let end : to - e.length ≡ 0 = omega (arith, below) in
      let empty = empty_part 0 out in (
        first.0 ∙ (λ i. cut a to e ∷ cut_all (none i) (end i) out) ∙ ap (λ (l : List ExtentRow). cut a to e ∷ l) empty.0,
        first.1 ∙ (λ i. left_out (none i) (end i) out) ∙ empty.1,
      )

  -- which is cut no more then
  pub cut_again : a < to → to < e.length → cut 0 to (cut a to e) ≡ cut a to e
  cut_again some below = whole_cut to (cut a to e) (omega arith)
