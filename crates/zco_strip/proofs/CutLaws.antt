-- Extents of a chain before, in and behind a part of their bytes.
use Rattle.std.proofs.Common.{◌≡◌, ◌∙◌, ◌+◌, ◌-◌, ◌≤◌, ◌<◌, ◌==◌, ℕ, List, [], ◌∷◌, ◌++◌, Bool, true, false, min, refl, ap, arith}
use Rattle.std.proofs.lemmas.Bool.{eq-eqb, ne_eqb}
use Rattle.std.proofs.lemmas.List.Sums.{sum_by-cons}
use Rattle.std.specs.List.{AllByRecursion}
use Rattle.std.specs.Prelude.{if◌then◌else◌}
use Rattle.sdr_base.specs.ZcoObjects.{ExtentRow}
use Rattle.zco_strip.specs.Cuts.{cut, cut_all, left_out}
use Rattle.zco_obj.specs.Kept.{extents_length}

-- the bytes of extents
pub length-cons : (e : ExtentRow) (es : List ExtentRow) → extents_length (e ∷ es) ≡ e.length + extents_length es
length-cons e es = sum_by-cons (λ (x : ExtentRow). x.length) e es

-- the first one has no byte in the part, or has some
none_first : (from to : ℕ) (e : ExtentRow) (es : List ExtentRow) → (cut from to e).length ≡ 0 →
    (cut_all from to (e ∷ es) ≡ cut_all (from - e.length) (to - e.length) es)
    × (left_out from to (e ∷ es) ≡ e ∷ left_out (from - e.length) (to - e.length) es)
none_first from to e es none =
    let test : ((cut from to e).length == 0) ≡ true = eq-eqb (cut from to e).length 0 none in
    let rest = cut_all (from - e.length) (to - e.length) es in
    let out = left_out (from - e.length) (to - e.length) es in (
      ap (λ (b : Bool). if b then rest else cut from to e ∷ rest) test,
      ap (λ (b : Bool). if b then e ∷ out else out) test,
    )

pub some_first : (from to : ℕ) (e : ExtentRow) (es : List ExtentRow) → 1 ≤ (cut from to e).length →
    (cut_all from to (e ∷ es) ≡ cut from to e ∷ cut_all (from - e.length) (to - e.length) es)
    × (left_out from to (e ∷ es) ≡ left_out (from - e.length) (to - e.length) es)
some_first from to e es some =
    let test : ((cut from to e).length == 0) ≡ false = ne_eqb (cut from to e).length 0 (λ zero. omega (arith, zero, some)) in
    let rest = cut_all (from - e.length) (to - e.length) es in
    let out = left_out (from - e.length) (to - e.length) es in (
      ap (λ (b : Bool). if b then rest else cut from to e ∷ rest) test,
      ap (λ (b : Bool). if b then e ∷ out else out) test,
    )

-- those before the part are outside it
pub before_part : (from to : ℕ) (passed left : List ExtentRow) → extents_length passed ≤ from →
    (cut_all from to (passed ++ left) ≡ cut_all (from - extents_length passed) (to - extents_length passed) left)
    × (left_out from to (passed ++ left) ≡ passed ++ left_out (from - extents_length passed) (to - extents_length passed) left)
before_part from to [] left le = (
  (λ i. cut_all (minus_none from i) (minus_none to i) left),
  (λ i. left_out (minus_none from i) (minus_none to i) left),
)
  where
    minus_none : (n : ℕ) → n ≡ n - 0
    minus_none n = omega arith
before_part from to (e ∷ es) left le =
    let sum = length-cons e es in
    let none : (cut from to e).length ≡ 0 = omega (arith, sum, le) in
    let first = none_first from to e (es ++ left) none in
    let rest = before_part (from - e.length) (to - e.length) es left (omega (arith, sum, le)) in
    let less_from : from - e.length - extents_length es ≡ from - extents_length (e ∷ es) = omega (arith, sum) in
    let less_to : to - e.length - extents_length es ≡ to - extents_length (e ∷ es) = omega (arith, sum) in (
      first.0 ∙ rest.0 ∙ (λ i. cut_all (less_from i) (less_to i) left),
      first.1 ∙ ap (λ (l : List ExtentRow). e ∷ l) (rest.1 ∙ (λ i. es ++ left_out (less_from i) (less_to i) left)),
    )

-- all are outside an empty part
pub empty_part : (place : ℕ) (es : List ExtentRow) → (cut_all place place es ≡ []) × (left_out place place es ≡ es)
empty_part place [] = (refl, refl)
empty_part place (e ∷ es) =
    let first = none_first place place e es (omega arith) in
    let rest = empty_part (place - e.length) es in
    (first.0 ∙ rest.0, first.1 ∙ ap (λ (l : List ExtentRow). e ∷ l) rest.1)

-- an extent with all of its bytes
pub whole_cut : (to : ℕ) (e : ExtentRow) → e.length ≤ to → cut 0 to e ≡ e
whole_cut to e le =
    let offset : e.offset + min 0 e.length ≡ e.offset = omega arith in
    let length : min to e.length - min 0 e.length ≡ e.length = omega (arith, le) in
    λ i. record { addr = e.addr; source = e.source; offset = offset i; length = length i }

-- those whose bytes lie in the part stay as they are
pub within_part : (to : ℕ) (passed left : List ExtentRow) → AllByRecursion (λ e. 1 ≤ e.length) passed → extents_length passed ≤ to →
    (cut_all 0 to (passed ++ left) ≡ passed ++ cut_all 0 (to - extents_length passed) left)
    × (left_out 0 to (passed ++ left) ≡ left_out 0 (to - extents_length passed) left)
within_part to [] left some le = (
  (λ i. cut_all 0 (minus_none to i) left),
  (λ i. left_out 0 (minus_none to i) left),
)
  where
    minus_none : (n : ℕ) → n ≡ n - 0
    minus_none n = omega arith
within_part to (e ∷ es) left some le =
    let sum = length-cons e es in
    let has = some.0 in
    let first = some_first 0 to e (es ++ left) (omega (arith, sum, le, has)) in
    let rest = within_part (to - e.length) es left some.1 (omega (arith, sum, le)) in
    let none : 0 - e.length ≡ 0 = omega arith in
    let less_to : to - e.length - extents_length es ≡ to - extents_length (e ∷ es) = omega (arith, sum) in
    let one = whole_cut to e (omega (arith, sum, le)) in (
      first.0 ∙ (λ i. one i ∷ cut_all (none i) (to - e.length) (es ++ left))
          ∙ ap (λ (l : List ExtentRow). e ∷ l) (rest.0 ∙ (λ i. es ++ cut_all 0 (less_to i) left)),
      first.1 ∙ (λ i. left_out (none i) (to - e.length) (es ++ left)) ∙ rest.1 ∙ (λ i. left_out 0 (less_to i) left),
    )

-- the last one with so many bytes in it, and those behind
pub last_part : (to : ℕ) (e : ExtentRow) (es : List ExtentRow) → 1 ≤ to → to < e.length →
    (cut_all 0 to (e ∷ es) ≡ record e { length = to } ∷ []) × (left_out 0 to (e ∷ es) ≡ es)
last_part to e es some lt =
    let first = some_first 0 to e es (omega (arith, some, lt)) in
    let none : 0 - e.length ≡ 0 = omega arith in
    let all : to - e.length ≡ 0 = omega (arith, lt) in
    let rest = empty_part 0 es in
    let offset : e.offset + min 0 e.length ≡ e.offset = omega arith in
    let length : min to e.length - min 0 e.length ≡ to = omega (arith, lt) in
    let one : cut 0 to e ≡ record e { length = to } =
    λ i. record { addr = e.addr; source = e.source; offset = offset i; length = length i } in (
      first.0 ∙ (λ i. one i ∷ cut_all (none i) (all i) es) ∙ ap (λ (l : List ExtentRow). record e { length = to } ∷ l) rest.0,
      first.1 ∙ (λ i. left_out (none i) (all i) es) ∙ rest.1,
    )
