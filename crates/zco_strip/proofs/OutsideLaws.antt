-- The extents outside a part are some of all, and those inside have its bytes.
use Rattle.std.proofs.Common.{◌≡◌, ◌-◌, ◌≤◌, ◌==◌, ℕ, List, [], ◌∷◌, true, false, length, min, refl, arith}
use Rattle.std.proofs.lemmas.Bool.{eqb-true}
use Rattle.std.proofs.lemmas.List.Elements.{All-cons, All-head, All-tail}
use Rattle.std.proofs.lemmas.List.Sums.{sum_by-cons}
use Rattle.std.specs.Prelude.{All, sum_by, if◌then◌else◌}
use Rattle.sdr_base.specs.ZcoObjects.{ExtentRow, ObjectRow}
use Rattle.zco_strip.proofs.CutLaws.{length-cons}
use Rattle.zco_strip.specs.Cuts.{cut, cut_all, inside, left_out, part_end}
use Rattle.zco_obj.specs.Kept.{ObjectFits, extents_length}

-- what holds of all holds of those outside
pub all_out : (P : ExtentRow → Type 0) (from to : ℕ) (es : List ExtentRow) → All P es → All P (left_out from to es)
all_out P from to [] all = all
all_out P from to (e ∷ es) all =
    let out = left_out (from - e.length) (to - e.length) es in
    let tail = all_out P (from - e.length) (to - e.length) es (All-tail P e es all) in
    elim ((cut from to e).length == 0) as (λ v. All P (if v then e ∷ out else out)) [
      | true ↦ All-cons P e out (All-head P e es all) tail
      | false ↦ tail
    ]

-- they are no more
pub length_out : (from to : ℕ) (es : List ExtentRow) → length (left_out from to es) ≤ length es
length_out from to [] = omega arith
length_out from to (e ∷ es) =
    let out = left_out (from - e.length) (to - e.length) es in
    let ih = length_out (from - e.length) (to - e.length) es in
    elim ((cut from to e).length == 0) as (λ v. length (if v then e ∷ out else out) ≤ length (e ∷ es)) [
      | true ↦ omega (arith, ih)
      | false ↦ omega (arith, ih)
    ]

-- nor is a sum over them
pub sum_out : (f : ExtentRow → ℕ) (from to : ℕ) (es : List ExtentRow) → sum_by f (left_out from to es) ≤ sum_by f es
sum_out f from to [] = omega arith
sum_out f from to (e ∷ es) =
    let out = left_out (from - e.length) (to - e.length) es in
    let ih = sum_out f (from - e.length) (to - e.length) es in
    let all = sum_by-cons f e es in
    elim ((cut from to e).length == 0) as (λ v. sum_by f (if v then e ∷ out else out) ≤ sum_by f (e ∷ es)) [
      | true ↦ let some = sum_by-cons f e out in omega (arith, ih, all, some)
      | false ↦ omega (arith, ih, all)
    ]

-- those inside have the bytes between the two places
length_in : (from to : ℕ) (es : List ExtentRow) → from ≤ to →
    extents_length (cut_all from to es) ≡ min to (extents_length es) - min from (extents_length es)
length_in from to [] le = omega arith
length_in from to (e ∷ es) le =
    let rest = cut_all (from - e.length) (to - e.length) es in
    let n = (cut from to e).length in
    let all = length-cons e es in
    let ih = length_in (from - e.length) (to - e.length) es (omega (arith, le)) in
    elim (n == 0) as (λ v. (n == 0) ≡ v → extents_length (if v then rest else cut from to e ∷ rest)
    ≡ min to (extents_length (e ∷ es)) - min from (extents_length (e ∷ es))) [
      | true ↦ λ is. let none = eqb-true n 0 is in omega (arith, le, all, ih, none)
      | false ↦ λ is. let some = length-cons (cut from to e) rest in omega (arith, le, all, ih, some)
    ] refl

-- so the length of an object's part stays
pub part_stays : (row : ObjectRow) → ObjectFits row → extents_length (inside row) ≡ row.part_length
part_stays row f =
    let is = length_in row.part_offset (part_end row) row.extents (omega arith) in
    let p = f.part in omega (arith, is, p)
