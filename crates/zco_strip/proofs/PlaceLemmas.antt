-- Where a part begins and ends in a chain of extents.
use Rattle.std.proofs.Common.{◌≡◌, ◌∙◌, ◌+◌, ◌≤◌, ◌<◌, ℕ, zero, suc, List, [], ◌∷◌, ◌++◌, refl, sym, ap, subst, arith}
use Rattle.std.proofs.lemmas.List.Sums.{sum_by-append}
use Rattle.sdr_base.specs.Blocks.{Blocks}
use Rattle.sdr_base.specs.Linked.{first_of, last_of}
use Rattle.sdr_base.specs.ZcoObjects.{ExtentRow, extent_addr}
use Rattle.zco_strip.proofs.CutLaws.{length-cons}
use Rattle.zco_strip.specs.Finding.{FindsPlace}
use Rattle.zco_strip.specs.declared.finding.Place.{Place}
use Rattle.zco_obj.specs.Kept.{extents_length}
use Rattle.zco_obj.specs.Walks.{ExtentsAt}

-- the bytes of extents before others, and of those
pub length-both : (xs ys : List ExtentRow) → extents_length (xs ++ ys) ≡ extents_length xs + extents_length ys
length-both xs ys = sum_by-append (λ (e : ExtentRow). e.length) xs ys

-- the extent in which a part begins, those before it, and those behind
pub record Begins (rows : List ExtentRow) (from : ℕ) (begin : Place) : Type 0 where
  pub before : List ExtentRow
  pub one : ExtentRow
  pub behind : List ExtentRow
  pub whole : rows ≡ before ++ (one ∷ behind)
  pub at_last : begin.last ≡ last_of extent_addr 0 before
  pub at_extent : begin.extent ≡ one.addr
  pub sum : extents_length before + begin.inside ≡ from
  pub within : begin.inside < one.length

begins_in : {rows : List ExtentRow} {from : ℕ} {begin : Place} (passed left : List ExtentRow) → rows ≡ passed ++ left →
    begin.last ≡ last_of extent_addr 0 passed → begin.extent ≡ first_of extent_addr 0 left →
    extents_length passed + begin.inside ≡ from → ((e : ExtentRow) (es : List ExtentRow) → left ≡ e ∷ es → begin.inside < e.length) →
    from < extents_length rows → Begins rows from begin
begins_in passed [] whole last extent sum within lt =
    let all = ap extents_length whole in let both = length-both passed [] in absurd (omega (arith, all, both, sum, lt))
begins_in passed (e ∷ es) whole last extent sum within lt = record {
  before = passed;
  one = e;
  behind = es;
  whole = whole;
  at_last = last;
  at_extent = extent;
  sum = sum;
  within = within e es refl;
}

pub begins : {blocks : Blocks} {first from : ℕ} {rows : List ExtentRow} {begin : Place} → FindsPlace blocks first from begin →
    ExtentsAt blocks first rows → from < extents_length rows → Begins rows from begin
begins {rows = rows} f c lt =
    let p = f.finds rows c in begins_in p.passed p.left p.whole p.at_last p.at_extent p.before p.within lt

-- A part ends so many bytes behind the begin of the extent in which it begins: between two extents, in a later one, or in the same.
pub data Ends (e : ExtentRow) (behind : List ExtentRow) (t : ℕ) (place : Place) : Type 0 where
  between : (es out : List ExtentRow) → behind ≡ es ++ out → place.inside ≡ 0 → place.last ≡ last_of extent_addr 0 (e ∷ es) →
      place.extent ≡ first_of extent_addr 0 out → extents_length (e ∷ es) ≡ t → Ends e behind t place
  later : (es : List ExtentRow) (x : ExtentRow) (out : List ExtentRow) → behind ≡ es ++ (x ∷ out) → place.extent ≡ x.addr →
      1 ≤ place.inside → place.inside < x.length → extents_length (e ∷ es) + place.inside ≡ t → Ends e behind t place
  same : place.extent ≡ e.addr → place.inside ≡ t → t < e.length → Ends e behind t place

head_or : ExtentRow → List ExtentRow → ExtentRow
head_or d [] = d
head_or d (x ∷ xs) = x

tail_of : List ExtentRow → List ExtentRow
tail_of [] = []
tail_of (x ∷ xs) = xs

-- it ends behind some first ones
ends_behind : {e : ExtentRow} {behind : List ExtentRow} {t : ℕ} {place : Place} (es left : List ExtentRow) (inside : ℕ) →
    place.inside ≡ inside → behind ≡ es ++ left → place.last ≡ last_of extent_addr 0 (e ∷ es) →
    place.extent ≡ first_of extent_addr 0 left → extents_length (e ∷ es) + place.inside ≡ t →
    ((x : ExtentRow) (xs : List ExtentRow) → left ≡ x ∷ xs → place.inside < x.length) → t ≤ extents_length (e ∷ behind) →
    Ends e behind t place
ends_behind es left zero is whole last extent sum within le = between es left whole is last extent (omega (arith, is, sum))
ends_behind {e} {behind} es [] (suc n) is whole last extent sum within le =
    let all = ap extents_length whole in
    let both = length-both es [] in
    let a = length-cons e behind in
    let b = length-cons e es in absurd (omega (arith, all, both, sum, le, is, a, b))
ends_behind es (x ∷ out) (suc n) is whole last extent sum within le =
    later es x out whole extent (omega (arith, is)) (within x out refl) sum

ends_in : {e : ExtentRow} {behind : List ExtentRow} {t : ℕ} {place : Place} (passed left : List ExtentRow) →
    e ∷ behind ≡ passed ++ left → place.last ≡ last_of extent_addr 0 passed → place.extent ≡ first_of extent_addr 0 left →
    extents_length passed + place.inside ≡ t →
    ((x : ExtentRow) (xs : List ExtentRow) → left ≡ x ∷ xs → place.inside < x.length) → t ≤ extents_length (e ∷ behind) →
    Ends e behind t place
unfolding head_or tail_of
ends_in {e} {behind} {t} {place} [] left whole last extent sum within le =
    let is : place.inside ≡ t = omega (arith, sum) in
    let lt = within e behind (sym whole) in
    same (extent ∙ ap (first_of extent_addr 0) (sym whole)) is (omega (arith, lt, is))
ends_in {e} {behind} {t} {place} (p ∷ ps) left whole last extent sum within le =
    let one : p ≡ e = ap (head_or e) (sym whole) in
    ends_behind ps left place.inside refl (ap tail_of whole)
    (subst (λ (x : ExtentRow). place.last ≡ last_of extent_addr 0 (x ∷ ps)) one last) extent
    (subst (λ (x : ExtentRow). extents_length (x ∷ ps) + place.inside ≡ t) one sum) within le

pub ends : {blocks : Blocks} {first t : ℕ} {e : ExtentRow} {behind : List ExtentRow} {place : Place} →
    FindsPlace blocks first t place → ExtentsAt blocks first (e ∷ behind) → t ≤ extents_length (e ∷ behind) → Ends e behind t place
ends {e = e} {behind} f c le =
    let p = f.finds (e ∷ behind) c in ends_in p.passed p.left p.whole p.at_last p.at_extent p.before p.within le
