-- Extents that are cut and placed, and sums without the first or the last.
use Rattle.std.proofs.Common.{◌≡◌, ℕ, zero, suc, ◌+◌, ◌-◌, ◌*◌, ◌≤◌, ◌==◌, ◌++◌, List, [], ◌∷◌, Bool, true, false, cond, Option, Some, None, drop, length, take, refl, ap, arith, length-append}
use Rattle.std.specs.List.{AllByRecursion, sum_by}
use Rattle.std.specs.Prelude.{All, slice_get, unwrap_or, if◌then◌else◌}
use Rattle.std.proofs.lemmas.List.Elements.{All-from_recursion, recursion_from_All}
use Rattle.std.proofs.lemmas.List.Sums.{sum_by-cons}
use Rattle.sdr_base.specs.declared.account.Acct.{Acct}
use Rattle.sdr_base.specs.declared.kind.Space.{Space}
use Rattle.sdr_base.specs.declared.kind.Space.TheVariants as spaces
use Rattle.sdr_model.proofs.FewLemmas.{length-cut_all, length-placed}
use Rattle.sdr_model.specs.Amounts.{in_space}
use Rattle.sdr_model.specs.Cuts.{cut, cut_all, left_out, placed}
use Rattle.law_steps.proofs.DistinctLemmas.{on_test}
use Rattle.sdr_model.specs.Charges.{extent_bytes, object_charge}
use Rattle.sdr_model.specs.PartSteps.{object_of, part_end, stripped}
use Rattle.sdr_model.specs.Valid.{LiesInside}
use Rattle.sdr_model.specs.World.{World}
use Rattle.sdr_model.specs.Zco.{naming, source_at}
use Rattle.sdr_model.specs.declared.zco.Extent.{Extent}
use Rattle.sdr_model.specs.declared.zco.ZcoObject.{ZcoObject}
use Rattle.sdr_model.specs.declared.zco.ZcoSource.{ZcoSource}

-- the sum without the first, and without the last
pub first_sum : {X : Type 0} (f : X → ℕ) (xs : List X) (x : X) → slice_get xs 0 ≡ Some x
    → sum_by f (drop 1 xs) + f x ≡ sum_by f xs
first_sum f [] x is = let none : None ≡ Some x = is in cc
first_sum f (y ∷ ys) x is = omega (arith, sum_by-cons f y ys, ap (λ o. f (unwrap_or o y)) is)

sum_but_last : {X : Type 0} (f : X → ℕ) (xs : List X) (n : ℕ) (x : X) → slice_get xs n ≡ Some x → n + 1 ≡ length xs
    → sum_by f (take n xs) + f x ≡ sum_by f xs
sum_but_last f [] n x is last = absurd (omega (arith, last))
sum_but_last f (y ∷ []) zero x is last = omega (arith, sum_by-cons f y [], ap (λ o. f (unwrap_or o y)) is)
sum_but_last f (y ∷ z ∷ zs) zero x is last = absurd (omega (arith, last))
sum_but_last f (y ∷ ys) (suc n) x is last =
    omega (
      arith,
      sum_but_last f ys n x is (omega (arith, last)),
      sum_by-cons f y ys,
      sum_by-cons f y (take n ys),
    )

pub last_sum : {X : Type 0} (f : X → ℕ) (xs : List X) (x : X) → slice_get xs (length xs - 1) ≡ Some x
    → sum_by f (take (length xs - 1) xs) + f x ≡ sum_by f xs
last_sum f [] x is = let none : None ≡ Some x = is in cc
last_sum f (y ∷ ys) x is = sum_but_last f (y ∷ ys) (length (y ∷ ys) - 1) x is (omega arith)

-- extents of which a part is cut
module _ (w : World) where
  abbrev lies : Extent → Type 0
  lies e = LiesInside e (source_at w e.source)

  cut_lies : (from to : ℕ) (e : Extent) → lies e → lies (cut from to e)
  cut_lies from to e inside = by (source_at w e.source) inside
    where
      by : (o : Option ZcoSource) → LiesInside e o → LiesInside (cut from to e) o
      by None h = h
      by (Some s) h = omega (arith, h)

  cut_all_lie : (from to : ℕ) (es : List Extent) → AllByRecursion lies es → AllByRecursion lies (cut_all from to es)
  cut_all_lie from to [] all = tt
  cut_all_lie from to (e ∷ es) all =
      let rest = cut_all_lie (from - e.length) (to - e.length) es all.1 in
      keep ((cut from to e).length == 0) rest
    where
      keep : (b : Bool) → AllByRecursion lies (cut_all (from - e.length) (to - e.length) es)
          → AllByRecursion lies
          (cond b (cut_all (from - e.length) (to - e.length) es)
          (cut from to e ∷ cut_all (from - e.length) (to - e.length) es))
      keep true rest = rest
      keep false rest = (cut_lies from to e all.0, rest)

  pub cut_inside : (from to : ℕ) (es : List Extent) → All lies es → All lies (cut_all from to es)
  cut_inside from to es all =
      All-from_recursion lies (cut_all from to es) (cut_all_lie from to es (recursion_from_All lies es all))

  placed_lie : (at : ℕ → ℕ) (k : ℕ) (es : List Extent) → AllByRecursion lies es → AllByRecursion lies (placed at k es)
  placed_lie at k [] all = tt
  placed_lie at k (e ∷ es) all = (all.0, placed_lie at (suc k) es all.1)

  pub placed_inside : (at : ℕ → ℕ) (k : ℕ) (es : List Extent) → All lies es → All lies (placed at k es)
  placed_inside at k es all =
      All-from_recursion lies (placed at k es) (placed_lie at k es (recursion_from_All lies es all))

-- what extents charge for themselves: more where there are more, and together what they charge apart
extents_fewer : (space : Space) (k n : ℕ) → k ≤ n
    → in_space spaces.Heap (extent_bytes * k) space ≤ in_space spaces.Heap (extent_bytes * n) space
extents_fewer spaces.File k n le = omega arith
extents_fewer spaces.Bulk k n le = omega arith
extents_fewer spaces.Heap k n le = omega (arith, le)

pub extents_more : (space : Space) (n : ℕ)
    → in_space spaces.Heap (extent_bytes * suc n) space
    ≡ in_space spaces.Heap extent_bytes space + in_space spaces.Heap (extent_bytes * n) space
extents_more spaces.File n = refl
extents_more spaces.Bulk n = refl
extents_more spaces.Heap n = omega arith

pub extents_joined : (space : Space) (xs ys : List Extent)
    → in_space spaces.Heap (extent_bytes * length (xs ++ ys)) space
    ≡ in_space spaces.Heap (extent_bytes * length xs) space + in_space spaces.Heap (extent_bytes * length ys) space
extents_joined spaces.File xs ys = refl
extents_joined spaces.Bulk xs ys = refl
extents_joined spaces.Heap xs ys = omega (arith, length-append xs ys)

-- an object charges no more once its extents are cut, and the same wherever its extents are
pub cut_charge : (space : Space) (z : ZcoObject) → object_charge space (stripped z) ≤ object_charge space z
cut_charge space z =
    omega (arith, extents_fewer space _ _ (length-cut_all z.part.offset (part_end z) z.extents))

pub placed_charge : (space : Space) (acct : Acct) (at : ℕ → ℕ) (k : ℕ) (es : List Extent)
    → object_charge space (object_of acct (placed at k es)) ≡ object_charge space (object_of acct es)
placed_charge space acct at k es =
    omega (arith, ap (λ n. in_space spaces.Heap (extent_bytes * n) space) (length-placed at k es))

-- whether an extent names a source, as a number
abbrev names_it : ℕ → Extent → ℕ
names_it source e = if e.source == source then 1 else 0

-- the extents that are cut and those that are left out name the sources of all
pub cut_names : (source from to : ℕ) (es : List Extent)
    → naming source es ≡ naming source (cut_all from to es) + naming source (left_out from to es)
cut_names source from to [] = refl
cut_names source from to (e ∷ es) =
    on_test ((cut from to e).length == 0)
    (λ none. omega (
      arith,
      cut_names source (from - e.length) (to - e.length) es,
      sum_by-cons (names_it source) e es,
      sum_by-cons (names_it source) e (left_out (from - e.length) (to - e.length) es),
      ap (λ b. naming source
          (cond b (cut_all (from - e.length) (to - e.length) es)
          (cut from to e ∷ (cut_all (from - e.length) (to - e.length) es)))) none,
      ap (λ b. naming source
          (cond b (e ∷ (left_out (from - e.length) (to - e.length) es))
          (left_out (from - e.length) (to - e.length) es))) none,
    ))
    (λ some. omega (
      arith,
      cut_names source (from - e.length) (to - e.length) es,
      sum_by-cons (names_it source) e es,
      sum_by-cons (names_it source) (cut from to e) (cut_all (from - e.length) (to - e.length) es),
      ap (λ b. naming source
          (cond b (cut_all (from - e.length) (to - e.length) es)
          (cut from to e ∷ (cut_all (from - e.length) (to - e.length) es)))) some,
      ap (λ b. naming source
          (cond b (e ∷ (left_out (from - e.length) (to - e.length) es))
          (left_out (from - e.length) (to - e.length) es))) some,
    ))

-- extents that are placed name the same sources
pub placed_names : (source : ℕ) (at : ℕ → ℕ) (k : ℕ) (es : List Extent)
    → naming source (placed at k es) ≡ naming source es
placed_names source at k [] = refl
placed_names source at k (e ∷ es) =
    omega (
      arith,
      placed_names source at (suc k) es,
      sum_by-cons (names_it source) e es,
      sum_by-cons (names_it source) (record e { block = at k }) (placed at (suc k) es),
    )
