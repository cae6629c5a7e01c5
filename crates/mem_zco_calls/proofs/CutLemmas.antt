-- Extents that are cut, and put into blocks of their own.
use Rattle.std.proofs.Common.{◌≡◌, ◌≤◌, ◌+◌, ◌-◌, ◌==◌, ℕ, suc, List, [], ◌∷◌, Bool, true, false, ap, sym, ◌∙◌, refl, cond, arith, map}
use Rattle.std.proofs.lemmas.List.Elements.{All-cons, All-head, All-nil, All-tail}
use Rattle.std.proofs.lemmas.List.Sums.{sum_by-cons}
use Rattle.std.specs.List.{All}
use Rattle.sdr_model.specs.Cuts.{cut, cut_all, left_out, placed}
use Rattle.sdr_model.specs.Things.{block_for_extent}
use Rattle.sdr_model.specs.Zco.{extents_length, naming}
use Rattle.sdr_model.specs.declared.things.UsedBlock.{UsedBlock}
use Rattle.sdr_model.specs.declared.zco.Extent.{Extent}

-- what holds of each extent's block holds of the blocks of those that are left
pub All-cut_all : (P : UsedBlock → Type 0) (from to : ℕ) (es : List Extent) → All P (map block_for_extent es)
    → All P (map block_for_extent (cut_all from to es))
All-cut_all P from to [] all = All-nil P
All-cut_all P from to (e ∷ es) all =
    kept ((cut from to e).length == 0)
    (All-cut_all P (from - e.length) (to - e.length) es (All-tail P (block_for_extent e) (map block_for_extent es) all))
  where
    rest : List Extent
    rest = cut_all (from - e.length) (to - e.length) es

    kept : (b : Bool) → All P (map block_for_extent rest) →
        All P (map block_for_extent (cond b rest (cut from to e ∷ rest)))
    kept true left = left
    kept false left =
        All-cons P (block_for_extent e) (map block_for_extent rest)
        (All-head P (block_for_extent e) (map block_for_extent es) all) left

-- the extents that are left out name a source no more often than all
pub naming-left_out : (source from to : ℕ) (es : List Extent) → naming source (left_out from to es) ≤ naming source es
naming-left_out source from to [] = omega arith
naming-left_out source from to (e ∷ es) =
    kept ((cut from to e).length == 0) (naming-left_out source (from - e.length) (to - e.length) es)
  where
    rest : List Extent
    rest = left_out (from - e.length) (to - e.length) es

    kept : (b : Bool) → naming source rest ≤ naming source es
        → naming source (cond b (e ∷ rest) rest) ≤ naming source (e ∷ es)
    kept true le =
        omega (
          arith,
          le,
          sum_by-cons (λ (x : Extent). cond (x.source == source) 1 0) e rest,
          sum_by-cons (λ (x : Extent). cond (x.source == source) 1 0) e es,
        )
    kept false le = omega (arith, le, sum_by-cons (λ (x : Extent). cond (x.source == source) 1 0) e es)

-- the bytes that are left are no more
pub length-cut : (from to : ℕ) (es : List Extent) → extents_length (cut_all from to es) ≤ extents_length es
length-cut from to [] = omega arith
length-cut from to (e ∷ es) =
    kept ((cut from to e).length == 0) (length-cut (from - e.length) (to - e.length) es)
  where
    rest : List Extent
    rest = cut_all (from - e.length) (to - e.length) es

    kept : (b : Bool) → extents_length rest ≤ extents_length es
        → extents_length (cond b rest (cut from to e ∷ rest)) ≤ extents_length (e ∷ es)
    kept true le = omega (arith, le, sum_by-cons (λ (x : Extent). x.length) e es)
    kept false le =
        omega (
          arith,
          le,
          sum_by-cons (λ (x : Extent). x.length) e es,
          sum_by-cons (λ (x : Extent). x.length) (cut from to e) rest,
        )

-- extents in blocks of their own have as many bytes
pub placed-length : (at : ℕ → ℕ) (k : ℕ) (es : List Extent) → extents_length (placed at k es) ≡ extents_length es
placed-length at k [] = refl
placed-length at k (e ∷ es) =
    sum_by-cons (λ (e : Extent). e.length) (record e { block = at k }) (placed at (suc k) es)
    ∙ ap (λ n. e.length + n) (placed-length at (suc k) es)
    ∙ sym (sum_by-cons (λ (e : Extent). e.length) e es)
