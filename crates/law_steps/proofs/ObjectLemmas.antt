-- The blocks of an object, and its limits, after a header, a trailer or an extent comes or goes.
use Rattle.std.proofs.Common.{◌≡◌, ◌≤◌, ◌+◌, ◌-◌, ◌==◌, ℕ, zero, suc, List, [], ◌∷◌, ◌++◌, Bool, cond, Some, None, map, length, take, drop, unwrap_or, ap, arith}
use Rattle.std.specs.List.{sum_by}
use Rattle.std.specs.Prelude.{All, slice_get}
use Rattle.std.proofs.lemmas.List.{map-append}
use Rattle.std.proofs.lemmas.List.Elements.{All-cons, All-drop, All-push, All-take}
use Rattle.std.proofs.lemmas.List.Sums.{sum_by-append, sum_by-cons}
use Rattle.law_steps.proofs.DistinctLemmas.{on_test}
use Rattle.sdr_model.specs.Blocks.{thing_blocks}
use Rattle.sdr_model.specs.ObjectSteps.{last_capsule, with_extent, with_header, with_trailer, without_header, without_trailer}
use Rattle.sdr_model.specs.Things.{block_for_capsule, block_for_extent, object_blocks, own_block}
use Rattle.sdr_model.specs.Valid.{IsValidCapsule, IsValidObject}
use Rattle.sdr_model.specs.Zco.{extents_length}
use Rattle.sdr_model.specs.declared.things.UsedBlock.{UsedBlock}
use Rattle.sdr_model.specs.declared.things.Thing.TheVariants as things
use Rattle.sdr_model.specs.declared.zco.Capsule.{Capsule}
use Rattle.sdr_model.specs.declared.zco.Extent.{Extent}
use Rattle.sdr_model.specs.declared.zco.ZcoObject.{ZcoObject}

-- the bytes of extents, with one more
pub extents_length-push : (es : List Extent) (e : Extent)
    → extents_length (es ++ e ∷ []) ≡ extents_length es + e.length
extents_length-push es e = omega (arith, sum_by-append (λ (e : Extent). e.length) es (e ∷ []))

module _ (measure : UsedBlock → ℕ) (addr : ℕ) where
  -- what is measured of headers or trailers, of extents, and of an object's blocks
  abbrev pub capsules_sum : List Capsule → ℕ
  capsules_sum cs = sum_by measure (map block_for_capsule cs)

  abbrev pub extents_sum : List Extent → ℕ
  extents_sum es = sum_by measure (map block_for_extent es)

  abbrev pub object_sum : ZcoObject → ℕ
  object_sum z = sum_by measure (thing_blocks addr (things.Object z))

  pub object_parts : (z : ZcoObject)
      → object_sum z ≡ measure (own_block addr (things.Object z)) + capsules_sum z.headers + extents_sum z.extents
      + capsules_sum z.trailers
  object_parts z =
      omega (
        arith,
        sum_by-cons measure (own_block addr (things.Object z)) (object_blocks z),
        sum_by-append measure (map block_for_capsule z.headers ++ map block_for_extent z.extents) (map block_for_capsule z.trailers),
        sum_by-append measure (map block_for_capsule z.headers) (map block_for_extent z.extents),
      )

  capsules_push : (cs : List Capsule) (c : Capsule)
      → capsules_sum (cs ++ c ∷ []) ≡ capsules_sum cs + measure (block_for_capsule c)
  capsules_push cs c =
      omega (
        arith,
        ap (sum_by measure) (map-append block_for_capsule cs (c ∷ [])),
        sum_by-append measure (map block_for_capsule cs) (block_for_capsule c ∷ []),
      )

  extents_push : (es : List Extent) (e : Extent)
      → extents_sum (es ++ e ∷ []) ≡ extents_sum es + measure (block_for_extent e)
  extents_push es e =
      omega (
        arith,
        ap (sum_by measure) (map-append block_for_extent es (e ∷ [])),
        sum_by-append measure (map block_for_extent es) (block_for_extent e ∷ []),
      )

  -- with one more of each
  pub with_header-sum : (z : ZcoObject) (c : Capsule)
      → object_sum (with_header z c) ≡ object_sum z + measure (block_for_capsule c)
  with_header-sum z c =
      omega (
        arith,
        object_parts z,
        object_parts (with_header z c),
        sum_by-cons measure (block_for_capsule c) (map block_for_capsule z.headers),
      )

  pub with_trailer-sum : (z : ZcoObject) (c : Capsule)
      → object_sum (with_trailer z c) ≡ object_sum z + measure (block_for_capsule c)
  with_trailer-sum z c =
      omega (arith, object_parts z, object_parts (with_trailer z c), capsules_push z.trailers c)

  pub with_extent-sum : (z : ZcoObject) (e : Extent)
      → object_sum (with_extent z e) ≡ object_sum z + measure (block_for_extent e)
  with_extent-sum z e = omega (arith, object_parts z, object_parts (with_extent z e), extents_push z.extents e)

  -- the first of some
  capsules_drop : (cs : List Capsule) (c : Capsule) → slice_get cs 0 ≡ Some c
      → capsules_sum (drop 1 cs) + measure (block_for_capsule c) ≡ capsules_sum cs
  capsules_drop [] c is = let none : None ≡ Some c = is in absurd cc
  capsules_drop (x ∷ cs) c is =
      let first : x ≡ c = ap (λ o. unwrap_or o c) is in
      omega (
        arith,
        sum_by-cons measure (block_for_capsule x) (map block_for_capsule cs),
        ap (λ c. measure (block_for_capsule c)) first,
      )

  -- and the last
  capsules_take : (cs : List Capsule) (n : ℕ) (c : Capsule) → length cs ≤ n + 1 → slice_get cs n ≡ Some c
      → capsules_sum (take n cs) + measure (block_for_capsule c) ≡ capsules_sum cs
  capsules_take [] n c few is = let none : None ≡ Some c = is in absurd cc
  capsules_take (x ∷ []) zero c few is =
      let first : x ≡ c = ap (λ o. unwrap_or o c) is in omega (arith, ap (λ c. measure (block_for_capsule c)) first)
  capsules_take (x ∷ y ∷ cs) zero c few is = absurd (omega (arith, few))
  capsules_take (x ∷ cs) (suc n) c few is =
      omega (
        arith,
        capsules_take cs n c (omega (arith, few)) is,
        sum_by-cons measure (block_for_capsule x) (map block_for_capsule cs),
        sum_by-cons measure (block_for_capsule x) (map block_for_capsule (take n cs)),
      )

  -- with one less
  pub without_header-sum : (z : ZcoObject) (c : Capsule) → slice_get z.headers 0 ≡ Some c
      → object_sum (without_header z) + measure (block_for_capsule c) ≡ object_sum z
  without_header-sum z c is =
      omega (arith, object_parts z, object_parts (without_header z), capsules_drop z.headers c is)

  pub without_trailer-sum : (z : ZcoObject) (c : Capsule) → last_capsule z.trailers ≡ Some c
      → object_sum (without_trailer z) + measure (block_for_capsule c) ≡ object_sum z
  without_trailer-sum z c is =
      omega (
        arith,
        object_parts z,
        object_parts (without_trailer z),
        capsules_take z.trailers (length z.trailers - 1) c (omega arith) is,
      )

-- an object keeps its limits with other headers and trailers
valid_capsules : (z : ZcoObject) (headers trailers : List Capsule) → IsValidObject z → All IsValidCapsule headers
    → All IsValidCapsule trailers
    → IsValidObject (record z { headers = headers; trailers = trailers })
valid_capsules z headers trailers valid above below =
    record { headers = above; trailers = below; extents = valid.extents; part = valid.part }

pub valid_with_header : (z : ZcoObject) (c : Capsule) → IsValidCapsule c → IsValidObject z
    → IsValidObject (with_header z c)
valid_with_header z c fits valid =
    valid_capsules z (c ∷ z.headers) z.trailers valid (All-cons IsValidCapsule c z.headers fits valid.headers)
    valid.trailers

pub valid_with_trailer : (z : ZcoObject) (c : Capsule) → IsValidCapsule c → IsValidObject z
    → IsValidObject (with_trailer z c)
valid_with_trailer z c fits valid =
    valid_capsules z z.headers (z.trailers ++ c ∷ []) valid valid.headers
    (All-push IsValidCapsule z.trailers c valid.trailers fits)

pub valid_without_header : (z : ZcoObject) → IsValidObject z → IsValidObject (without_header z)
valid_without_header z valid =
    valid_capsules z (drop 1 z.headers) z.trailers valid (All-drop IsValidCapsule 1 z.headers valid.headers)
    valid.trailers

pub valid_without_trailer : (z : ZcoObject) → IsValidObject z → IsValidObject (without_trailer z)
valid_without_trailer z valid =
    valid_capsules z z.headers (take (length z.trailers - 1) z.trailers) valid valid.headers
    (All-take IsValidCapsule (length z.trailers - 1) z.trailers valid.trailers)

-- and with one more extent that has a byte
pub valid_with_extent : (z : ZcoObject) (e : Extent) → 1 ≤ e.length → IsValidObject z
    → IsValidObject (with_extent z e)
valid_with_extent z e long valid = record {
  headers = valid.headers;
  trailers = valid.trailers;
  extents = All-push (λ (e : Extent). 1 ≤ e.length) z.extents e valid.extents long;
  part = on_test (z.part.offset + z.part.length == extents_length z.extents)
      (λ at. omega (arith, valid.part, ap ends at, extents_length-push z.extents e))
      (λ at. omega (arith, valid.part, ap ends at, extents_length-push z.extents e));
}
  where
    ends : Bool → ℕ
    ends b = let part = cond b (record z.part { length = z.part.length + e.length }) z.part in part.offset + part.length
