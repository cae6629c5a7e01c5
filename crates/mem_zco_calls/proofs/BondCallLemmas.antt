-- Objects whose headers and trailers become extents.
use Rattle.std.proofs.Common.{◌≡◌, ◌≤◌, ◌<◌, ◌+◌, ◌*◌, ◌^◌, ◌++◌, ◌∷◌, [], ℕ, List, Some, ap, sym, ◌∙◌, refl, subst, arith, length, length-append, map}
use Rattle.std.proofs.lemmas.List.{map-append}
use Rattle.std.proofs.lemmas.List.Elements.{All-append, All-cons, All-nil, All-weaker}
use Rattle.std.proofs.lemmas.List.Sums.{sum_by-append, sum_by-cons}
use Rattle.std.specs.FinMap.{get}
use Rattle.std.specs.List.{All, sum_by}
use Rattle.sdr_base.specs.declared.account.Amounts.{Amounts}
use Rattle.sdr_base.specs.declared.kind.Space.TheVariants as spaces
use Rattle.mem_world.proofs.SumBounds.{object_charge-small}
use Rattle.mem_world.proofs.CallingLemmas.{bounded_object, valid_object}
use Rattle.mem_world.specs.Calling.{IsBound, MayCall}
use Rattle.sdr_model.proofs.FewLemmas.{few_of_object, object_is}
use Rattle.sdr_model.specs.Amounts.{amounts_by, in_space}
use Rattle.sdr_model.specs.BondSteps.{bond_charge, bond_extents, bond_rise, bonded, bonded_extents, capsules_of}
use Rattle.sdr_model.specs.Charges.{capsule_charge}
use Rattle.sdr_model.specs.Few.{HasFewPieces, most_pieces}
use Rattle.sdr_model.specs.ObjectSteps.{wire_length}
use Rattle.sdr_model.specs.Things.{Owners, block_for_extent, inner_blocks}
use Rattle.sdr_model.specs.Valid.{IsValidCapsule, IsValidObject}
use Rattle.sdr_model.specs.World.{World, thing_at}
use Rattle.sdr_model.specs.Zco.{capsules_length, extents_length, object_at}
use Rattle.sdr_model.specs.declared.things.UsedBlock.{UsedBlock}
use Rattle.sdr_model.specs.declared.things.Thing.TheVariants as things
use Rattle.sdr_model.specs.declared.zco.Capsule.{Capsule}
use Rattle.sdr_model.specs.declared.zco.Extent.{Extent}
use Rattle.sdr_model.specs.declared.zco.ZcoObject.{ZcoObject}
use Rattle.mem_parts.proofs.BoundsLemmas.{capsules_length-each, extents_length-each}
use Rattle.mem_parts.specs.Bounds.{IsShort}
use Rattle.mem_store.specs.Owners.{IsOwned, Owns, OwnsInside}
use Rattle.mem_zco_calls.proofs.InsideLemmas.{all_blocks, extents_of}

-- the extents depend on the addresses alone
pub extents-shift : (at to : ℕ → ℕ) (cs : List Capsule) (i j : ℕ) → ((n : ℕ) → at (i + n) ≡ to (j + n))
    → bonded_extents at i cs ≡ bonded_extents to j cs
extents-shift at to [] i j agree = refl
extents-shift at to (c ∷ cs) i j agree =
    let source : at (i + 1) ≡ to (j + 1) = agree 1 in
    let block : at (i + 2) ≡ to (j + 2) = agree 2 in
    let rest : bonded_extents at (i + 3) cs ≡ bonded_extents to (j + 3) cs =
    extents-shift at to cs (i + 3) (j + 3)
    (λ n. ap at (let same : i + 3 + n ≡ i + (3 + n) = omega arith in same) ∙ agree (3 + n)
    ∙ ap to (let same : j + (3 + n) ≡ j + 3 + n = omega arith in same)) in
    cc

-- headers or trailers have as many bytes as extents
extents_length-bonded : (at : ℕ → ℕ) (k : ℕ) (cs : List Capsule) → extents_length (bonded_extents at k cs) ≡ capsules_length cs
extents_length-bonded at k [] = refl
extents_length-bonded at k (c ∷ cs) =
    omega (
      arith,
      extents_length-bonded at (k + 3) cs,
      sum_by-cons (λ (c : Capsule). length c.text) c cs,
      sum_by-cons (λ (e : Extent). e.length) (record { block = at (k + 2); source = at (k + 1); offset = 0; length = length c.text })
          (bonded_extents at (k + 3) cs),
    )

-- the object has as many bytes as before
pub extents_length-bond : (at : ℕ → ℕ) (z : ZcoObject) → extents_length (bond_extents at z) ≡ wire_length z
extents_length-bond at z =
    let headers = bonded_extents at 0 z.headers in
    let trailers = bonded_extents at (3 * length z.headers) z.trailers in
    omega (
      arith,
      sum_by-append (λ (e : Extent). e.length) (headers ++ z.extents) trailers,
      sum_by-append (λ (e : Extent). e.length) headers z.extents,
      extents_length-bonded at 0 z.headers,
      extents_length-bonded at (3 * length z.headers) z.trailers,
    )

-- the bytes of an object are few
pub wire-small : (w : World) (may : MayCall w) (addr : ℕ) (z : ZcoObject) → object_at w addr ≡ Some z → wire_length z ≤ 2 ^ 62
wire-small w may addr z is =
    let valid : IsValidObject z = valid_object w may addr z is in
    omega (
      arith,
      capsules_length-each z.headers (All-weaker IsValidCapsule IsShort (λ c short. short.1) z.headers valid.headers),
      extents_length-each z.extents (bounded_object w may addr z is).ends,
      capsules_length-each z.trailers (All-weaker IsValidCapsule IsShort (λ c short. short.1) z.trailers valid.trailers),
      few_of_object most_pieces w addr z may.few is,
    )

-- so is what its headers and trailers charge
pub capsules-small : (w : World) (addr : ℕ) (z : ZcoObject) → IsBound w → object_at w addr ≡ Some z
    → sum_by (capsule_charge spaces.Heap) (capsules_of z) ≤ 2 ^ 41
capsules-small w addr z bound is =
    omega (
      arith,
      object_charge-small w bound addr z (object_is (thing_at w addr) z is) spaces.Heap,
      sum_by-append (capsule_charge spaces.Heap) z.headers z.trailers,
    )

-- they are few
pub capsules-few : (w : World) (addr : ℕ) (z : ZcoObject) → HasFewPieces most_pieces w.things → object_at w addr ≡ Some z
    → length (capsules_of z) ≤ most_pieces
capsules-few w addr z few is =
    omega (arith, few_of_object most_pieces w addr z few is, length-append z.headers z.trailers)

-- more is charged of heap space alone
no_file : (cs : List Capsule) → bond_charge cs spaces.File ≡ 0
no_file [] = refl
no_file (c ∷ cs) = omega (arith, sum_by-cons (bond_rise spaces.File) c cs, no_file cs)

no_bulk : (cs : List Capsule) → bond_charge cs spaces.Bulk ≡ 0
no_bulk [] = refl
no_bulk (c ∷ cs) = omega (arith, sum_by-cons (bond_rise spaces.Bulk) c cs, no_bulk cs)

pub rise-amounts : (amounts : Amounts) (cs : List Capsule) (heap : ℕ) → amounts ≡ amounts_by (in_space spaces.Heap heap)
    → heap ≡ bond_charge cs spaces.Heap → amounts ≡ amounts_by (bond_charge cs)
rise-amounts amounts cs heap is rise = is ∙ λ i. record { file = sym (no_file cs) i; bulk = sym (no_bulk cs) i; heap = rise i }

-- extents whose blocks are owned
owns-bonded : (owners : Owners) (next owner k end : ℕ) (at : ℕ → ℕ) (cs : List Capsule) → k + 3 * length cs ≤ end
    → ((i : ℕ) → i < end → IsOwned owners next owner (at i))
    → All (Owns owners next owner) (map block_for_extent (bonded_extents at k cs))
owns-bonded owners next owner k end at [] most owned = All-nil (Owns owners next owner)
owns-bonded owners next owner k end at (c ∷ cs) most owned =
    All-cons (Owns owners next owner)
    (block_for_extent (record { block = at (k + 2); source = at (k + 1); offset = 0; length = length c.text }))
    (map block_for_extent (bonded_extents at (k + 3) cs))
    (owned (k + 2) (omega (arith, most)))
    (owns-bonded owners next owner (k + 3) end at cs (omega (arith, most)) owned)

-- a bonded object owns the blocks of its extents, where all that was noted before still is
pub owned-bonded : (owners now : Owners) (next more k : ℕ) (at : ℕ → ℕ) (z : ZcoObject) → next ≤ more
    → ((other of : ℕ) → other < next → get owners other ≡ Some of → get now other ≡ Some of)
    → OwnsInside owners next k (things.Object z)
    → ((i : ℕ) → i < 3 * length (capsules_of z) → IsOwned now more k (at i))
    → OwnsInside now more k (things.Object (bonded at z))
owned-bonded owners now next more k at z higher stay owns owned = record {
  below = omega (arith, owns.below);
  inside = all_blocks P (bonded at z) (All-nil P)
      (subst (All P) (sym (map-append block_for_extent (front ++ z.extents) back
      ∙ ap (λ l. l ++ map block_for_extent back) (map-append block_for_extent front z.extents)))
      (All-append P (map block_for_extent front ++ map block_for_extent z.extents) (map block_for_extent back)
      (All-append P (map block_for_extent front) (map block_for_extent z.extents)
      (owns-bonded now more k 0 end at z.headers (omega (arith, size)) owned) (extents_of P z kept))
      (owns-bonded now more k (3 * length z.headers) end at z.trailers (omega (arith, size)) owned)))
      (All-nil P);
}
  where
    P : UsedBlock → Type 0
    P = Owns now more k

    front : List Extent
    front = bonded_extents at 0 z.headers

    back : List Extent
    back = bonded_extents at (3 * length z.headers) z.trailers

    end : ℕ
    end = 3 * length (capsules_of z)

    size : end ≡ 3 * (length z.headers + length z.trailers)
    size = ap (λ n. 3 * n) (length-append z.headers z.trailers)

    kept : All P (inner_blocks (things.Object z))
    kept =
        All-weaker (Owns owners next k) P
        (λ b is. record { noted = stay b.addr k is.below is.noted; below = omega (arith, is.below) })
        (inner_blocks (things.Object z)) owns.inside
