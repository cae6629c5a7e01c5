-- Sums over chains of headers, of trailers and of extents.
use Rattle.std.proofs.Common.{◌≡◌, ◌≢◌, ◌+◌, ℕ, List, length, refl}
use Rattle.sdr_base.specs.Blocks.{Blocks}
use Rattle.sdr_base.specs.ZcoObjects.{CapsuleRow, ExtentRow, capsule_addr, capsule_block, extent_addr, extent_block}
use Rattle.zco_obj.specs.Kept.{CapsuleFits, ExtentFits}
use Rattle.zco_obj.specs.Walks.{CapsulesAt, ExtentsAt, SeesCapsule, SeesExtent, SomeCapsule, SomeExtent, Sums, TellsCapsules, TellsExtents}
use Rattle.zco_obj.specs.declared.seeing.SeenCapsule.{SeenCapsule}
use Rattle.zco_obj.specs.declared.seeing.SeenExtent.{SeenExtent}
use Rattle.zco_obj.proofs.KeptLemmas.{first_capsule, first_extent}
use Rattle.zco_obj.proofs.WalkLemmas.{at_one, capsule_at, extent_at, sums_all, sums_most, sums_on, sums_start}

-- the bytes of headers or trailers so far
abbrev CapsuleSums : Blocks → ℕ → ℕ → ℕ → ℕ → Type 0
CapsuleSums blocks first cursor i total =
    Sums CapsuleFits capsule_addr capsule_block (λ (c : CapsuleRow). length c.text) blocks first cursor i total

-- the bytes of extents so far
abbrev ExtentSums : Blocks → ℕ → ℕ → ℕ → ℕ → Type 0
ExtentSums blocks first cursor i total =
    Sums ExtentFits extent_addr extent_block (λ (e : ExtentRow). e.length) blocks first cursor i total

pub capsules_start : (blocks : Blocks) (first : ℕ) → CapsuleSums blocks first first 0 0
capsules_start blocks first = sums_start CapsuleFits capsule_addr capsule_block (λ (c : CapsuleRow). length c.text)

pub extents_start : (blocks : Blocks) (first : ℕ) → ExtentSums blocks first first 0 0
extents_start blocks first = sums_start ExtentFits extent_addr extent_block (λ (e : ExtentRow). e.length)

module _ {blocks : Blocks} {first cursor i total : ℕ} where
  pub some_capsule : {rows : List CapsuleRow} → CapsuleSums blocks first cursor i total → CapsulesAt blocks first rows → cursor ≢ 0 →
      SomeCapsule (blocks cursor)
  some_capsule s c nz =
      capsule_at (at_one CapsuleFits capsule_addr capsule_block (λ (x : CapsuleRow). length x.text) c s nz (λ p n x. refl))

  pub some_extent : {rows : List ExtentRow} → ExtentSums blocks first cursor i total → ExtentsAt blocks first rows → cursor ≢ 0 →
      SomeExtent (blocks cursor)
  some_extent s c nz =
      extent_at (at_one ExtentFits extent_addr extent_block (λ (x : ExtentRow). x.length) c s nz (λ p n x. refl))

  pub capsules_on : (seen : SeenCapsule) → CapsuleSums blocks first cursor i total → cursor ≢ 0 → SeesCapsule (blocks cursor) seen →
      CapsuleSums blocks first seen.next (i + 1) (total + seen.bytes)
  capsules_on seen s nz v =
      sums_on CapsuleFits capsule_addr capsule_block (λ (c : CapsuleRow). length c.text) s nz
      (λ x n b f l. v.bytes n x (record { block = b; fits = f; small = l }))
      (λ x n b f l. v.next n x (record { block = b; fits = f; small = l })) (λ p n x. refl) first_capsule

  pub extents_on : (seen : SeenExtent) → ExtentSums blocks first cursor i total → cursor ≢ 0 → SeesExtent (blocks cursor) seen →
      ExtentSums blocks first seen.next (i + 1) (total + seen.length)
  extents_on seen s nz v =
      sums_on ExtentFits extent_addr extent_block (λ (e : ExtentRow). e.length) s nz
      (λ x n b f l. v.length n x (record { block = b; fits = f; small = l }))
      (λ x n b f l. v.next n x (record { block = b; fits = f; small = l })) (λ p n x. refl) first_extent

  pub capsules_all : CapsuleSums blocks first cursor i total → cursor ≡ 0 → TellsCapsules blocks first total
  capsules_all s z = sums_all CapsuleFits capsule_addr capsule_block (λ (c : CapsuleRow). length c.text) s z

  pub extents_all : ExtentSums blocks first cursor i total → cursor ≡ 0 → TellsExtents blocks first total
  extents_all s z = sums_all ExtentFits extent_addr extent_block (λ (e : ExtentRow). e.length) s z

  pub capsules_most : CapsuleSums blocks first cursor i total → i ≡ 4194304 → TellsCapsules blocks first total
  capsules_most s all = sums_most CapsuleFits capsule_addr capsule_block (λ (c : CapsuleRow). length c.text) s all

  pub extents_most : ExtentSums blocks first cursor i total → i ≡ 4194304 → TellsExtents blocks first total
  extents_most s all = sums_most ExtentFits extent_addr extent_block (λ (e : ExtentRow). e.length) s all
