-- Bounds of what is in objects, and what they charge.
use Rattle.std.proofs.Common.{◌≡◌, refl, ◌≤◌, ◌+◌, ◌-◌, ◌*◌, ℕ, List, [], ◌∷◌, length, arith}
use Rattle.std.proofs.lemmas.List.Elements.{All-head, All-tail}
use Rattle.std.proofs.lemmas.List.Sums.{sum_by-cons, sum_by-le-sum_by}
use Rattle.std.specs.List.{All, sum_by}
use Rattle.sdr_base.specs.declared.account.Amounts.{Amounts}
use Rattle.sdr_base.specs.declared.kind.Space.{Space}
use Rattle.sdr_base.specs.declared.kind.Space.TheVariants as spaces
use Rattle.sdr_model.specs.BondSteps.{bond_rise}
use Rattle.mem_parts.specs.Bounds.{EndsInTime, IsShort}
use Rattle.mem_parts.specs.Capped.{capped, capped_by}
use Rattle.sdr_model.proofs.AmountLemmas.{same_amounts}
use Rattle.sdr_model.specs.Amounts.{amount}
use Rattle.sdr_model.specs.Charges.{capsule_bytes, capsule_charge, object_charge}
use Rattle.sdr_model.specs.Limits.{longest_capsule, longest_source}
use Rattle.sdr_model.specs.Zco.{capsules_length, extents_length}
use Rattle.sdr_model.specs.declared.zco.Capsule.{Capsule}
use Rattle.sdr_model.specs.declared.zco.Extent.{Extent}
use Rattle.sdr_model.specs.declared.zco.ZcoObject.{ZcoObject}

-- so much of each space
abbrev pub amounts_of : ℕ → ℕ → ℕ → Amounts
amounts_of file bulk heap = record { file = file; bulk = bulk; heap = heap }

-- the words that bytes fill have as many bytes or more
pub capsule_bytes-le : (bytes : ℕ) → bytes ≤ capsule_bytes bytes
capsule_bytes-le bytes = omega arith

-- headers or trailers charge at least their bytes
pub capsules_length-charged : (capsules : List Capsule) → capsules_length capsules ≤ sum_by (capsule_charge spaces.Heap) capsules
capsules_length-charged capsules =
    sum_by-le-sum_by (λ (c : Capsule). length c.text) (capsule_charge spaces.Heap) capsules
    (λ c. capsule_bytes-le (length c.text))

-- extents that end in time are at most as long as the longest source each
pub extents_length-each : (extents : List Extent) → All EndsInTime extents → extents_length extents ≤ longest_source * length extents
extents_length-each [] ends = omega arith
extents_length-each (e ∷ es) ends =
    let here : e.offset + e.length ≤ longest_source = All-head EndsInTime e es ends in
    omega (
      arith,
      here,
      extents_length-each es (All-tail EndsInTime e es ends),
      sum_by-cons (λ (e : Extent). e.length) e es,
    )

-- so are short headers or trailers as the longest one
pub capsules_length-each : (capsules : List Capsule) → All IsShort capsules → capsules_length capsules ≤ longest_capsule * length capsules
capsules_length-each [] short = omega arith
capsules_length-each (c ∷ cs) short =
    let here : length c.text ≤ longest_capsule = All-head IsShort c cs short in
    omega (arith, here, capsules_length-each cs (All-tail IsShort c cs short), sum_by-cons (λ (c : Capsule). length c.text) c cs)

-- as extents, headers or trailers charge at most three times as much more as they charge
pub rise-most : (capsules : List Capsule)
    → sum_by (bond_rise spaces.Heap) capsules ≤ 3 * sum_by (capsule_charge spaces.Heap) capsules
rise-most [] = omega arith
rise-most (c ∷ cs) =
    omega (
      arith,
      rise-most cs,
      one (length c.text),
      sum_by-cons (bond_rise spaces.Heap) c cs,
      sum_by-cons (capsule_charge spaces.Heap) c cs,
    )
  where
    one : (bytes : ℕ) → bytes + 32 - capsule_bytes bytes ≤ 3 * capsule_bytes bytes
    one bytes = omega arith

-- headers and trailers charge nothing but heap space
no_file : (capsules : List Capsule) → sum_by (capsule_charge spaces.File) capsules ≡ 0
no_file [] = refl
no_file (c ∷ cs) = omega (arith, sum_by-cons (capsule_charge spaces.File) c cs, no_file cs)

no_bulk : (capsules : List Capsule) → sum_by (capsule_charge spaces.Bulk) capsules ≡ 0
no_bulk [] = refl
no_bulk (c ∷ cs) = omega (arith, sum_by-cons (capsule_charge spaces.Bulk) c cs, no_bulk cs)

-- what an object charges, from what is in it, as far as words hold it
pub object_charge-parts : (z : ZcoObject) (heap : ℕ)
    → heap ≡ capped (32 * length z.extents + 72 + sum_by (capsule_charge spaces.Heap) z.headers + sum_by (capsule_charge spaces.Heap) z.trailers)
    → amounts_of 0 0 heap ≡ capped_by (λ space. object_charge space z)
object_charge-parts z heap is = same_amounts _ _ by
  where
    by : (space : Space) → amount (amounts_of 0 0 heap) space ≡ amount (capped_by (λ space. object_charge space z)) space
    by spaces.File = omega (arith, no_file z.headers, no_file z.trailers)
    by spaces.Bulk = omega (arith, no_bulk z.headers, no_bulk z.trailers)
    by spaces.Heap = omega (arith, is)
