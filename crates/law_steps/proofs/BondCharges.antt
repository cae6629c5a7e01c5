-- What an object charges once it is bonded.
use Rattle.std.proofs.Common.{◌≡◌, ℕ, ◌+◌, ◌*◌, ◌==◌, ◌++◌, List, [], ◌∷◌, length, refl, ap, arith, div-mul-le_self}
use Rattle.std.specs.List.{sum_by}
use Rattle.std.proofs.lemmas.List.Sums.{sum_by-append, sum_by-cons}
use Rattle.sdr_base.specs.declared.kind.Space.{Space}
use Rattle.sdr_base.specs.declared.kind.Space.TheVariants as spaces
use Rattle.law_steps.proofs.DistinctLemmas.{weight}
use Rattle.law_steps.proofs.ExtentLemmas.{extents_joined, extents_more}
use Rattle.law_steps.proofs.OutcomeFits.{bonded_parts}
use Rattle.sdr_model.specs.Amounts.{in_space}
use Rattle.sdr_model.specs.BondSteps.{bond_charge, bond_rise, bonded, bonded_extents, capsules_of}
use Rattle.sdr_model.specs.Charges.{bytes_charge, capsule_charge, extent_bytes, object_charge}
use Rattle.sdr_model.specs.Zco.{naming}
use Rattle.sdr_model.specs.declared.zco.Capsule.{Capsule}
use Rattle.sdr_model.specs.declared.zco.Extent.{Extent}
use Rattle.sdr_model.specs.declared.zco.ZcoObject.{ZcoObject}

-- headers and trailers charge as extents, and as the sources of these, what bonding charges beside them
rise_is : (space : Space) (c : Capsule)
    → bytes_charge spaces.Heap (length c.text) space ≡ capsule_charge space c + bond_rise space c
rise_is spaces.File c = refl
rise_is spaces.Bulk c = refl
rise_is spaces.Heap c = omega (arith, div-mul-le_self (15 + length c.text) 8)

pub bonded_charge : (space : Space) (at : ℕ → ℕ) (k : ℕ) (cs : List Capsule)
    → in_space spaces.Heap (extent_bytes * length (bonded_extents at k cs)) space
    + sum_by (λ e. in_space spaces.Heap e.length space) (bonded_extents at k cs)
    ≡ sum_by (capsule_charge space) cs + bond_charge cs space
bonded_charge space at k [] = none space
  where
    none : (space : Space) → in_space spaces.Heap 0 space + 0 ≡ 0
    none spaces.File = refl
    none spaces.Bulk = refl
    none spaces.Heap = refl
bonded_charge space at k (c ∷ cs) =
    let e : Extent = record { block = at (k + 2); source = at (k + 1); offset = 0; length = length c.text } in
    omega (
      arith,
      extents_more space (length (bonded_extents at (k + 3) cs)),
      rise_is space c,
      bonded_charge space at (k + 3) cs,
      sum_by-cons (λ (e : Extent). in_space spaces.Heap e.length space) e (bonded_extents at (k + 3) cs),
      sum_by-cons (capsule_charge space) c cs,
      sum_by-cons (bond_rise space) c cs,
    )

-- so does an object that is bonded
pub bonded_object : (at : ℕ → ℕ) (z : ZcoObject) (space : Space)
    → object_charge space (bonded at z)
    + sum_by (λ e. in_space spaces.Heap e.length space) (bonded_extents at 0 (capsules_of z))
    ≡ object_charge space z + bond_charge (capsules_of z) space
bonded_object at z space =
    let heads = bonded_extents at 0 z.headers in
    let tails = bonded_extents at (3 * length z.headers) z.trailers in
    omega (
      arith,
      bonded_charge space at 0 (capsules_of z),
      ap (λ es. in_space spaces.Heap (extent_bytes * length es) space) (bonded_parts at z),
      extents_joined space heads tails,
      extents_joined space (heads ++ z.extents) tails,
      extents_joined space heads z.extents,
      sum_by-append (capsule_charge space) z.headers z.trailers,
    )

-- and the object names their sources besides
pub bonded_names : (at : ℕ → ℕ) (z : ZcoObject) (q : ℕ)
    → naming q (bonded at z).extents ≡ naming q z.extents + naming q (bonded_extents at 0 (capsules_of z))
bonded_names at z q =
    let heads = bonded_extents at 0 z.headers in
    let tails = bonded_extents at (3 * length z.headers) z.trailers in
    let names : Extent → ℕ = λ e. weight (e.source == q) in
    omega (
      arith,
      ap (naming q) (bonded_parts at z),
      sum_by-append names heads tails,
      sum_by-append names (heads ++ z.extents) tails,
      sum_by-append names heads z.extents,
    )
