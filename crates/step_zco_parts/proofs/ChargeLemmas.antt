-- What a bond charges, by the world and by the blocks, and what the things charge after it.
use Rattle.std.proofs.Common.{◌≡◌, ◌∙◌, ◌≤◌, ℕ, List, [], ◌∷◌, map, Some, refl, sym, ap, arith}
use Rattle.std.proofs.lemmas.List.{map-append}
use Rattle.std.proofs.lemmas.List.Sums.{sum_by-cons}
use Rattle.std.specs.FinMap as finite
use Rattle.std.specs.Prelude.{sum_by}
use Rattle.sdr_stands.specs.Rows.{capsule_row, object_row}
use Rattle.sdr_base.specs.ZcoObjects.{CapsuleRow}
use Rattle.sdr_base.specs.declared.kind.Space.TheVariants as spaces
use Rattle.law_steps.proofs.BondCharges.{bonded_names, bonded_object}
use Rattle.law_steps.proofs.BondLaws.{Tracks, all_bonded, with_all}
use Rattle.law_steps.proofs.ChargeMoves.{MovesCharge, after_same, object_moves}
use Rattle.law_steps.proofs.SourceViews.{NoSpare, fits_from, fits_more}
use Rattle.law_steps.proofs.SourceMoves.{nothing, sources_firsts}
use Rattle.law_steps.specs.Fresh.{AreFresh}
use Rattle.sdr_model.proofs.SumLemmas.{sum_by-map}
use Rattle.sdr_model.specs.Amounts.{amounts_by}
use Rattle.sdr_model.specs.BondSteps as bonds
use Rattle.sdr_model.specs.BondSteps.{bond_charge, bond_moves, bonded, bonded_extents, capsules_of}
use Rattle.sdr_model.specs.Valid.{FitTogether}
use Rattle.sdr_model.specs.World.{World, thing_at}
use Rattle.sdr_model.specs.Zco.{naming}
use Rattle.sdr_model.specs.declared.things.Thing.TheVariants as things
use Rattle.sdr_model.specs.declared.zco.Capsule.{Capsule}
use Rattle.sdr_model.specs.declared.zco.ZcoObject.{ZcoObject}
use Rattle.zco_bond.specs.Charging.{bond_amounts, bond_rise, ends_of}

-- the rows of an object's headers and trailers
pub ends_are : (z : ZcoObject) → ends_of (object_row z) ≡ map capsule_row (capsules_of z)
ends_are z = sym (map-append capsule_row z.headers z.trailers)

-- nothing is charged of space that isn't in the heap
no_files : (cs : List Capsule) → bond_charge cs spaces.File ≡ 0
no_files [] = refl
no_files (c ∷ cs) =
    let none : bonds.bond_rise spaces.File c ≡ 0 = refl in
    omega (arith, sum_by-cons (bonds.bond_rise spaces.File) c cs, none, no_files cs)

no_items : (cs : List Capsule) → bond_charge cs spaces.Bulk ≡ 0
no_items [] = refl
no_items (c ∷ cs) =
    let none : bonds.bond_rise spaces.Bulk c ≡ 0 = refl in
    omega (arith, sum_by-cons (bonds.bond_rise spaces.Bulk) c cs, none, no_items cs)

-- a bond charges what the rows do
pub amounts_told : (z : ZcoObject) → bond_amounts (object_row z) ≡ amounts_by (bond_charge (capsules_of z))
amounts_told z =
    let cs = capsules_of z in
    let heap : sum_by bond_rise (ends_of (object_row z)) ≡ bond_charge cs spaces.Heap =
    ap (λ (rows : List CapsuleRow). sum_by bond_rise rows) (ends_are z) ∙ sum_by-map bond_rise capsule_row cs in
    λ i. record { file = sym (no_files cs) i; bulk = sym (no_items cs) i; heap = heap i }

-- the account of the object is charged for it
pub bond_charged : (w : World) (addr : ℕ) (z : ZcoObject) (at : ℕ → ℕ) (used : List ℕ) → thing_at w addr ≡ Some (things.Object z) →
    FitTogether w → Tracks w.things used (capsules_of z) → AreFresh used (bond_moves at 0 (capsules_of z)) →
    MovesCharge w.things (finite.insert (with_all w.things at 0 (capsules_of z)) addr (things.Object (bonded at z))) z.account
    (bond_charge (capsules_of z)) nothing
bond_charged w addr z at used there fits tracks fresh =
    let cs = capsules_of z in
    let mid = with_all w.things at 0 cs in
    let named : ℕ → Type 0 = λ q. 1 ≤ naming q (bonded_extents at 0 cs) in
    let done = all_bonded w.things used at 0 cs named tracks fresh (λ q some. some)
    (fits_more NoSpare named (λ q spare. absurd spare) (fits_from w fits)) in
    after_same done.charges
    (object_moves mid addr z.account (Some z) (Some (bonded at z)) (bond_charge cs) nothing
    (done.keeps addr (things.Object z) there) refl refl
    (sources_firsts mid z.account (Some z) (Some (bonded at z)) (bonded_extents at 0 cs) (bonded_names at z) (done.firsts z.account))
    (λ space. let rise = bonded_object at z space in omega (arith, rise)))
