-- What an object charges more once it is bonded, and why its account isn't charged for that.
use Rattle.std.proofs.Common.{◌≡◌, ◌≢◌, ◌+◌, ◌-◌, ◌≤◌, ℕ, List, None, Some, refl, ap, ◌∙◌, arith, subst}
use Rattle.std.specs.Prelude.{sum_by}
use Rattle.std.proofs.lemmas.List.Sums.{sum_by-append}
use Rattle.sdr_base.specs.Blocks.{Blocks}
use Rattle.sdr_base.specs.Objects.{Heap, OnlyFault}
use Rattle.sdr_base.specs.ZcoObjects.{CapsuleRow, ObjectRow, capsule_addr, capsule_block}
use Rattle.sdr_base.specs.declared.account.Amounts.{Amounts}
use Rattle.sdr_base.specs.declared.kind.Space.TheVariants as spaces
use Rattle.sdr_base.specs.declared.refusal.Refusal.TheVariants as refusals
use Rattle.sdr_base.specs.declared.stop.Stop.{Stop}
use Rattle.sdr_base.specs.declared.stop.Stop.TheVariants.{Refused, DiskFault, MediaFault, Failed}
use Rattle.sdr_model.specs.Charges.{bytes_charge, capsule_bytes}
use Rattle.zco_acct.specs.Charges.{ChargesAccount}
use Rattle.zco_obj.specs.Amounts.{extent_amounts, heap_amounts}
use Rattle.zco_obj.specs.Charging.{ChargesObject, ObjectChargeStops, refusal_in}
use Rattle.zco_obj.specs.Kept.{CapsuleFits, KeepsObject, SomeWithQueue}
use Rattle.zco_obj.specs.Reading.{TellsFirsts}
use Rattle.zco_obj.specs.Walks.{CapsulesAt, SeesCapsule, SomeCapsule, SomeCapsules, Sums}
use Rattle.zco_obj.specs.declared.linking.Side.TheVariants as sides
use Rattle.zco_obj.specs.declared.object.Firsts.{Firsts}
use Rattle.zco_obj.specs.declared.seeing.SeenCapsule.{SeenCapsule}
use Rattle.zco_obj.proofs.ChargeLemmas.{object_of}
use Rattle.zco_obj.proofs.KeptLemmas.{first_capsule}
use Rattle.zco_obj.proofs.PartsLemmas.{side_at}
use Rattle.zco_obj.proofs.WalkLemmas.{at_one, capsule_at, sums_all, sums_most, sums_on, sums_start}
use Rattle.zco_bond.specs.Charging.{BondChargeStops, ChargesBond, TellsRise, bond_rise, ends_of}

-- what some first ones charge more
abbrev Rises : Blocks → ℕ → ℕ → ℕ → ℕ → Type 0
Rises blocks first cursor i total = Sums CapsuleFits capsule_addr capsule_block bond_rise blocks first cursor i total

pub rises_start : (blocks : Blocks) (first : ℕ) → Rises blocks first first 0 0
rises_start blocks first = sums_start CapsuleFits capsule_addr capsule_block bond_rise

module _ {blocks : Blocks} {first cursor i total : ℕ} (s : Rises blocks first cursor i total) where
  pub rise_there : {rows : List CapsuleRow} → CapsulesAt blocks first rows → cursor ≢ 0 → SomeCapsule (blocks cursor)
  rise_there c nz = capsule_at (at_one CapsuleFits capsule_addr capsule_block bond_rise c s nz (λ p n x. refl))

  pub rises_on : (seen : SeenCapsule) → cursor ≢ 0 → SeesCapsule (blocks cursor) seen → (value : ℕ) →
      value ≡ bytes_charge spaces.Heap seen.bytes spaces.Heap - capsule_bytes seen.bytes → Rises blocks first seen.next (i + 1) (total + value)
  rises_on seen nz v value e =
      sums_on CapsuleFits capsule_addr capsule_block bond_rise s nz
      (λ x n b f l. e ∙ ap (λ m. bytes_charge spaces.Heap m spaces.Heap - capsule_bytes m)
      (v.bytes n x (record { block = b; fits = f; small = l })))
      (λ x n b f l. v.next n x (record { block = b; fits = f; small = l })) (λ p n x. refl) first_capsule

  pub rises_all : cursor ≡ 0 → TellsRise blocks first total
  rises_all z = sums_all CapsuleFits capsule_addr capsule_block bond_rise s z

  pub rises_many : i ≡ 4194304 → TellsRise blocks first total
  rises_many all = sums_most CapsuleFits capsule_addr capsule_block bond_rise s all

-- what an extent of so many bytes charges, and a header or trailer
module _ (extent : Amounts) (bytes capsule : ℕ) (e : extent ≡ extent_amounts spaces.Heap bytes) (f : capsule ≡ capsule_bytes bytes) where
  heap_is : extent.heap ≡ bytes + 32
  heap_is = ap (λ (a : Amounts). a.heap) e

  pub rise_is : extent.heap - capsule ≡ bytes_charge spaces.Heap bytes spaces.Heap - capsule_bytes bytes
  rise_is = λ i. (e i).heap - f i

  pub rise_most : extent.heap - capsule ≤ 32
  rise_most = let h = heap_is in omega (arith, h, f)

-- the chains of an object that is kept
pub some_headers : {heap : Heap} {object : ℕ} {firsts : Firsts} → TellsFirsts heap.blocks object firsts → SomeWithQueue heap object →
    SomeCapsules heap.blocks firsts.header
some_headers {firsts = firsts} t q =
    let k = object_of q.keeps in
    record { rows = q.row.headers; is = side_at k sides.Headers firsts.header (t.told q.row k).header }

pub some_trailers : {heap : Heap} {object : ℕ} {firsts : Firsts} → TellsFirsts heap.blocks object firsts → SomeWithQueue heap object →
    SomeCapsules heap.blocks firsts.trailer
some_trailers {firsts = firsts} t q =
    let k = object_of q.keeps in
    record { rows = q.row.trailers; is = side_at k sides.Trailers firsts.trailer (t.told q.row k).trailer }

-- both together charge so much more
all_rise : {blocks : Blocks} {object : ℕ} {firsts : Firsts} → TellsFirsts blocks object firsts → (h u : ℕ) → TellsRise blocks firsts.header h →
    TellsRise blocks firsts.trailer u → {row : ObjectRow} → KeepsObject blocks object row → h + u ≡ sum_by bond_rise (ends_of row)
all_rise {firsts = firsts} t h u a b {row} k =
    let x = a.tells row.headers (side_at k sides.Headers firsts.header (t.told row k).header) in
    let y = b.tells row.trailers (side_at k sides.Trailers firsts.trailer (t.told row k).trailer) in
    let s = sum_by-append bond_rise row.headers row.trailers in omega (arith, x, y, s)

module _ {object : ℕ} {firsts : Firsts} (heap : Heap) (t : TellsFirsts heap.blocks object firsts) (h u : ℕ)
    (a : TellsRise heap.blocks firsts.header h) (b : TellsRise heap.blocks firsts.trailer u) where
  pub charges_bond : {number : ℕ} {new : Heap} (amounts : Amounts) → amounts ≡ heap_amounts (h + u) →
      ChargesObject object number (λ acct. amounts) heap new → ChargesBond object number heap new
  charges_bond {number} {new} amounts e c = record {
    charges = λ row tickets k.
        subst (λ n. ChargesAccount row.account number (heap_amounts n) heap new) (all_rise t h u a b (object_of k))
        (subst (λ m. ChargesAccount row.account number m heap new) e (c.charges row tickets k));
  }

  pub bond_uncharged : (number : ℕ) (new : Heap) (amounts : Amounts) (stop : Stop) → amounts ≡ heap_amounts (h + u) →
      ObjectChargeStops object number (λ acct. amounts) heap new stop → BondChargeStops object number heap new stop
  bond_uncharged number new amounts (Refused (refusals.LogFull lines room)) e s = (
    record {
      allows = λ row tickets k.
          subst (λ n. refusal_in heap row.account number (heap_amounts n) tickets ≡ None) (all_rise t h u a b (object_of k))
          (subst (λ m. refusal_in heap row.account number m tickets ≡ None) e (s.0.allows row tickets k));
    },
    s.1,
  )
  bond_uncharged number new amounts (Refused refusal) e s = (
    record {
      refuses = λ row tickets k.
          subst (λ n. refusal_in heap row.account number (heap_amounts n) tickets ≡ Some refusal) (all_rise t h u a b (object_of k))
          (subst (λ m. refusal_in heap row.account number m tickets ≡ Some refusal) e (s.0.refuses row tickets k));
    },
    s.1,
  )
  bond_uncharged number new amounts DiskFault e s = s
  bond_uncharged number new amounts MediaFault e s = s
  bond_uncharged number new amounts Failed e s = s

-- nothing was charged for a fault
pub charge_faults : (object number : ℕ) (old new : Heap) (stop : Stop) → OnlyFault stop → BondChargeStops object number old new stop
charge_faults object number old new (Refused refusal) f = absurd f
charge_faults object number old new DiskFault f = f
charge_faults object number old new MediaFault f = f
charge_faults object number old new Failed f = f
