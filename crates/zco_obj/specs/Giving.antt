-- Headers and trailers that are given back, the first one of a chain first.
use Rattle.std.specs.Prelude.{◌≡◌, ◌≤◌, ℕ, List, length, map, sum_by}
use Rattle.sdr_base.specs.Entries.{Entries, BlocksAre}
use Rattle.sdr_base.specs.Making.{GaveSome, Made, gave}
use Rattle.sdr_base.specs.Objects.{Heap, OnlyFault}
use Rattle.sdr_base.specs.ZcoObjects.{CapsuleRow, capsule_addr}
use Rattle.sdr_base.specs.declared.account.Amounts.{Amounts}
use Rattle.sdr_base.specs.declared.refusal.Refusal.TheVariants as refusals
use Rattle.sdr_base.specs.declared.stop.Stop.{Stop}
use Rattle.sdr_base.specs.declared.stop.Stop.TheVariants.{Refused}
use Rattle.sdr_model.specs.Charges.{capsule_bytes}
use Rattle.zco_obj.specs.Walks.{CapsulesAt}

-- each amount is at most so many bytes
pub record AreAtMost (most : ℕ) (amounts : Amounts) : Type 0 where
  pub file : amounts.file ≤ most
  pub bulk : amounts.bulk ≤ most
  pub heap : amounts.heap ≤ most

-- some headers or trailers are a chain there, and there is room for as many moves
pub record SomeCapsulesToGive (heap : Heap) (first : ℕ) : Type 0 where
  pub rows : List CapsuleRow
  pub is : CapsulesAt heap.blocks first rows
  pub room : length rows ≤ heap.spare

-- the bytes of heap space that these headers or trailers charge
abbrev pub capsules_charge : List CapsuleRow → ℕ
capsules_charge = sum_by (λ c. capsule_bytes (length c.text))

-- these headers or trailers were given back, what they charge is so much, and the other blocks stand
pub record CapsulesGone (rows : List CapsuleRow) (rest : Entries) (old new : Heap) (charged : ℕ) : Type 0 where
  pub stands : BlocksAre new.blocks rest
  pub made : Made (gave (map capsule_addr rows)) old new
  pub charge : charged ≡ capsules_charge rows

-- so it is with whichever are a chain there
pub record GivesCapsules (first : ℕ) (old new : Heap) (charged : ℕ) : Type 0 where
  pub gives : (rows : List CapsuleRow) (c : CapsulesAt old.blocks first rows) → CapsulesGone rows c.rest old new charged

-- of whichever are a chain there some first ones were given back
pub record GivesSomeCapsules (first : ℕ) (old new : Heap) : Type 0 where
  pub gives : (rows : List CapsuleRow) → CapsulesAt old.blocks first rows → GaveSome (map capsule_addr rows) old new

-- why they aren't all: there is no log room; or a fault
abbrev pub CapsuleGiveStops : ℕ → Heap → Heap → Stop → Type 0
CapsuleGiveStops first old new (Refused (refusals.LogFull lines room)) = GivesSomeCapsules first old new
CapsuleGiveStops first old new stop = OnlyFault stop
